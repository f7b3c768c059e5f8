-- Lines that are headers, as headers of the grammar, and their values by name.
use Rattle.std.proofs.Common.{◌≡◌, inl, inr, ◌≢◌, ℕ, Bool, true, false, cond, not, ◌||◌, List, [], ◌∷◌, ◌++◌, length, map, Option, Some, None, Ok, refl, sym, ap, subst, ◌∙◌, arith, append_assoc, nat_eq, bytes_eq, is_some, true≢false, ◌+◌, ◌-◌, ◌≤◌, ap₂, ◌&&◌}
use Rattle.std.specs.List.{AllByRecursion, list_all, filter_map, cons_option}
use Rattle.std.proofs.lemmas.Bool.{eqb-true, ne_eqb, and_parts}
use Rattle.svn_lists.proofs.Tests.{false_from_clash}
use Rattle.std.proofs.lemmas.Option.{none-some, same_Some}
use Rattle.svn_lists.proofs.Every.{all_map}
use Rattle.svn_lists.proofs.Options.{some-none}
use Rattle.svn_lists.proofs.Equality.{same_bytes, bytes_eq-same}
use Rattle.svn_dump.specs.Blocks.{block_at, is_space, is_line_feed}
use Rattle.svn_dump.specs.Headers.{header_of, is_header, are_headers, lines_of, valued, if_named, value_in, single, header_value, values_of}
use Rattle.law_dump.specs.Grammar.{HasLine, ended, begins_blank, IsBlank, IsWhole, Header, IsHeader, IsBlock, header_lines, Gives}
use Rattle.law_dump.proofs.Lacking.{lacks, cut, parts_at, no_parts, first_part}
use Rattle.law_dump.proofs.HeaderFields.{header_text, header_of_text, lines_of_line, header_line_more}
use Rattle.law_dump.proofs.Singles.{OnlyIf, found_only, only_found}
use Rattle.law_dump.proofs.HeaderBlocks.{begins_header, no_blank, headers_of_whole, line_is, whole_text}
use Rattle.law_dump.proofs.GrammarBlocks.{blank_lines_passed, block_found}

-- ---- one line

record HeaderIn (l : List ℕ) : Type 0 where
  header : Header
  name : lacks 58 header.0 ≡ true
  parts : l ≡ header_text header.0 header.1

header_in : (l : List ℕ) → is_some (header_of l) ≡ true → HeaderIn l
header_in l h = elim (cut 58 l) [
  | inl none ↦
      absurd (true≢false (sym h ∙ ap (is_some {T = Header}) (no_parts 58 valued l none)))
  | inr c ↦
      with_value c.front c.back c.plain c.parts
      (sym (ap (is_some {T = Header}) (ap header_of c.parts ∙ parts_at 58 valued c.front c.back c.plain)) ∙ h)
]
  where
    with_space : (name : List ℕ) (b : ℕ) (value : List ℕ) (space : Bool) → lacks 58 name ≡ true → l ≡ name ++ 58 ∷ b ∷ value → nat_eq b 32 ≡ space
        → is_some {T = Header} (cond space (Some (name, value)) None) ≡ true → HeaderIn l
    with_space name b value false plain parts e h = absurd (true≢false (sym h))
    with_space name b value true plain parts e h =
        record { header = (name, value); name = plain; parts = parts ∙ ap (λ (x : ℕ). name ++ 58 ∷ x ∷ value) (eqb-true b 32 e) }

    with_value : (name value : List ℕ) → lacks 58 name ≡ true → l ≡ name ++ 58 ∷ value → is_some (valued name value) ≡ true → HeaderIn l
    with_value name [] plain parts h = absurd (true≢false (sym h))
    with_value name (b ∷ value) plain parts h = with_space name b value (nat_eq b 32) plain parts refl h

-- ---- all lines

record Headers (block : List ℕ) : Type 0 where
  headers : List Header
  are : AllByRecursion IsHeader headers
  block_is : block ≡ header_lines headers

no_feed_parts : (name value : List ℕ) → lacks 10 (header_text name value) ≡ true → (lacks 10 name ≡ true) × (lacks 10 value ≡ true)
no_feed_parts [] value h = (refl, h)
no_feed_parts (b ∷ name) value h =
    let parts = and_parts (not (nat_eq b 10)) (lacks 10 (header_text name value)) h in
    let more = no_feed_parts name value parts.1 in
    (rw (parts.0, more.0) refl, more.1)

some_length : (l : List ℕ) → l ≢ [] → nat_eq (length l) 0 ≡ false
some_length [] h = absurd (h refl)
some_length (b ∷ l) h = ne_eqb (length (b ∷ l)) 0 (λ none. omega (arith, none))

is_header_parts : (l : List ℕ) → l ≢ [] → is_header l ≡ true → is_some (header_of l) ≡ true
is_header_parts l some h = sym (ap (λ b. b || is_some (header_of l)) (some_length l some)) ∙ h

one_header : (l : List ℕ) (more : List Header) → IsWhole l → HeaderIn l → AllByRecursion IsHeader more → Headers ((l ++ 10 ∷ []) ++ header_lines more)
one_header l more whole h are =
    let name = h.header.0 in
    let value = h.header.1 in
    let plain = no_feed_parts name value (subst (λ (x : List ℕ). lacks 10 x ≡ true) h.parts whole.plain) in
    record {
      headers = h.header ∷ more;
      are = (record { name = h.name; name_line = plain.0; value = plain.1 }, are);
      block_is =
          ap (λ (x : List ℕ). (x ++ 10 ∷ []) ++ header_lines more) (h.parts ∙ sym (append_assoc name (58 ∷ 32 ∷ []) value));
    }

lines_cut : (l : List ℕ) (all : List (List ℕ)) → IsWhole l → lines_of (ended (l ∷ all)) ≡ l ∷ lines_of (ended all)
lines_cut l all whole = ap lines_of (append_assoc l (10 ∷ []) (ended all)) ∙ first_part 10 l (ended all) whole.plain

headers_in : (all : List (List ℕ)) → AllByRecursion IsWhole all → are_headers (ended all) ≡ true → Headers (ended all)
headers_in [] whole h = record { headers = []; are = tt; block_is = refl }
headers_in (l ∷ all) whole h =
    let parts = and_parts (is_header l) (are_headers (ended all)) (sym (ap (list_all is_header) (lines_cut l all whole.0)) ∙ h) in
    let more = headers_in all whole.1 parts.1 in
    let one = one_header l more.headers whole.0 (header_in l (is_header_parts l whole.0.some parts.0)) more.are in
    record {
      headers = one.headers;
      are = one.are;
      block_is = ap (λ (x : List ℕ). (l ++ 10 ∷ []) ++ x) more.block_is ∙ one.block_is;
    }

-- ---- the block

pub record BlockOf (bytes block rest : List ℕ) : Type 0 where
  pub headers : List Header
  pub block_is : block ≡ header_lines headers
  pub is : IsBlock bytes headers rest

pub block_of : (bytes : List ℕ) (room b : ℕ) (block rest : List ℕ) → block_at false room bytes ≡ Ok (b ∷ block, rest)
    → are_headers (b ∷ block) ≡ true → BlockOf bytes (b ∷ block) rest
block_of bytes room b block rest h k =
    let found = block_found bytes false room b block rest h in
    let all = headers_in found.lines found.whole (sym (ap are_headers found.block_is) ∙ k) in
    let same = found.block_is ∙ all.block_is in
    record {
      headers = all.headers;
      block_is = same;
      is = record {
        blank = found.blank;
        parts = found.parts ∙ ap (λ (x : List ℕ). ended found.blank ++ (x ++ 10 ∷ rest)) same;
        blank_is = found.blank_is;
        headers_are = all.are;
        begins = sym (ap begins_blank same) ∙ found.begins;
      };
    }

pub are_headers_of : (headers : List Header) → AllByRecursion IsHeader headers → are_headers (header_lines headers) ≡ true
are_headers_of [] h = refl
are_headers_of (x ∷ headers) h =
    header_line_more x.0 x.1 (header_lines headers) h.0.name h.0.name_line h.0.value (are_headers_of headers h.1)

-- ---- what is looked up is given

-- the value of a header of this name
abbrev value_if : List ℕ → Header → Option (List ℕ)
value_if name h = if_named name (Some h)

values_are : (name : List ℕ) (headers : List Header) → AllByRecursion IsHeader headers
    → values_of name (header_lines headers) ≡ filter_map (value_if name) headers
values_are name [] h = refl
values_are name (x ∷ headers) h =
    ap (filter_map (value_in name)) (lines_of_line x.0 x.1 (header_lines headers) h.0.name_line h.0.value)
    ∙ ap₂ (λ (o : Option Header) (l : List (List ℕ)). cons_option (if_named name o) l) (header_of_text x.0 x.1 h.0.name)
    (values_are name headers h.1)

other_name : (a b : List ℕ) → bytes_eq a b ≡ false → a ≢ b
other_name a b e same = true≢false (sym (bytes_eq-same b) ∙ ap (λ (x : List ℕ). bytes_eq x b) (sym same) ∙ e)

not_same : (a b : List ℕ) → a ≢ b → bytes_eq a b ≡ false
not_same a b h = false_from_clash (bytes_eq a b) (λ e. absurd (h (same_bytes a b e)))

has_not : (name : List ℕ) (h : Header) → value_if name h ≡ None → h.0 ≢ name
has_not name h e = by (bytes_eq h.0 name) refl e
  where
    by : (same : Bool) → bytes_eq h.0 name ≡ same → cond same (Some h.1) None ≡ None → h.0 ≢ name
    by true f e = absurd (some-none h.1 e)
    by false f e = other_name h.0 name f

has : (name : List ℕ) (h : Header) (value : List ℕ) → value_if name h ≡ Some value → h ≡ (name, value)
has name h value e = by (bytes_eq h.0 name) refl e
  where
    by : (same : Bool) → bytes_eq h.0 name ≡ same → cond same (Some h.1) None ≡ Some value → h ≡ (name, value)
    by true f e = ap₂ (λ (x y : List ℕ). (x, y)) (same_bytes h.0 name f) (same_Some h.1 value e)
    by false f e = absurd (none-some value e)

only_gives : (name : List ℕ) (headers : List Header) (o : Option (List ℕ)) → OnlyIf (value_if name) headers o → Gives headers name o
only_gives name headers None h = all_map (λ (x : Header). value_if name x ≡ None) (λ (x : Header). x.0 ≢ name) (has_not name) headers h
only_gives name headers (Some value) h =
    let none = all_map (λ (x : Header). value_if name x ≡ None) (λ (x : Header). x.0 ≢ name) (has_not name) in (
      h.before,
      h.after,
      h.parts ∙ ap (λ (x : Header). h.before ++ x ∷ h.after) (has name h.one value h.is),
      none h.before h.none_before,
      none h.after h.none_after,
    )

gives_only : (name : List ℕ) (headers : List Header) (o : Option (List ℕ)) → Gives headers name o → OnlyIf (value_if name) headers o
gives_only name headers None h =
    all_map (λ (x : Header). x.0 ≢ name) (λ (x : Header). value_if name x ≡ None)
    (λ x e. ap (λ (b : Bool). cond b (Some x.1) None) (not_same x.0 name e)) headers h
gives_only name headers (Some value) h =
    let none =
    all_map (λ (x : Header). x.0 ≢ name) (λ (x : Header). value_if name x ≡ None)
    (λ x e. ap (λ (b : Bool). cond b (Some x.1) None) (not_same x.0 name e)) in
    record {
      before = h.0;
      one = (name, value);
      after = h.1;
      parts = h.2;
      is = ap (λ (b : Bool). cond b (Some value) None) (bytes_eq-same name);
      none_before = none h.0 h.3;
      none_after = none h.1 h.4;
    }

-- a value that is looked up in headers of the grammar is the one that they give
pub value_gives : (headers : List Header) (name : List ℕ) (o : Option (List ℕ)) → AllByRecursion IsHeader headers
    → header_value (header_lines headers) name ≡ Ok o → Gives headers name o
value_gives headers name o h e = only_gives name headers o (found_only (value_if name) headers o (sym (ap single (values_are name headers h)) ∙ e))

pub value_given : (headers : List Header) (name : List ℕ) (o : Option (List ℕ)) → AllByRecursion IsHeader headers
    → Gives headers name o → header_value (header_lines headers) name ≡ Ok o
value_given headers name o h g = ap single (values_are name headers h) ∙ only_found (value_if name) headers o (gives_only name headers o g)

-- ---- the same of any lines

line_values : (name : List ℕ) (all : List (List ℕ)) → AllByRecursion IsWhole all → values_of name (ended all) ≡ filter_map (value_in name) all
line_values name [] h = refl
line_values name (l ∷ all) h =
    ap (filter_map (value_in name)) (lines_cut l all h.0)
    ∙ ap (λ (o : List (List ℕ)). cons_option (value_in name l) o) (line_values name all h.1)

-- the line is the header of this name
line_value : (name value : List ℕ) → lacks 58 name ≡ true → value_in name (header_text name value) ≡ Some value
line_value name value plain =
    ap (if_named name) (header_of_text name value plain) ∙ ap (λ (b : Bool). cond b (Some value) None) (bytes_eq-same name)

is_other : (name l : List ℕ) → lacks 58 name ≡ true → value_in name l ≡ None → (value : List ℕ) → l ≢ header_text name value
is_other name l plain none value same = none-some value (sym none ∙ ap (value_in name) same ∙ line_value name value plain)

is_line : (name l value : List ℕ) → value_in name l ≡ Some value → l ≡ header_text name value
is_line name l value h = by (header_of l) refl h
  where
    by : (o : Option Header) → header_of l ≡ o → if_named name o ≡ Some value → l ≡ header_text name value
    by None e k = absurd (none-some value k)
    by (Some header) e k =
        let found = header_in l (ap (is_some {T = Header}) e) in
        let same : found.header ≡ header =
        same_Some found.header header (sym (header_of_text found.header.0 found.header.1 found.name) ∙ ap header_of (sym found.parts) ∙ e) in
        found.parts ∙ ap (λ (h : Header). header_text h.0 h.1) (same ∙ has name header value k)

no_value : (name l : List ℕ) → ((value : List ℕ) → l ≢ header_text name value) → value_in name l ≡ None
no_value name l h = by (value_in name l) refl
  where
    by : (o : Option (List ℕ)) → value_in name l ≡ o → o ≡ None
    by None e = refl
    by (Some value) e = absurd (h value (is_line name l value e))

module _ (name : List ℕ) (plain : lacks 58 name ≡ true) (all : List (List ℕ)) (whole : AllByRecursion IsWhole all) (value : List ℕ) where
  pub line_gives : header_value (ended all) name ≡ Ok (Some value) → HasLine all name value
  line_gives h =
      let only = found_only (value_in name) all (Some value) (sym (ap single (line_values name all whole)) ∙ h) in
      let other = all_map (λ (l : List ℕ). value_in name l ≡ None) (λ (l : List ℕ). (v : List ℕ) → l ≢ header_text name v)
      (λ l e. is_other name l plain e) in (
        only.before,
        only.after,
        only.parts ∙ ap (λ (l : List ℕ). only.before ++ l ∷ only.after) (is_line name only.one value only.is),
        other only.before only.none_before,
        other only.after only.none_after,
      )

  pub line_given : HasLine all name value → header_value (ended all) name ≡ Ok (Some value)
  line_given h =
      let none = all_map (λ (l : List ℕ). (v : List ℕ) → l ≢ header_text name v) (λ (l : List ℕ). value_in name l ≡ None)
      (λ l e. no_value name l e) in
      ap single (line_values name all whole)
      ∙ only_found (value_in name) all (Some value) (record {
        before = h.0;
        one = header_text name value;
        after = h.1;
        parts = h.2;
        is = line_value name value plain;
        none_before = none h.0 h.3;
        none_after = none h.1 h.4;
      })

-- ---- the block is found

begins_solid : (bytes more : List ℕ) → begins_blank bytes ≡ false → begins_header (bytes ++ more) ≡ true
begins_solid [] more h = absurd (true≢false h)
begins_solid (b ∷ bytes) more h = by (is_space b) (is_line_feed b) refl refl h
  where
    by : (space feed : Bool) → is_space b ≡ space → is_line_feed b ≡ feed → space ≡ false → (not space && not feed) ≡ true
    by space false e f g = rw g refl
    by space true e f g = absurd (true≢false (sym (ap is_space (eqb-true b 10 f)) ∙ e ∙ g))

-- any lines
pub lines_given : (limit : ℕ) (blank all : List (List ℕ)) (rest : List ℕ) → AllByRecursion IsBlank blank → AllByRecursion IsWhole all
    → begins_blank (ended all) ≡ false → length (ended blank) + length (ended all) ≤ limit
    → block_at false limit (ended blank ++ (ended all ++ 10 ∷ rest)) ≡ Ok (ended all, rest)
lines_given limit blank all rest blank_is whole begins fits =
    let room = limit - length (ended blank) in
    let sum : limit ≡ length (ended blank) + room = omega (arith, fits) in
    ap (λ (n : ℕ). block_at false n (ended blank ++ (ended all ++ 10 ∷ rest))) sum
    ∙ blank_lines_passed blank room (ended all ++ 10 ∷ rest) blank_is
    ∙ no_blank room (ended all ++ 10 ∷ rest) (begins_solid (ended all) (10 ∷ rest) begins)
    ∙ headers_of_whole all room rest whole (omega (arith, fits))

-- the lines of headers
abbrev texts : List Header → List (List ℕ)
texts headers = map (λ (h : Header). header_text h.0 h.1) headers

lines_of_texts : (headers : List Header) → header_lines headers ≡ ended (texts headers)
lines_of_texts [] = refl
lines_of_texts (h ∷ headers) =
    ap₂ (λ (x y : List ℕ). x ++ y) (line_is h.0 h.1) (lines_of_texts headers)

whole_texts : (headers : List Header) → AllByRecursion IsHeader headers → AllByRecursion IsWhole (texts headers)
whole_texts [] h = tt
whole_texts (x ∷ headers) h = (whole_text x.0 x.1 h.0.name_line h.0.value, whole_texts headers h.1)

pub block_given : (limit : ℕ) (bytes : List ℕ) (headers : List Header) (rest : List ℕ) (block : IsBlock bytes headers rest)
    → length (ended block.blank) + length (header_lines headers) ≤ limit → block_at false limit bytes ≡ Ok (header_lines headers, rest)
block_given limit bytes headers rest block fits =
    let same = lines_of_texts headers in
    ap (block_at false limit) (block.parts ∙ ap (λ (l : List ℕ). ended block.blank ++ (l ++ 10 ∷ rest)) same)
    ∙ lines_given limit block.blank (texts headers) rest block.blank_is (whole_texts headers block.headers_are)
    (sym (ap begins_blank same) ∙ block.begins) (omega (arith, fits, ap length same))
    ∙ ap (λ (l : List ℕ). Ok (l, rest)) (sym same)
