-- Headers that are found are lines of the grammar, after blank ones.
use Rattle.std.proofs.Common.{◌≡◌, inl, inr, ℕ, ◌-◌, Bool, true, false, cond, not, ◌&&◌, ◌||◌, arith, List, [], ◌∷◌, ◌++◌, Ok, Err, refl, sym, ap, subst, ◌∙◌, append_assoc, nat_eq, true≢false, ◌+◌, length, length-append, ap₂}
use Rattle.std.specs.List.{AllByRecursion}
use Rattle.std.proofs.lemmas.Bool.{eqb-true, ne_eqb}
use Rattle.std.proofs.lemmas.Bool.Decides.{nat_tests}
use Rattle.svn_dump.specs.declared.fault.Reason.TheVariants.{HeadersTooLong}
use Rattle.svn_dump.specs.Blocks.{headers_at, block_at, with_front, is_line_feed, is_space}
use Rattle.law_dump.specs.Grammar.{ended, begins_blank, IsBlank, IsWhole}
use Rattle.law_dump.proofs.Lacking.{lacks, lacks_parts}
use Rattle.law_dump.proofs.Choices.{chosen, ok_second, front_ok, read_same}

-- ---- lines

-- lines up to an empty one
record Lines (bytes block rest : List ℕ) : Type 0 where
  lines : List (List ℕ)
  whole : AllByRecursion IsWhole lines
  block_is : block ≡ ended lines
  parts : bytes ≡ block ++ 10 ∷ rest

-- the same, where a line has begun
record InLine (bytes block rest : List ℕ) : Type 0 where
  text : List ℕ
  plain : lacks 10 text ≡ true
  lines : List (List ℕ)
  whole : AllByRecursion IsWhole lines
  block_is : block ≡ text ++ 10 ∷ ended lines
  parts : bytes ≡ block ++ 10 ∷ rest

abbrev LinesBy : Bool → List ℕ → List ℕ → List ℕ → Type 0
LinesBy true bytes block rest = Lines bytes block rest
LinesBy false bytes block rest = InLine bytes block rest

no_line : (fresh : Bool) (b : ℕ) (bs block rest : List ℕ) → (fresh && is_line_feed b) ≡ true → ([] ≡ block) × (bs ≡ rest)
    → LinesBy fresh (b ∷ bs) block rest
no_line false b bs block rest h same = absurd (true≢false (sym h))
no_line true b bs block rest h same =
    let feed : b ≡ 10 = eqb-true b 10 h in
    record { lines = []; whole = tt; block_is = sym same.0; parts = cc }

line_begins : (b : ℕ) (bs block more rest : List ℕ) → is_line_feed b ≡ false → InLine bs more rest → block ≡ b ∷ more
    → Lines (b ∷ bs) block rest
line_begins b bs block more rest other l same = record {
  lines = (b ∷ l.text) ∷ l.lines;
  whole = (record { plain = rw other l.plain; some = λ e. cc }, l.whole);
  block_is =
      same ∙ ap (λ (xs : List ℕ). b ∷ xs) (l.block_is ∙ sym (append_assoc l.text (10 ∷ []) (ended l.lines)));
  parts = ap (λ (xs : List ℕ). b ∷ xs) l.parts ∙ ap (λ (xs : List ℕ). xs ++ 10 ∷ rest) (sym same);
}

line_goes_on : (b : ℕ) (bs block more rest : List ℕ) → is_line_feed b ≡ false → InLine bs more rest → block ≡ b ∷ more
    → InLine (b ∷ bs) block rest
line_goes_on b bs block more rest other l same = record {
  text = b ∷ l.text;
  plain = rw other l.plain;
  lines = l.lines;
  whole = l.whole;
  block_is = same ∙ ap (λ (xs : List ℕ). b ∷ xs) l.block_is;
  parts = ap (λ (xs : List ℕ). b ∷ xs) l.parts ∙ ap (λ (xs : List ℕ). xs ++ 10 ∷ rest) (sym same);
}

line_ends : (b : ℕ) (bs block more rest : List ℕ) → is_line_feed b ≡ true → Lines bs more rest → block ≡ b ∷ more
    → InLine (b ∷ bs) block rest
line_ends b bs block more rest feed l same =
    let is_feed : b ≡ 10 = eqb-true b 10 feed in
    record {
      text = [];
      plain = refl;
      lines = l.lines;
      whole = l.whole;
      block_is = same ∙ ap (λ (x : ℕ). x ∷ more) is_feed ∙ ap (λ (xs : List ℕ). 10 ∷ xs) l.block_is;
      parts = ap (λ (xs : List ℕ). b ∷ xs) l.parts ∙ ap (λ (xs : List ℕ). xs ++ 10 ∷ rest) (sym same);
    }

one_more_byte : (fresh feed : Bool) (b : ℕ) (bs block more rest : List ℕ) → is_line_feed b ≡ feed → (fresh && feed) ≡ false
    → LinesBy feed bs more rest → block ≡ b ∷ more → LinesBy fresh (b ∷ bs) block rest
one_more_byte true true b bs block more rest e h l same = absurd (true≢false h)
one_more_byte true false b bs block more rest e h l same = line_begins b bs block more rest e l same
one_more_byte false true b bs block more rest e h l same = line_ends b bs block more rest e l same
one_more_byte false false b bs block more rest e h l same = line_goes_on b bs block more rest e l same

lines_found : (bytes : List ℕ) (fresh : Bool) (room : ℕ) (block rest : List ℕ) → headers_at fresh room bytes ≡ Ok (block, rest)
    → LinesBy fresh bytes block rest
unfolding headers_at
lines_found [] fresh room block rest h = cc
lines_found (b ∷ bs) fresh room block rest h =
    let more = with_front (b ∷ []) (headers_at (is_line_feed b) (room - 1) bs) in
    elim (chosen (fresh && is_line_feed b) (Ok ([], bs)) (cond (nat_eq room 0) (Err HeadersTooLong) more) (Ok (block, rest)) h) [
      | inl end ↦ no_line fresh b bs block rest end.0 (read_same ([], bs) (block, rest) end.1)
      | inr on ↦ (
          let some = ok_second (nat_eq room 0) HeadersTooLong more (block, rest) on.1 in
          let after = front_ok (b ∷ []) (headers_at (is_line_feed b) (room - 1) bs) block rest some.1 in
          one_more_byte fresh (is_line_feed b) b bs block after.0 rest refl on.0
          (lines_found bs (is_line_feed b) (room - 1) after.0 rest after.1) after.2
          )
    ]

-- ---- blank lines before them

pub record Block (bytes block rest : List ℕ) : Type 0 where
  pub blank : List (List ℕ)
  pub blank_is : AllByRecursion IsBlank blank
  pub lines : List (List ℕ)
  pub whole : AllByRecursion IsWhole lines
  pub block_is : block ≡ ended lines
  pub begins : begins_blank block ≡ false
  pub parts : bytes ≡ ended blank ++ (block ++ 10 ∷ rest)

-- the same, where a blank line has begun
pub record InBlank (bytes block rest : List ℕ) : Type 0 where
  pub text : List ℕ
  pub plain : lacks 10 text ≡ true
  pub after : List ℕ
  pub parts : bytes ≡ text ++ 10 ∷ after
  pub found : Block after block rest

abbrev pub BlockBy : Bool → List ℕ → List ℕ → List ℕ → Type 0
BlockBy true bytes block rest = InBlank bytes block rest
BlockBy false bytes block rest = Block bytes block rest

-- a blank line before a block
blank_before : (text bytes block rest : List ℕ) → IsBlank text → Block bytes block rest → Block (text ++ 10 ∷ bytes) block rest
blank_before text bytes block rest h b = record {
  blank = text ∷ b.blank;
  blank_is = (h, b.blank_is);
  lines = b.lines;
  whole = b.whole;
  block_is = b.block_is;
  begins = b.begins;
  parts =
      ap (λ (xs : List ℕ). text ++ 10 ∷ xs) b.parts ∙ sym (append_assoc text (10 ∷ []) (ended b.blank ++ (block ++ 10 ∷ rest)))
      ∙ sym (append_assoc (text ++ 10 ∷ []) (ended b.blank) (block ++ 10 ∷ rest));
}

blank_byte : (blank feed : Bool) (b : ℕ) (bs block rest : List ℕ) → is_line_feed b ≡ feed → (blank || is_space b) ≡ true
    → BlockBy (not feed) bs block rest → BlockBy blank (b ∷ bs) block rest
blank_byte true true b bs block rest e h k = record {
  text = [];
  plain = refl;
  after = bs;
  parts = ap (λ (x : ℕ). x ∷ bs) (eqb-true b 10 e);
  found = k;
}
blank_byte true false b bs block rest e h k = record {
  text = b ∷ k.text;
  plain = rw e k.plain;
  after = k.after;
  parts = ap (λ (xs : List ℕ). b ∷ xs) k.parts;
  found = k.found;
}
blank_byte false true b bs block rest e h k =
    subst (λ (x : ℕ). Block (x ∷ bs) block rest) (sym (eqb-true b 10 e))
    (blank_before [] bs block rest (record { whole = refl; blank = refl }) k)
blank_byte false false b bs block rest e h k =
    subst (λ (xs : List ℕ). Block (b ∷ xs) block rest) (sym k.parts)
    (blank_before (b ∷ k.text) k.after block rest (record { whole = rw e k.plain; blank = h }) k.found)

-- the first line that isn't blank
block_begins : (blank : Bool) (b : ℕ) (bs block more rest : List ℕ) → (blank || is_space b) ≡ false → InLine bs more rest → block ≡ b ∷ more
    → BlockBy blank (b ∷ bs) block rest
block_begins true b bs block more rest h l same = absurd (true≢false h)
block_begins false b bs block more rest h l same =
    let lines = line_begins b bs block more rest (no_feed b h) l same in
    record {
      blank = [];
      blank_is = tt;
      lines = lines.lines;
      whole = lines.whole;
      block_is = lines.block_is;
      begins = ap begins_blank same ∙ h;
      parts = lines.parts;
    }
  where
    no_feed : (b : ℕ) → is_space b ≡ false → is_line_feed b ≡ false
    no_feed b h = grind (arith, nat_tests)

not_empty : (c : ℕ) (block : List ℕ) → [] ≡ c ∷ block → ⊥
not_empty c block e = cc

pub block_found : (bytes : List ℕ) (blank : Bool) (room c : ℕ) (block rest : List ℕ) → block_at blank room bytes ≡ Ok (c ∷ block, rest)
    → BlockBy blank bytes (c ∷ block) rest
unfolding block_at
block_found [] blank room c block rest h = absurd (not_empty c block (read_same ([], []) (c ∷ block, rest) h).0)
block_found (b ∷ bs) blank room c block rest h =
    let on = block_at (not (is_line_feed b)) (room - 1) bs in
    let first = with_front (b ∷ []) (headers_at false (room - 1) bs) in
    let some = ok_second (nat_eq room 0) HeadersTooLong (cond (blank || is_space b) on first) (c ∷ block, rest) h in
    elim (chosen (blank || is_space b) on first (Ok (c ∷ block, rest)) some.1) [
      | inl skip ↦
          blank_byte blank (is_line_feed b) b bs (c ∷ block) rest refl skip.0
          (block_found bs (not (is_line_feed b)) (room - 1) c block rest skip.1)
      | inr begin ↦ (
          let after = front_ok (b ∷ []) (headers_at false (room - 1) bs) (c ∷ block) rest begin.1 in
          block_begins blank b bs (c ∷ block) after.0 rest begin.0 (lines_found bs false (room - 1) after.0 rest after.1) after.2
          )
    ]

-- ---- blank lines are passed over

one_less : (blank : Bool) (room : ℕ) (b : ℕ) (bytes : List ℕ) → (blank || is_space b) ≡ true
    → block_at blank (room + 1) (b ∷ bytes) ≡ block_at (not (is_line_feed b)) room bytes
unfolding block_at
one_less blank room b bytes h =
    let some : nat_eq (room + 1) 0 ≡ false = ne_eqb (room + 1) 0 (λ none. omega (arith, none)) in
    let less : room + 1 - 1 ≡ room = omega arith in
    rw (some, h) (ap (λ n. block_at (not (is_line_feed b)) n bytes) less)

blank_rest : (text : List ℕ) (room : ℕ) (bytes : List ℕ) → lacks 10 text ≡ true
    → block_at true (length text + 1 + room) (text ++ 10 ∷ bytes) ≡ block_at false room bytes
blank_rest [] room bytes plain =
    let all : 0 + 1 + room ≡ room + 1 = omega arith in
    ap (λ n. block_at true n (10 ∷ bytes)) all ∙ one_less true room 10 bytes refl
blank_rest (b ∷ text) room bytes plain =
    let parts = lacks_parts 10 b text plain in
    let all : length (b ∷ text) + 1 + room ≡ length text + 1 + room + 1 = omega arith in
    ap (λ n. block_at true n (b ∷ (text ++ 10 ∷ bytes))) all ∙ one_less true (length text + 1 + room) b (text ++ 10 ∷ bytes) refl
    ∙ ap (λ (feed : Bool). block_at (not feed) (length text + 1 + room) (text ++ 10 ∷ bytes)) parts.0 ∙ blank_rest text room bytes parts.1

blank_line : (l : List ℕ) (room : ℕ) (bytes : List ℕ) → IsBlank l → block_at false (length l + 1 + room) (l ++ 10 ∷ bytes) ≡ block_at false room bytes
blank_line [] room bytes h =
    let all : 0 + 1 + room ≡ room + 1 = omega arith in
    ap (λ n. block_at false n (10 ∷ bytes)) all ∙ one_less false room 10 bytes refl
blank_line (b ∷ l) room bytes h =
    let parts = lacks_parts 10 b l h.whole in
    let all : length (b ∷ l) + 1 + room ≡ length l + 1 + room + 1 = omega arith in
    ap (λ n. block_at false n (b ∷ (l ++ 10 ∷ bytes))) all ∙ one_less false (length l + 1 + room) b (l ++ 10 ∷ bytes) h.blank
    ∙ ap (λ (feed : Bool). block_at (not feed) (length l + 1 + room) (l ++ 10 ∷ bytes)) parts.0 ∙ blank_rest l room bytes parts.1

pub blank_lines_passed : (blank : List (List ℕ)) (room : ℕ) (bytes : List ℕ) → AllByRecursion IsBlank blank
    → block_at false (length (ended blank) + room) (ended blank ++ bytes) ≡ block_at false room bytes
blank_lines_passed [] room bytes h = let all : 0 + room ≡ room = omega arith in ap (λ n. block_at false n bytes) all
blank_lines_passed (l ∷ blank) room bytes h =
    let left = length (ended blank) + room in
    let all : length (ended (l ∷ blank)) + room ≡ length l + 1 + left =
    omega (arith, length-append (l ++ 10 ∷ []) (ended blank), length-append l (10 ∷ [])) in
    ap₂ (λ (n : ℕ) (bs : List ℕ). block_at false n bs) all
    (append_assoc (l ++ 10 ∷ []) (ended blank) bytes ∙ append_assoc l (10 ∷ []) (ended blank ++ bytes))
    ∙ blank_line l left (ended blank ++ bytes) h.0 ∙ blank_lines_passed blank room bytes h.1
