-- The bytes of a record, cut into its headers and what is after them.
use Rattle.std.proofs.Common.{◌≡◌, ℕ, zero, suc, ◌+◌, ◌-◌, ◌≤◌, Bool, true, false, not, ◌&&◌, List, [], ◌∷◌, ◌++◌, length, replicate, Option, Some, None, Result, Ok, Err, refl, sym, ap, ◌∙◌, append_assoc, arith, nat_eq, length-append, ◌≢◌, option_map, ap₂}
use Rattle.std.specs.List.{AllByRecursion, cons_option}
use Rattle.std.proofs.lemmas.Bool.{and_parts, ne_eqb}
use Rattle.svn_dump.specs.declared.fault.Reason.{Reason}
use Rattle.svn_dump.specs.Blocks.{headers_at, block_at, with_front, is_line_feed, is_space}
use Rattle.svn_dump.specs.Written.{line}
use Rattle.law_dump.specs.Grammar.{ended, IsWhole}
use Rattle.law_dump.proofs.Lacking.{lacks, lacks_parts, not_true}
use Rattle.law_dump.proofs.HeaderFields.{Field, AreFields, is_value, value_line, lines, header_text, text_is_line}

-- ---- one line

two_fronts : (front more : List ℕ) (read : Result (List ℕ × List ℕ) Reason)
    → with_front front (with_front more read) ≡ with_front (front ++ more) read
two_fronts front more (Ok x) = ap (λ (l : List ℕ). Ok (l, x.1)) (sym (append_assoc front more x.0))
two_fronts front more (Err e) = refl

-- one byte of a line
one_byte : (front : List ℕ) (fresh : Bool) (room left b : ℕ) (bs : List ℕ) → is_line_feed b ≡ false → room ≡ left + 1
    → with_front front (headers_at fresh room (b ∷ bs)) ≡ with_front (front ++ b ∷ []) (headers_at false left bs)
unfolding headers_at
one_byte front fresh room left b bs other fits =
    let some : nat_eq room 0 ≡ false = ne_eqb room 0 (λ none. omega (arith, fits, none)) in
    let less : room - 1 ≡ left = omega (arith, fits) in
    let inside : (fresh && is_line_feed b) ≡ false = not_second fresh (is_line_feed b) other in
    rw (inside, some, other)
    (two_fronts front (b ∷ []) (headers_at false (room - 1) bs) ∙ ap (λ n. with_front (front ++ b ∷ []) (headers_at false n bs)) less)
  where
    not_second : (a b : Bool) → b ≡ false → (a && b) ≡ false
    not_second true b e = e
    not_second false b e = refl

-- the line feed of a line that has begun
line_end : (front : List ℕ) (room left : ℕ) (bs : List ℕ) → room ≡ left + 1
    → with_front front (headers_at false room (10 ∷ bs)) ≡ with_front (front ++ 10 ∷ []) (headers_at true left bs)
unfolding headers_at
line_end front room left bs fits =
    let some : nat_eq room 0 ≡ false = ne_eqb room 0 (λ none. omega (arith, fits, none)) in
    let less : room - 1 ≡ left = omega (arith, fits) in
    rw some
    (two_fronts front (10 ∷ []) (headers_at true (room - 1) bs) ∙ ap (λ n. with_front (front ++ 10 ∷ []) (headers_at true n bs)) less)

-- the rest of a line
line_rest : (front text : List ℕ) (room left : ℕ) (more : List ℕ) → lacks 10 text ≡ true → room ≡ length text + 1 + left
    → with_front front (headers_at false room (text ++ 10 ∷ more)) ≡ with_front (front ++ (text ++ 10 ∷ [])) (headers_at true left more)
line_rest front [] room left more plain fits = line_end front room left more (omega (arith, fits))
line_rest front (b ∷ text) room left more plain fits =
    let parts = lacks_parts 10 b text plain in
    one_byte front false room (room - 1) b (text ++ 10 ∷ more) parts.0 (omega (arith, fits))
    ∙ line_rest (front ++ b ∷ []) text (room - 1) left more parts.1 (omega (arith, fits))
    ∙ ap (λ (l : List ℕ). with_front l (headers_at true left more)) (append_assoc front (b ∷ []) (text ++ 10 ∷ []))

whole_line : (front : List ℕ) (b : ℕ) (text : List ℕ) (room left : ℕ) (more : List ℕ) → lacks 10 (b ∷ text) ≡ true
    → room ≡ length (b ∷ text) + 1 + left
    → with_front front (headers_at true room ((b ∷ text) ++ 10 ∷ more))
    ≡ with_front (front ++ ((b ∷ text) ++ 10 ∷ [])) (headers_at true left more)
whole_line front b text room left more plain fits =
    let parts = lacks_parts 10 b text plain in
    one_byte front true room (room - 1) b (text ++ 10 ∷ more) parts.0 (omega (arith, fits))
    ∙ line_rest (front ++ b ∷ []) text (room - 1) left more parts.1 (omega (arith, fits))
    ∙ ap (λ (l : List ℕ). with_front l (headers_at true left more)) (append_assoc front (b ∷ []) (text ++ 10 ∷ []))

-- ---- all lines

last_line : (front : List ℕ) (room : ℕ) (rest : List ℕ) → with_front front (headers_at true room (10 ∷ rest)) ≡ Ok (front ++ [], rest)
unfolding headers_at
last_line front room rest = refl

lines_at : (front : List ℕ) (all : List (List ℕ)) (room : ℕ) (rest : List ℕ) → AllByRecursion IsWhole all → length (ended all) ≤ room
    → with_front front (headers_at true room (ended all ++ 10 ∷ rest)) ≡ Ok (front ++ ended all, rest)
lines_at front [] room rest h fits = last_line front room rest
lines_at front ([] ∷ all) room rest h fits = absurd (h.0.some refl)
lines_at front ((b ∷ text) ∷ all) room rest h fits =
    let l = b ∷ text in
    let left = room - (length l + 1) in
    let long = length-append (l ++ 10 ∷ []) (ended all) in
    let one_more = length-append l (10 ∷ []) in
    ap (λ (x : List ℕ). with_front front (headers_at true room x))
    (append_assoc (l ++ 10 ∷ []) (ended all) (10 ∷ rest) ∙ append_assoc l (10 ∷ []) (ended all ++ 10 ∷ rest))
    ∙ whole_line front b text room left (ended all ++ 10 ∷ rest) h.0.plain (omega (arith, fits, long, one_more))
    ∙ lines_at (front ++ (l ++ 10 ∷ [])) all left rest h.1 (omega (arith, fits, long, one_more))
    ∙ ap (λ (x : List ℕ). Ok (x, rest)) (append_assoc front (l ++ 10 ∷ []) (ended all))

with_no_front : (read : Result (List ℕ × List ℕ) Reason) → with_front [] read ≡ read
with_no_front (Ok x) = refl
with_no_front (Err e) = refl

-- the lines, and what is after the empty line
pub headers_of_whole : (all : List (List ℕ)) (room : ℕ) (rest : List ℕ) → AllByRecursion IsWhole all → length (ended all) ≤ room
    → headers_at true room (ended all ++ 10 ∷ rest) ≡ Ok (ended all, rest)
headers_of_whole all room rest h fits =
    sym (with_no_front (headers_at true room (ended all ++ 10 ∷ rest))) ∙ lines_at [] all room rest h fits

-- the lines of fields without their line feeds
abbrev texts : List Field → List (List ℕ)
texts [] = []
texts (f ∷ fields) = cons_option (option_map (header_text f.0) f.1) (texts fields)

pub line_is : (name value : List ℕ) → line name value ≡ header_text name value ++ 10 ∷ []
line_is name value = ap (λ (l : List ℕ). l ++ 10 ∷ []) (append_assoc name (58 ∷ 32 ∷ []) value)

lines_of_texts : (fields : List Field) → lines fields ≡ ended (texts fields)
lines_of_texts [] = refl
lines_of_texts (f ∷ fields) = one f.0 f.1 (lines_of_texts fields)
  where
    one : (name : List ℕ) (value : Option (List ℕ)) → lines fields ≡ ended (texts fields)
        → value_line name value ++ lines fields ≡ ended (cons_option (option_map (header_text name) value) (texts fields))
    one name None more = more
    one name (Some value) more = ap₂ (λ (x y : List ℕ). x ++ y) (line_is name value) more

pub whole_text : (name value : List ℕ) → lacks 10 name ≡ true → lacks 10 value ≡ true → IsWhole (header_text name value)
whole_text name value h k = record { plain = text_is_line name value h k; some = some name }
  where
    some : (name : List ℕ) → header_text name value ≢ []
    some [] e = cc
    some (b ∷ name) e = cc

whole_texts : (fields : List Field) → AreFields fields → AllByRecursion IsWhole (texts fields)
whole_texts [] h = tt
whole_texts (f ∷ fields) h = one f.0 f.1 h.0.name_line h.0.value (whole_texts fields h.1)
  where
    one : (name : List ℕ) (value : Option (List ℕ)) → lacks 10 name ≡ true → is_value value ≡ true → AllByRecursion IsWhole (texts fields)
        → AllByRecursion IsWhole (cons_option (option_map (header_text name) value) (texts fields))
    one name None plain fits more = more
    one name (Some value) plain fits more = (whole_text name value plain fits, more)

-- the lines of all fields, and what is after the empty line
pub headers_of_lines : (fields : List Field) (room : ℕ) (rest : List ℕ) → AreFields fields → length (lines fields) ≤ room
    → headers_at true room (lines fields ++ 10 ∷ rest) ≡ Ok (lines fields, rest)
headers_of_lines fields room rest h fits =
    let same = lines_of_texts fields in
    ap (λ (l : List ℕ). headers_at true room (l ++ 10 ∷ rest)) same
    ∙ headers_of_whole (texts fields) room rest (whole_texts fields h) (omega (arith, fits, ap length same))
    ∙ ap (λ (l : List ℕ). Ok (l, rest)) (sym same)

-- ---- before the lines

-- the first byte begins a header
abbrev pub begins_header : List ℕ → Bool
begins_header [] = false
begins_header (b ∷ bs) = not (is_space b) && not (is_line_feed b)

pub no_blank : (room : ℕ) (bytes : List ℕ) → begins_header bytes ≡ true → block_at false room bytes ≡ headers_at true room bytes
unfolding block_at headers_at
no_blank room [] h = cc
no_blank room (b ∷ bs) h =
    let parts = and_parts (not (is_space b)) (not (is_line_feed b)) h in
    let solid = not_true (is_space b) parts.0 in
    let other = not_true (is_line_feed b) parts.1 in
    rw (solid, other) refl

one_blank : (room : ℕ) (bytes : List ℕ) → block_at false (room + 1) (10 ∷ bytes) ≡ block_at false room bytes
unfolding block_at
one_blank room bytes =
    let some : nat_eq (room + 1) 0 ≡ false = ne_eqb (room + 1) 0 (λ none. omega (arith, none)) in
    let less : room + 1 - 1 ≡ room = omega arith in
    rw some (ap (λ n. block_at false n bytes) less)

-- so many empty lines
pub blank_lines : (count room : ℕ) (bytes : List ℕ) → block_at false (count + room) (replicate count 10 ++ bytes) ≡ block_at false room bytes
blank_lines zero room bytes = let none : 0 + room ≡ room = omega arith in ap (λ n. block_at false n bytes) none
blank_lines (suc count) room bytes =
    let more : suc count + room ≡ count + room + 1 = omega arith in
    ap (λ n. block_at false n (10 ∷ (replicate count 10 ++ bytes))) more ∙ one_blank (count + room) (replicate count 10 ++ bytes)
    ∙ blank_lines count room bytes

-- the headers after so many empty lines
pub block_of_lines : (count : ℕ) (fields : List Field) (limit : ℕ) (rest : List ℕ) → AreFields fields
    → begins_header (lines fields ++ 10 ∷ rest) ≡ true → count + length (lines fields) ≤ limit
    → block_at false limit (replicate count 10 ++ (lines fields ++ 10 ∷ rest)) ≡ Ok (lines fields, rest)
block_of_lines count fields limit rest h first fits =
    let room = limit - count in
    let whole : limit ≡ count + room = omega (arith, fits) in
    ap (λ n. block_at false n (replicate count 10 ++ (lines fields ++ 10 ∷ rest))) whole ∙ blank_lines count room (lines fields ++ 10 ∷ rest)
    ∙ no_blank room (lines fields ++ 10 ∷ rest) first ∙ headers_of_lines fields room rest h (omega (arith, fits))

-- nothing but empty lines
pub block_none : (count limit : ℕ) → count ≤ limit → block_at false limit (replicate count 10 ++ []) ≡ Ok ([], [])
unfolding block_at
block_none count limit fits =
    let room = limit - count in
    let whole : limit ≡ count + room = omega (arith, fits) in
    ap (λ n. block_at false n (replicate count 10 ++ [])) whole ∙ blank_lines count room []
