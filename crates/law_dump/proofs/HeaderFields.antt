-- The headers of a record as names with their values, and what is looked up in the lines that are written of them.
use Rattle.std.proofs.Common.{◌≡◌, ℕ, Bool, true, false, cond, ◌&&◌, ◌||◌, List, [], ◌∷◌, ◌++◌, length, Option, Some, None, Ok, refl, sym, ap, ◌∙◌, append_assoc, nat_eq, bytes_eq, is_some}
use Rattle.std.specs.List.{list_all, flat_map, filter_map, cons_option, AllByRecursion}
use Rattle.svn_dump.specs.Headers.{lines_of, header_of, if_named, value_in, values_of, valued, single, is_header, are_headers}
use Rattle.svn_dump.specs.Written.{line}
use Rattle.law_dump.proofs.Lacking.{lacks, lacks_append, first_part, parts_at}

-- ---- fields

-- a header's name, and its value if it is given
abbrev pub Field : Type 0
Field = List ℕ × Option (List ℕ)

abbrev pub value_line : List ℕ → Option (List ℕ) → List ℕ
value_line name None = []
value_line name (Some value) = line name value

abbrev pub lines : List Field → List ℕ
lines fields = flat_map (λ (f : Field). value_line f.0 f.1) fields

-- no line feed in the value
abbrev pub is_value : Option (List ℕ) → Bool
is_value None = true
is_value (Some value) = lacks 10 value

-- no colon in the name and no line feed in either
pub record IsField (f : Field) : Type 0 where
  pub name : lacks 58 f.0 ≡ true
  pub name_line : lacks 10 f.0 ≡ true
  pub value : is_value f.1 ≡ true

abbrev pub AreFields : List Field → Type 0
AreFields fields = AllByRecursion IsField fields

-- a line without its line feed
abbrev pub header_text : List ℕ → List ℕ → List ℕ
header_text name value = name ++ 58 ∷ 32 ∷ value

pub line_parts : (name value more : List ℕ) → line name value ++ more ≡ header_text name value ++ 10 ∷ more
line_parts name value more =
    append_assoc _ (10 ∷ []) more ∙ ap (λ (l : List ℕ). l ++ 10 ∷ more) (append_assoc name (58 ∷ 32 ∷ []) value)

pub text_is_line : (name value : List ℕ) → lacks 10 name ≡ true → lacks 10 value ≡ true → lacks 10 (header_text name value) ≡ true
text_is_line name value h k = lacks_append 10 name (58 ∷ 32 ∷ value) h k

-- ---- look-ups

pub header_of_text : (name value : List ℕ) → lacks 58 name ≡ true → header_of (header_text name value) ≡ Some (name, value)
header_of_text name value h = parts_at 58 valued name (32 ∷ value) h

-- a line and those after it
pub lines_of_line : (name value more : List ℕ) → lacks 10 name ≡ true → lacks 10 value ≡ true
    → lines_of (line name value ++ more) ≡ header_text name value ∷ lines_of more
lines_of_line name value more h k =
    ap lines_of (line_parts name value more) ∙ first_part 10 (header_text name value) more (text_is_line name value h k)

abbrev pub given : Option (List ℕ) → List (List ℕ)
given None = []
given (Some value) = value ∷ []

-- the values of the fields with this name
abbrev pub found : List ℕ → List Field → List (List ℕ)
found name [] = []
found name (f ∷ fields) = cond (bytes_eq f.0 name) (given f.1 ++ found name fields) (found name fields)

either_way : {A : Type 0} (b : Bool) (x : A) → cond b x x ≡ x
either_way true x = refl
either_way false x = refl

value_before : (b : Bool) (value : List ℕ) (values : List (List ℕ))
    → cons_option (cond b (Some value) None) values ≡ cond b (value ∷ values) values
value_before true value values = refl
value_before false value values = refl

pub values_of_lines : (name : List ℕ) (fields : List Field) → AreFields fields → values_of name (lines fields) ≡ found name fields
values_of_lines name [] h = refl
values_of_lines name (f ∷ fields) h = one f.0 f.1 h.0.name h.0.name_line h.0.value (values_of_lines name fields h.1)
  where
    one : (own : List ℕ) (value : Option (List ℕ)) → lacks 58 own ≡ true → lacks 10 own ≡ true → is_value value ≡ true
        → values_of name (lines fields) ≡ found name fields
        → values_of name (value_line own value ++ lines fields) ≡ cond (bytes_eq own name) (given value ++ found name fields) (found name fields)
    one own None plain line_like fits same = same ∙ sym (either_way (bytes_eq own name) (found name fields))
    one own (Some value) plain line_like fits same =
        ap (filter_map (value_in name)) (lines_of_line own value (lines fields) line_like fits)
        ∙ ap (λ o. cons_option (if_named name o) (values_of name (lines fields))) (header_of_text own value plain)
        ∙ value_before (bytes_eq own name) value (values_of name (lines fields))
        ∙ ap (λ (l : List (List ℕ)). cond (bytes_eq own name) (value ∷ l) l) same

pub single_given : (value : Option (List ℕ)) → single (given value ++ []) ≡ Ok value
single_given None = refl
single_given (Some value) = refl

-- each line is a header
pub header_line_more : (name value more : List ℕ) → lacks 58 name ≡ true → lacks 10 name ≡ true → lacks 10 value ≡ true → are_headers more ≡ true
    → are_headers (line name value ++ more) ≡ true
header_line_more name value more plain line_like fits rest =
    let header : is_some (header_of (header_text name value)) ≡ true = ap is_some (header_of_text name value plain) in
    ap (list_all is_header) (lines_of_line name value more line_like fits) ∙ both (nat_eq (length (header_text name value)) 0) header rest
  where
    both : (b : Bool) {h r : Bool} → h ≡ true → r ≡ true → ((b || h) && r) ≡ true
    both true e f = f
    both false e f = rw (e, f) refl

pub lines_are_headers : (fields : List Field) → AreFields fields → are_headers (lines fields) ≡ true
lines_are_headers [] h = refl
lines_are_headers (f ∷ fields) h = one f.0 f.1 h.0.name h.0.name_line h.0.value (lines_are_headers fields h.1)
  where
    one : (own : List ℕ) (value : Option (List ℕ)) → lacks 58 own ≡ true → lacks 10 own ≡ true → is_value value ≡ true
        → are_headers (lines fields) ≡ true → are_headers (value_line own value ++ lines fields) ≡ true
    one own None plain line_like fits rest = rest
    one own (Some value) plain line_like fits rest = header_line_more own value (lines fields) plain line_like fits rest
