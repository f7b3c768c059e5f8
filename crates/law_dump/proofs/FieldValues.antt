-- Values that are looked up in the lines of headers.
use Rattle.std.proofs.Common.{◌≡◌, ℕ, ◌+◌, ◌^◌, ◌<◌, Bool, true, false, List, [], ◌++◌, Option, Some, None, Ok, option_map, unwrap_or, is_some, IfSome, refl, ap, ◌∙◌, codes, decimal}
use Rattle.hex.specs.Hex.{encode_lower}
use Rattle.hex.proofs.HexLemmas.{decode_sized-encode_lower}
use Rattle.svn_lists.proofs.Tests.{nat_eq-same}
use Rattle.svn_dump.specs.Reading.{◌>>=◌}
use Rattle.svn_dump.specs.Headers.{single, header_value}
use Rattle.svn_dump.specs.Fields.{as_number, number_or_fault, number_value, as_sum, sum_or_fault, sum_value, is_word, true_value}
use Rattle.svn_dump.specs.Records.{is_given}
use Rattle.svn_dump.specs.Shapes.{agreeing}
use Rattle.law_dump.specs.Laws.{IsSum}
use Rattle.law_dump.proofs.HeaderFields.{Field, AreFields, lines, given, found, values_of_lines, single_given}
use Rattle.svn_digits.proofs.Decimals.{number_of_decimal}
use Rattle.law_dump.proofs.NodeFields.{flag, both_lengths}

-- the value of a header whose name one field has
pub value_found : (fields : List Field) (name : List ℕ) (value : Option (List ℕ)) → AreFields fields → found name fields ≡ given value ++ []
    → header_value (lines fields) name ≡ Ok value
value_found fields name value h e = ap single (values_of_lines name fields h) ∙ ap single e ∙ single_given value

pub given_at : (block name : List ℕ) (value : Option (List ℕ)) → header_value block name ≡ Ok value → is_given block name ≡ Ok (is_some value)
given_at block name value e = ap (λ r. r >>= λ value. Ok (is_some value)) e

pub number_at : (block name : List ℕ) (o : Option ℕ) → unwrap_or o 0 < 2 ^ 64 → header_value block name ≡ Ok (option_map decimal o)
    → number_value block name ≡ Ok o
number_at block name None small e = ap (λ r. r >>= as_number) e
number_at block name (Some n) small e = ap (λ r. r >>= as_number) e ∙ ap number_or_fault (number_of_decimal n small)

pub sum_at : (size : ℕ) (block name : List ℕ) (o : Option (List ℕ)) → IfSome o (IsSum size)
    → header_value block name ≡ Ok (option_map encode_lower o) → sum_value size block name ≡ Ok o
sum_at size block name None h e = ap (λ r. r >>= as_sum size) e
sum_at size block name (Some sum) h e = ap (λ r. r >>= as_sum size) e ∙ ap sum_or_fault (decode_sized-encode_lower sum size h.0 h.1)

pub flag_at : (block name : List ℕ) (b : Bool) → header_value block name ≡ Ok (flag b) → true_value block name ≡ Ok b
flag_at block name true e = ap (λ r. r >>= λ value. Ok (is_word (codes "true") value)) e
flag_at block name false e = ap (λ r. r >>= λ value. Ok (is_word (codes "true") value)) e

-- lengths that are written agree
pub lengths_agree : (props text : Option ℕ) → agreeing props text (both_lengths props text) ≡ Ok (record { props = props; text = text })
lengths_agree None None = refl
lengths_agree None (Some n) = rw (nat_eq-same (0 + n)) refl
lengths_agree (Some n) None = rw (nat_eq-same (n + 0)) refl
lengths_agree (Some n) (Some m) = rw (nat_eq-same (n + m)) refl
