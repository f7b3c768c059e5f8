-- The fields of log: paths, the first revision and the last, and what is wanted of which revisions. What is after those named here is passed over.
--     text_list tokens      the strings of the list at the front, which has nothing else, and what is after it
--     Names      the properties of revisions that are wanted
--     Wanted      whether changed paths are wanted, whether copies aren't followed, how many revisions are wanted (0: all), and which properties of them
--     log_fields fields      the paths as strings, the two revisions or none, and what is wanted
use Rattle.std.specs.Prelude.{ℕ, Bool, true, false, List, ◌∷◌, drop, codes, bytes_eq, Option, Some, None, option_map, if◌then◌else◌}
use Rattle.std.specs.List.{prefix_len, take_while}
use Rattle.svn_wire.specs.declared.token.Token.{Token}
use Rattle.svn_wire.specs.declared.token.Token.TheVariants.{Open, Text}
use Rattle.svn_wire.specs.Fields.{◌>>=◌, bool_field, closed, number_field, optional_number, word_field}

-- ---- lists of strings

abbrev pub is_text_token : Token → Bool
is_text_token (Text text) = true
is_text_token _ = false

abbrev pub text_list : List Token → Option (List Token × List Token)
text_list (Open ∷ ts) = closed (take_while is_text_token ts) (drop (prefix_len is_text_token ts) ts)
text_list _ = None

-- ---- what is wanted

-- author, date and message; all; or those of these names
pub data Names : Type 0 where
  usual : Names
  every : Names
  named : List Token → Names

pub record Wanted : Type 0 where
  pub changes : Bool
  pub strict : Bool
  pub limit : ℕ
  pub names : Names

abbrev pub limit_by : Option (ℕ × List Token) → List Token → ℕ × List Token
limit_by None fields = (0, fields)
limit_by (Some limit) fields = limit

-- a number, if there is one, and what is after it
abbrev pub limit_of : List Token → ℕ × List Token
limit_of fields = limit_by (number_field fields) fields

abbrev pub names_by : List ℕ → List Token → Option Names
names_by word fields =
    if bytes_eq word (codes "all-revprops") then Some every
    else if bytes_eq word (codes "revprops") then option_map (λ names. named names.0) (text_list fields)
    else None

-- after whether merges are to be followed, which isn't done
unfoldable pub names_of : List Token → Option Names
names_of fields = do
  merged ← bool_field fields
  word ← word_field merged.1
  names_by word.0 word.1

abbrev pub or_usual : Option Names → Names
or_usual None = usual
or_usual (Some names) = names

abbrev pub wanted_by : Bool → Bool → ℕ × List Token → Wanted
wanted_by changes strict limit = record { changes = changes; strict = strict; limit = limit.0; names = or_usual (names_of limit.1) }

unfoldable pub wanted_of : List Token → Option Wanted
wanted_of fields = do
  changes ← bool_field fields
  strict ← bool_field changes.1
  Some (wanted_by changes.0 strict.0 (limit_of strict.1))

-- ---- all of them

unfoldable pub log_fields : List Token → Option (List Token × Option ℕ × Option ℕ × Wanted)
log_fields fields = do
  paths ← text_list fields
  start ← optional_number paths.1
  end ← optional_number start.1
  wanted ← wanted_of end.1
  Some (paths.0, start.0, end.0, wanted)
