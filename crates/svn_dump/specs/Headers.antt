-- The headers of a record: lines of a name, a colon, a space and a value, in any order.
--     header_value block name      the value of a header, if it is given; twice is a fault
use Rattle.std.specs.Prelude.{ℕ, ◌+◌, Bool, ◌||◌, List, [], ◌∷◌, length, take, drop, nat_eq, bytes_eq, position, filter_map, Option, Some, None, Result, Ok, Err}
use Rattle.std.specs.Prelude.{option_and_then, is_some, if◌then◌else◌}
use Rattle.std.specs.List.{slice_split, list_all}
use Rattle.svn_dump.specs.declared.fault.Reason.{Reason}
use Rattle.svn_dump.specs.declared.fault.Reason.TheVariants.{Twice}

-- what is between the line feeds
abbrev pub lines_of : List ℕ → List (List ℕ)
lines_of block = slice_split (λ b. nat_eq b 10) block

-- a space before the value
abbrev pub valued : List ℕ → List ℕ → Option (List ℕ × List ℕ)
valued name [] = None
valued name (b ∷ value) = if nat_eq b 32 then Some (name, value) else None

-- the name of a header, and its value
abbrev pub header_of : List ℕ → Option (List ℕ × List ℕ)
header_of line = option_and_then (λ i. valued (take i line) (drop (i + 1) line)) (position (λ b. nat_eq b 58) line)

abbrev pub if_named : List ℕ → Option (List ℕ × List ℕ) → Option (List ℕ)
if_named name None = None
if_named name (Some header) = if bytes_eq header.0 name then Some header.1 else None

-- the value of a line that has this name
abbrev pub value_in : List ℕ → List ℕ → Option (List ℕ)
value_in name line = if_named name (header_of line)

abbrev pub values_of : List ℕ → List ℕ → List (List ℕ)
values_of name block = filter_map (value_in name) (lines_of block)

abbrev pub single : List (List ℕ) → Result (Option (List ℕ)) Reason
single [] = Ok None
single (value ∷ []) = Ok (Some value)
single (value ∷ other ∷ more) = Err Twice

abbrev pub header_value : List ℕ → List ℕ → Result (Option (List ℕ)) Reason
header_value block name = single (values_of name block)

-- each line is a header; what is after the last line feed may be empty
abbrev pub is_header : List ℕ → Bool
is_header line = nat_eq (length line) 0 || is_some (header_of line)

abbrev pub are_headers : List ℕ → Bool
are_headers block = list_all is_header (lines_of block)

-- the value, if it is given once
abbrev pub if_once : Result (Option (List ℕ)) Reason → Option (List ℕ)
if_once (Ok value) = value
if_once (Err reason) = None
