-- Property sections.
--     props_of section      the properties that a section gives
--     changes_of section      the changes of properties that it gives
use Rattle.std.specs.Prelude.{ℕ, zero, suc, ◌+◌, Bool, true, false, ◌&&◌, List, [], ◌∷◌, length, take, drop, nat_eq, nat_lt, bytes_eq, slice_index, codes, position}
use Rattle.std.specs.Prelude.{Option, Some, None, option_and_then, Result, Ok, Err, if◌then◌else◌}
use Rattle.svn_types.specs.declared.fault.PathFault.{PathFault}
use Rattle.svn_types.specs.NameFaults.{prop_name_fault}
use Rattle.svn_types.specs.Props.{PropChange, with_changes}
use Rattle.svn_dump.specs.declared.fault.Reason.{Reason}
use Rattle.svn_dump.specs.declared.fault.Reason.TheVariants.{NotProperties, BadPropName}
use Rattle.svn_dump.specs.Reading.{◌>>=◌}
use Rattle.svn_digits.specs.Numbers.{number_of}

-- the number in a line of a letter, a space and digits
abbrev pub length_of : ℕ → List ℕ → Option ℕ
length_of letter [] = None
length_of letter (b ∷ []) = None
length_of letter (b ∷ c ∷ digits) = if nat_eq b letter && nat_eq c 32 then number_of digits else None

-- so many bytes, and those after the line feed after them
abbrev pub cut_line : List ℕ → Option ℕ → Option (List ℕ × List ℕ)
cut_line bytes None = None
cut_line bytes (Some n) =
    if nat_lt n (length bytes) && nat_eq (slice_index bytes n) 10 then Some (take n bytes, drop (n + 1) bytes) else None

-- the bytes after a line of the letter and their number, and what is after them
abbrev pub run_at : ℕ → List ℕ → Option (List ℕ × List ℕ)
run_at letter bytes =
    option_and_then (λ i. cut_line (drop (i + 1) bytes) (length_of letter (take i bytes))) (position (λ b. nat_eq b 10) bytes)

abbrev pub named : Option PathFault → List ℕ → Result (List ℕ) Reason
named None name = Ok name
named (Some fault) name = Err (BadPropName fault)

-- `K`, a name, `V` and a value
abbrev pub set_at : Option (List ℕ × List ℕ) → Result (PropChange × List ℕ) Reason
set_at None = Err NotProperties
set_at (Some name) = value_at name.0 (run_at 86 name.1)
  where
    value_at : List ℕ → Option (List ℕ × List ℕ) → Result (PropChange × List ℕ) Reason
    value_at name None = Err NotProperties
    value_at name (Some value) = named (prop_name_fault name) name >>= λ name. Ok ((name, Some value.0), value.1)

-- `D` and a name, or the above; only changes of properties have the first
abbrev pub change_at : Bool → List ℕ → Result (PropChange × List ℕ) Reason
change_at removes bytes = if removes then removal_or_set (run_at 68 bytes) else set_at (run_at 75 bytes)
  where
    removal_or_set : Option (List ℕ × List ℕ) → Result (PropChange × List ℕ) Reason
    removal_or_set None = set_at (run_at 75 bytes)
    removal_or_set (Some name) = named (prop_name_fault name.0) name.0 >>= λ n. Ok ((n, None), name.1)

abbrev pub is_end : List ℕ → Bool
is_end bytes = bytes_eq bytes (codes "PROPS-END\n")

-- changes up to `PROPS-END` and a line feed, after which nothing comes; there are fewer than bytes
unfoldable pub changes_at : Bool → ℕ → List ℕ → Result (List PropChange) Reason
changes_at removes zero bytes = Err NotProperties
changes_at removes (suc most) bytes =
    if is_end bytes then Ok []
    else change_at removes bytes >>= λ first. changes_at removes most first.1 >>= λ more. Ok (first.0 ∷ more)

abbrev pub changes_of : List ℕ → Result (List PropChange) Reason
changes_of section = changes_at true (length section) section

-- of a name that comes twice the last value counts
abbrev pub props_of : List ℕ → Result (List (List ℕ × List ℕ)) Reason
props_of section = changes_at false (length section) section >>= λ changes. Ok (with_changes [] changes)
