-- Properties, as a column has them: nothing, or a list of names and values.
--     props_of column      the properties that the column gives
use Rattle.std.specs.Prelude.{ℕ, zero, suc, List, [], ◌∷◌, length, Option, Some, None, Result, Ok, Err, nat_eq, if◌then◌else◌}
use Rattle.svn_types.specs.declared.fault.PathFault.{PathFault}
use Rattle.svn_types.specs.NameFaults.{prop_name_fault}
use Rattle.svn_types.specs.Props.{PropChange, with_changes}
use Rattle.svn_wcdb.specs.declared.fault.Reason.{Reason}
use Rattle.svn_wcdb.specs.declared.fault.Reason.TheVariants.{BadProperties, BadPropName}
use Rattle.svn_wcdb.specs.Reading.{◌>>=◌}
use Rattle.svn_wcdb.specs.Skels.{item_at, is_end}

abbrev pub named : Option PathFault → List ℕ → Result (List ℕ) Reason
named None name = Ok name
named (Some fault) name = Err (BadPropName fault)

-- a value after its name
abbrev pub value_at : List ℕ → Option (List ℕ × List ℕ) → Result (PropChange × List ℕ) Reason
value_at name None = Err BadProperties
value_at name (Some value) = named (prop_name_fault name) name >>= λ name. Ok ((name, Some value.0), value.1)

-- a name and a value
abbrev pub pair_at : Option (List ℕ × List ℕ) → Result (PropChange × List ℕ) Reason
pair_at None = Err BadProperties
pair_at (Some name) = value_at name.0 (item_at name.1)

-- names and values up to the end of the list; there are fewer than bytes
unfoldable pub pairs_at : ℕ → List ℕ → Result (List PropChange) Reason
pairs_at zero bytes = Err BadProperties
pairs_at (suc most) bytes =
    if is_end bytes then Ok []
    else pair_at (item_at bytes) >>= λ first. pairs_at most first.1 >>= λ more. Ok (first.0 ∷ more)

-- of a name that comes twice the last value counts
abbrev pub props_in : List ℕ → Result (List (List ℕ × List ℕ)) Reason
props_in list = pairs_at (length list) list >>= λ changes. Ok (with_changes [] changes)

-- the bytes of a list, which begins with `(`
abbrev pub list_props : List ℕ → Result (List (List ℕ × List ℕ)) Reason
list_props [] = Ok []
list_props (b ∷ bs) = if nat_eq b 40 then props_in bs else Err BadProperties

-- there are none where the column is NULL, or has no byte
abbrev pub props_of : Option (List ℕ) → Result (List (List ℕ × List ℕ)) Reason
props_of None = Ok []
props_of (Some bytes) = list_props bytes
