use Rattle.std.proofs.Common.{◌≡◌, ◌++◌, List, ℕ, All}
use Rattle.std.specs.Map.{keys_of}
use Rattle.svn_types.specs.Names.{IsPropName}
use Rattle.svn_wcrows.proofs.lawful.props_are_lawful.Given as goal

-- the names so far are lawful, and the properties that are left follow them
abbrev pub invariant-loop-name : goal.invariant-loop-name
invariant-loop-name l = (done : List (List ℕ × List ℕ)) × (done ++ l.name-iterator ≡ l.props) × All IsPropName (keys_of done)
