use Rattle.std.proofs.Common.{ℕ, ◌<◌, List, get_or, IsUtf8}
use Rattle.svn_types.specs.Names.{IsName}
use Rattle.svn_wcrows.proofs.lawful.names_are_lawful.Given as goal

abbrev pub invariant-loop-name : goal.invariant-loop-name
invariant-loop-name l = (k : ℕ) (d : List ℕ) → k < l.name-index → IsName (get_or l.names k d) × IsUtf8 (get_or l.names k d)
