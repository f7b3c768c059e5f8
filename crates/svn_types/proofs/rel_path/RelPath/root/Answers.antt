use Rattle.std.proofs.Common.{ap, length, refl, arith}
use Rattle.svn_types.specs.Forms.{head_in}
use Rattle.svn_types.proofs.PathHeads.{root_head}
use Rattle.svn_types.proofs.rel_path.RelPath.root.Goals as goal

pub invariant_of-result : goal.invariant_of-result
invariant_of-result c = (
  (omega arith, refl),
  omega (arith, ap length c.root.ensures),
  root_head c.root.result (head_in record { first = 0; rest = 0 }) refl c.root.ensures,
)
