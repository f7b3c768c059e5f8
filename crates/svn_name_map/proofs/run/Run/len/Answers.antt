use Rattle.std.proofs.Common.{length, ap, arith}
use Rattle.std.specs.Arc.{arc_value}
use Rattle.svn_lists.proofs.Zips.{length-pairs}
use Rattle.svn_name_map.proofs.run.Run.len.Goals as goal

pub returns-clause-length : goal.returns-clause-length
returns-clause-length g c =
    omega (
      arith,
      length-pairs (arc_value c.self.inside.names).items c.self.inside.values.items c.self.invariant.0,
      ap length c.self.view_is,
      c.self.inside.values.ok.0,
    )
