use Rattle.std.proofs.Common.{sym, ◌∙◌, ap}
use Rattle.std.specs.Arc.{arc_value}
use Rattle.std.specs.Map.{values_of}
use Rattle.std.proofs.lemmas.Slice.Zip.{seconds-zip}
use Rattle.svn_name_map.proofs.run.Run.values.Goals as goal

pub returns : goal.returns
returns g c =
    c.as_slice.ensures.value
    ∙ sym (seconds-zip (arc_value c.self.inside.names).items c.self.inside.values.items c.self.invariant.0)
    ∙ ap values_of c.self.view_is
