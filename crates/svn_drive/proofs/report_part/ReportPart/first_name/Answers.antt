use Rattle.std.proofs.Common.{rules, ◌≡◌, ◌∙◌}
use Rattle.std.specs.Prelude.{Some, slice_get}
use Rattle.std.specs.Map.Iter.{deref_pair}
use Rattle.svn_drive.proofs.ByName.{first_named}
use Rattle.svn_drive.proofs.report_part.ReportPart.first_name.Goals as goal

pub returns : goal.returns
returns c =
    let first : Some c.in_ok-path.field-0.now ≡ slice_get c.args.self.now.entries.now 0 = search rules in
    c.name_at.ensures ∙ first_named deref_pair c.args.depth c.args.self.now.entries.now c.in_ok-path.field-0.now first c.requires
