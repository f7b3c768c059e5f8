use Rattle.std.proofs.Common.{rules, ◌≡◌, Some, sym, ◌∙◌, ap}
use Rattle.std.specs.Option.{option_copied}
use Rattle.svn_report.specs.declared.entry.ReportEntry.TheVariants.{SetPath}
use Rattle.svn_model.specs.Sources.{source}
use Rattle.svn_model.specs.Follow.{Followed}
use Rattle.svn_drive.specs.Checking.{seen_as}
use Rattle.svn_drive.proofs.ChildPlaces.{own_none, source_entry, set_source}
use Rattle.svn_drive.proofs.walk.Walk.child_source.Goals as goal

pub returns-else-is_hidden-clause-source : goal.returns-else-is_hidden-clause-source
returns-else-is_hidden-clause-source c =
    let h = c.args.self.now.repo.now in
    c.copied.ensures ∙ c.requires.below.source
    ∙ source_entry h c.args.self.now.report.now (seen_as c.args.above.now.here)
    (seen_as c.args.here.now) c.args.below.now.name.now c.args.above.now.source
    c.requires.here (own_none c.args.here.now.own c.if-is_some.ensures)
    (c.requires.at.source ∙ sym (ap (λ (f : Followed). source h f.here) c.requires.at.followed))
    (sym c.if-is_hidden.ensures)

pub returns-in-Some-SetPath-clause-source : goal.returns-in-Some-SetPath-clause-source
returns-in-Some-SetPath-clause-source c =
    let own : option_copied c.args.here.now.own ≡ Some (SetPath c.in-Some-SetPath.rev c.in-Some-SetPath.field-0-1) = search rules in
    c.entry_of-source.ensures
    ∙ set_source c.args.self.now.repo.now c.args.self.now.report.now (seen_as c.args.above.now.here) (seen_as c.args.here.now)
    c.args.below.now.name.now c.in-Some-SetPath.rev c.in-Some-SetPath.field-0-1 c.known_in-last.result.node c.requires.here own
    c.known_in-last.ensures.node
