use Rattle.std.proofs.Common.{◌≡◌, ◌++◌, ◌∷◌, [], length, sym, ◌∙◌, ap, arith}
use Rattle.svn_report.specs.Reports.{entry_at}
use Rattle.svn_drive.specs.Checking.{seen_as}
use Rattle.svn_drive.proofs.Checks.{child_source, parent_source, seen_above, one_longer}
use Rattle.svn_drive.proofs.check.Check.sources.Goals as goal

pub child-here-requires-clause-longer : goal.child-here-requires-clause-longer
child-here-requires-clause-longer c =
    let whole : c.args.path.now ≡ c.in-Some.names.now ++ c.in-Some.field-0-0.now ∷ [] =
    sym c.components.ensures.names ∙ c.in-Some.ensures.cases.0 in
    let longer =
    one_longer c.args.path.now c.in_ok-above-in-Some.above.path c.in-Some.field-0-0.now
    (seen_above c.args.self.now.report.now c.in-Some.names.now c.args.path.now c.in-Some.field-0-0.now
    (seen_as c.in_ok-above-in-Some.above) whole c.in_ok-above-in-Some.ensures.seen) in
    let same : length c.in_ok-clone-in-Some.field-0 ≡ length c.args.path.now = ap length c.in_ok-clone-in-Some.ensures.cases in
    omega (arith, longer, same)

pub returns-in_ok-clone-in-Some-clause-here : goal.returns-in_ok-clone-in-Some-clause-here
returns-in_ok-clone-in-Some-clause-here c =
    let r = c.args.self.now.report.now in
    let whole : c.args.path.now ≡ c.in-Some.names.now ++ c.in-Some.field-0-0.now ∷ [] =
    sym c.components.ensures.names ∙ c.in-Some.ensures.cases.0 in
    c.source-in-Some.ensures
    ∙ child_source c.args.self.now.repo.now r c.in-Some.names.now c.args.path.now c.in-Some.field-0-0.now
    (seen_as c.in_ok-above-in-Some.above) (seen_as c.child-here.result) whole c.in_ok-above-in-Some.ensures.seen
    (c.child-here.ensures.seen r c.in-Some.field-0-0.now
    (c.in_ok-clone-in-Some.ensures.cases
    ∙ seen_above r c.in-Some.names.now c.args.path.now c.in-Some.field-0-0.now (seen_as c.in_ok-above-in-Some.above) whole
    c.in_ok-above-in-Some.ensures.seen)
    (sym (ap (entry_at r.entries) c.in_ok-clone-in-Some.ensures.cases ∙ c.requires)))

pub returns-in_ok-clone-in-Some-clause-above : goal.returns-in_ok-clone-in-Some-clause-above
returns-in_ok-clone-in-Some-clause-above c =
    let whole : c.args.path.now ≡ c.in-Some.names.now ++ c.in-Some.field-0-0.now ∷ [] =
    sym c.components.ensures.names ∙ c.in-Some.ensures.cases.0 in
    c.source-in-Some-2.ensures
    ∙ parent_source c.args.self.now.repo.now c.args.self.now.report.now c.in-Some.names.now c.args.path.now c.in-Some.field-0-0.now
    (seen_as c.in_ok-above-in-Some.above) whole c.in_ok-above-in-Some.ensures.seen
