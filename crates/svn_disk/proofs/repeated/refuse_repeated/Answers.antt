use Rattle.std.proofs.Common.{◌≡◌, false, true, cond, List, ap, subst, sym, ◌∙◌}
use Rattle.std.specs.BTreeMap.{is_at}
use Rattle.std.specs.BTreeSet.{contains}
use Rattle.std.proofs.lemmas.Bool.{not-true}
use Rattle.svn_types.specs.Names.{Path, path_cmp}
use Rattle.svn_wcrows.specs.declared.work.Work.{Work}
use Rattle.svn_disk.specs.Plans.{path_of}
use Rattle.svn_disk.specs.Ends.{AreDistinct}
use Rattle.svn_disk.proofs.EndsWork.{EachPath}
use Rattle.svn_disk.proofs.EndsDone.{distinct_step}
use Rattle.svn_disk.proofs.repeated.refuse_repeated.Goals as goal

pub work-preserved : goal.work-preserved
work-preserved c =
    let old = c.work.paths in
    let x = c.in-Some.item.now in
    let same : c.in_ok-clone.field-0 ≡ path_of x = c.in_ok-clone.ensures.cases ∙ c.path.ensures in
    distinct_step old c.insert.new.self x c.in-Some.after.now c.args.work.now
    (ap (λ (p : Path). contains path_cmp old p) (sym same)
    ∙ not-true (contains path_cmp old c.in_ok-clone.field-0) (sym c.in_ok-insert.ensures.added ∙ c.if-not-branch.false))
    (λ q. c.in_ok-insert.ensures.updates.0 q ∙ ap (λ (p : Path). cond (is_at (path_cmp p) q) true (contains path_cmp old q)) same)
    (subst (λ (xs : List Work). EachPath (λ q. contains path_cmp old q ≡ false) xs → AreDistinct xs → AreDistinct c.args.work.now) c.in-Some.ensures.cases.0
    c.work.invariant)
