use Rattle.std.proofs.Common.{◌≡◌, List, Vec, Global, ◌++◌, map, subst, rules}
use Rattle.svn_disk.specs.Crashes.{IsKept, IsOldOrNew, IsThere}
use Rattle.svn_disk.proofs.Going.{goes_there}
use Rattle.svn_disk.proofs.Running.{breaks_leaves, leads_leaves, runs_there, runs_after}
use Rattle.svn_disk.proofs.Copies.{kept_none, kept_left}
use Rattle.svn_disk.proofs.Sparing.{goes_in_there}
use Rattle.svn_disk.proofs.Ends.{turns_along}
use Rattle.svn_types.specs.Names.{Path}
use Rattle.svn_model.specs.declared.base_node.BaseNode.{BaseNode}
use Rattle.svn_disk.specs.declared.plan.PathChange.{PathChange}
use Rattle.svn_disk.specs.Changes.{removals_of, makings_of, AreChanged}
use Rattle.svn_disk.specs.Ends.{Turns, EachDone}
use Rattle.svn_disk.proofs.EndsChange.{changes_done, on_value}
use Rattle.svn_disk.proofs.EachChange.{list_of}
use Rattle.svn_disk.proofs.bringing.bring.Goals as goal

pub returns-in_err-plan-clause-crash : goal.returns-in_err-plan-clause-crash
returns-in_err-plan-clause-crash g c = λ sync.
    breaks_leaves (kept_none c.args.existing.now.copy c.args.wanted.now.copy (g.F.Folder.past c.args.folder.now.folder))

pub returns-in_err-bring_by-clause-crash : goal.returns-in_err-bring_by-clause-crash
returns-in_err-bring_by-clause-crash g c = λ sync. breaks_leaves (c.in_err-bring_by.ensures.crash sync).1

pub returns-clause-steps : goal.returns-clause-steps
returns-clause-steps g c = goes_there c.into_changes.result c.in_ok-bring_by.ensures.steps.0

pub returns-clause-crash : goal.returns-clause-crash
returns-clause-crash g c = λ sync. leads_leaves (c.in_ok-bring_by.ensures.crash sync).0

pub returns-clause-after : goal.returns-clause-after
returns-clause-after g c = λ sync.
    runs_after (IsKept c.args.existing.now.copy) (IsOldOrNew c.args.existing.now.copy c.args.wanted.now.copy) (IsThere c.args.wanted.now.copy)
    (IsKept c.args.wanted.now.copy) (g.F.Folder.past c.args.folder.now.folder) (g.F.Folder.past c.bring_by.new.folder.folder) c.into_changes.result
    (kept_left c.args.wanted.now.copy) (runs_there c.into_changes.result (c.in_ok-bring_by.ensures.crash sync).0)

pub returns-clause-spares : goal.returns-clause-spares
returns-clause-spares g c = goes_in_there c.into_changes.result c.in_ok-bring_by.ensures.spares.0

pub returns-clause-ends : goal.returns-clause-ends
returns-clause-ends g c =
    let old = c.args.existing.now.copy in
    let new = c.args.wanted.now.copy in
    let plan = c.in_ok-plan.plan in
    let entries = plan.changes.entries in
    let was = g.F.Folder.past c.args.folder.now.folder in
    let now = g.F.Folder.past c.bring_by.new.folder.folder in
    let planned = c.in_ok-bring_by.ensures.ends c.in_ok-plan.ensures.copies.1 in
    let copies = subst (λ (x : List (Path × BaseNode)). Turns (λ a b. EachDone new (removals_of plan.was.now entries ++ makings_of x entries)
    (removals_of plan.was.now entries ++ makings_of x entries) b) was now) c.in_ok-plan.ensures.copies.1 planned in
    let done = subst (λ (x : List (Path × BaseNode)). Turns (λ a b. EachDone new (removals_of x entries ++ makings_of new entries)
    (removals_of x entries ++ makings_of new entries) b) was now) c.in_ok-plan.ensures.copies.0 copies in
    on_value (λ (list : Vec PathChange Global). map (λ (change : PathChange). (change.path, change.change)) list.items ≡ entries)
    (λ (list : Vec PathChange Global). Turns (λ a b. AreChanged old new list.items b) was now) c.into_changes.result
    (λ list is. turns_along (λ a b. AreChanged old new list.items b) (λ a b all. changes_done old new entries list.items b is all) done)
    c.into_changes.ensures.list

pub returns-clause-each : goal.returns-clause-each
returns-clause-each g c =
    list_of c.args.existing.now.copy c.args.wanted.now.copy c.in_ok-plan.plan.changes.entries c.into_changes.result c.into_changes.ensures.list
    c.into_changes.ensures.order c.in_ok-plan.ensures.each
