use Rattle.std.proofs.Common.{List, ◌≡◌, true, min, length, ap, subst, arith, rules}
use Rattle.std.specs.Prelude.{codes}
use Rattle.svn_types.specs.Names.{Path}
use Rattle.svn_types.proofs.NameLemmas.{Name}
use Rattle.svn_disk.specs.Goes.{Keeps, Stops}
use Rattle.svn_disk.specs.Places.{is_changing, is_outside}
use Rattle.svn_disk.specs.Plans.{path_of}
use Rattle.svn_disk.specs.Crashes.{IsSafe}
use Rattle.svn_disk.specs.Spared.{KeepsIn, StopsIn, Spares}
use Rattle.svn_disk.specs.Finding.{has_word}
use Rattle.svn_disk.specs.Tasks.{removals_in, makings_in}
use Rattle.svn_disk.specs.Ends.{IsExchanged, AreCarried}
use Rattle.svn_disk.proofs.Going.{keeps_more, stops_more, goes_more}
use Rattle.svn_disk.proofs.Running.{leads_more, breaks_more, runs_more}
use Rattle.svn_disk.proofs.Changing.{inside_keeps, inside_stops, inside_goes_doing, changing_keeps, changing_stops, changing_leads, changing_breaks}
use Rattle.svn_disk.proofs.Sparing.{keeps_in_more, stops_in_more, goes_in_more, inside_keeps_in, inside_stops_in, inside_goes_in}
use Rattle.svn_disk.proofs.Ends.{turns_more, ends_more}
use Rattle.svn_disk.proofs.Changing.{all_taken, all_dropped}
use Rattle.svn_disk.proofs.EndsDone.{HasRemoved, few_left, removed_exchanged, carried, carried_exchanged}
use Rattle.svn_disk.proofs.doing.Doing.carry_on.Goals as goal

-- ---- its steps

pub returns-in_err-remove_all-clause-steps : goal.returns-in_err-remove_all-clause-steps
returns-in_err-remove_all-clause-steps g c = λ free h.
    let stops = subst (λ (n : Name). Stops (is_changing n free) (g.F.Folder.past c.args.folder.now) (g.F.Folder.past c.remove_all.new.folder)) c.requires.name
    (c.in_err-remove_all.ensures.steps free h).1 in
    let all = changing_stops (codes ".svn") free stops in search rules

pub returns-in_err-replace_if_any-clause-steps : goal.returns-in_err-replace_if_any-clause-steps
returns-in_err-replace_if_any-clause-steps g c = λ free h.
    let removed = subst (λ (n : Name). Keeps (is_changing n free) (g.F.Folder.past c.args.folder.now) (g.F.Folder.past c.remove_all.new.folder)) c.requires.name
    (c.in_ok-remove_all.ensures.steps free h).0 in
    let stops = stops_more (changing_keeps (codes ".svn") free removed) (inside_stops (codes ".svn") free c.in_err-replace_if_any.ensures.steps.1) in search rules

pub returns-in_err-make_all-clause-steps : goal.returns-in_err-make_all-clause-steps
returns-in_err-make_all-clause-steps g c = λ free h.
    let removed = subst (λ (n : Name). Keeps (is_changing n free) (g.F.Folder.past c.args.folder.now) (g.F.Folder.past c.remove_all.new.folder)) c.requires.name
    (c.in_ok-remove_all.ensures.steps free h).0 in
    let made = subst (λ (n : Name). Stops (is_changing n free) (g.F.Folder.past c.replace_if_any.new.folder) (g.F.Folder.past c.make_all.new.folder))
    c.requires.name (c.in_err-make_all.ensures.steps free h).1 in
    let stops = stops_more (keeps_more (changing_keeps (codes ".svn") free removed) (inside_keeps (codes ".svn") free c.in_ok-replace_if_any.ensures.steps.0)) (changing_stops (codes ".svn") free made) in search rules

pub returns-clause-steps : goal.returns-clause-steps
returns-clause-steps g c = λ free h.
    let removed = subst (λ (n : Name). Keeps (is_changing n free) (g.F.Folder.past c.args.folder.now) (g.F.Folder.past c.remove_all.new.folder)) c.requires.name
    (c.in_ok-remove_all.ensures.steps free h).0 in
    let made = subst (λ (n : Name). Keeps (is_changing n free) (g.F.Folder.past c.replace_if_any.new.folder) (g.F.Folder.past c.make_all.new.folder))
    c.requires.name (c.in_ok-make_all.ensures.steps free h).0 in
    goes_more (g.F.Folder.past c.replace.new.folder) c.replace.result
    (keeps_more (keeps_more (changing_keeps (codes ".svn") free removed) (inside_keeps (codes ".svn") free c.in_ok-replace_if_any.ensures.steps.0)) (changing_keeps (codes ".svn") free made))
    (inside_goes_doing (codes ".svn") free (g.F.Folder.past c.make_all.new.folder) (g.F.Folder.past c.replace.new.folder) c.replace.result
    c.replace.ensures.steps)

-- ---- a crash

pub returns-in_err-remove_all-clause-crash : goal.returns-in_err-remove_all-clause-crash
returns-in_err-remove_all-clause-crash g c = λ sync nodes are.
    let stops = changing_breaks nodes c.args.self.now.admin.now.name c.requires.name (g.F.Folder.past c.args.folder.now) (g.F.Folder.past c.remove_all.new.folder)
    (c.in_err-remove_all.ensures.steps is_outside c.requires.outside).1 in search rules

pub returns-in_err-replace_if_any-clause-crash : goal.returns-in_err-replace_if_any-clause-crash
returns-in_err-replace_if_any-clause-crash g c = λ sync nodes are.
    let removed = changing_leads nodes c.args.self.now.admin.now.name c.requires.name (g.F.Folder.past c.args.folder.now) (g.F.Folder.past c.remove_all.new.folder)
    (c.in_ok-remove_all.ensures.steps is_outside c.requires.outside).0 in
    let stops = breaks_more removed (c.in_err-replace_if_any.ensures.crash sync nodes are.middle).1 in search rules

pub returns-in_err-make_all-clause-crash : goal.returns-in_err-make_all-clause-crash
returns-in_err-make_all-clause-crash g c = λ sync nodes are.
    let removed = changing_leads nodes c.args.self.now.admin.now.name c.requires.name (g.F.Folder.past c.args.folder.now) (g.F.Folder.past c.remove_all.new.folder)
    (c.in_ok-remove_all.ensures.steps is_outside c.requires.outside).0 in
    let made = changing_breaks nodes c.args.self.now.admin.now.name c.requires.name (g.F.Folder.past c.replace_if_any.new.folder)
    (g.F.Folder.past c.make_all.new.folder) (c.in_err-make_all.ensures.steps is_outside c.requires.outside).1 in
    let stops = breaks_more (leads_more removed (c.in_ok-replace_if_any.ensures.crash sync nodes are.middle).0) made in search rules

pub returns-clause-crash : goal.returns-clause-crash
returns-clause-crash g c = λ sync nodes are.
    let removed = changing_leads nodes c.args.self.now.admin.now.name c.requires.name (g.F.Folder.past c.args.folder.now) (g.F.Folder.past c.remove_all.new.folder)
    (c.in_ok-remove_all.ensures.steps is_outside c.requires.outside).0 in
    let made = changing_leads nodes c.args.self.now.admin.now.name c.requires.name (g.F.Folder.past c.replace_if_any.new.folder)
    (g.F.Folder.past c.make_all.new.folder) (c.in_ok-make_all.ensures.steps is_outside c.requires.outside).0 in
    runs_more (IsSafe (codes ".svn") nodes) (g.F.Folder.past c.replace.new.folder) c.replace.result
    (leads_more (leads_more removed (c.in_ok-replace_if_any.ensures.crash sync nodes are.middle).0) made) (c.replace.ensures.crash sync nodes are.end)

-- ---- what it spares

pub returns-in_err-remove_all-clause-spares : goal.returns-in_err-remove_all-clause-spares
returns-in_err-remove_all-clause-spares g c =
    let known = has_word c.args.self.now.known.now in
    let stops = subst (λ (n : Name). StopsIn (Spares known n) (g.F.Folder.past c.args.folder.now) (g.F.Folder.past c.remove_all.new.folder)) c.requires.name
    c.in_err-remove_all.ensures.spares.1 in search rules

pub returns-in_err-replace_if_any-clause-spares : goal.returns-in_err-replace_if_any-clause-spares
returns-in_err-replace_if_any-clause-spares g c =
    let known = has_word c.args.self.now.known.now in
    let removed = subst (λ (n : Name). KeepsIn (Spares known n) (g.F.Folder.past c.args.folder.now) (g.F.Folder.past c.remove_all.new.folder)) c.requires.name
    c.in_ok-remove_all.ensures.spares.0 in
    let stops = stops_in_more removed
    (inside_stops_in known (codes ".svn") (g.F.Folder.past c.remove_all.new.folder) (g.F.Folder.past c.replace_if_any.new.folder) c.in_err-replace_if_any.ensures.steps.1) in
    search rules

pub returns-in_err-make_all-clause-spares : goal.returns-in_err-make_all-clause-spares
returns-in_err-make_all-clause-spares g c =
    let known = has_word c.args.self.now.known.now in
    let removed = subst (λ (n : Name). KeepsIn (Spares known n) (g.F.Folder.past c.args.folder.now) (g.F.Folder.past c.remove_all.new.folder)) c.requires.name
    c.in_ok-remove_all.ensures.spares.0 in
    let replaced = inside_keeps_in known (codes ".svn") (g.F.Folder.past c.remove_all.new.folder) (g.F.Folder.past c.replace_if_any.new.folder)
    c.in_ok-replace_if_any.ensures.steps.0 in
    let made = subst (λ (n : Name). StopsIn (Spares known n) (g.F.Folder.past c.replace_if_any.new.folder) (g.F.Folder.past c.make_all.new.folder)) c.requires.name
    c.in_err-make_all.ensures.spares.1 in
    let stops = stops_in_more (keeps_in_more removed replaced) made in search rules

pub returns-clause-spares : goal.returns-clause-spares
returns-clause-spares g c =
    let known = has_word c.args.self.now.known.now in
    let removed = subst (λ (n : Name). KeepsIn (Spares known n) (g.F.Folder.past c.args.folder.now) (g.F.Folder.past c.remove_all.new.folder)) c.requires.name
    c.in_ok-remove_all.ensures.spares.0 in
    let replaced = inside_keeps_in known (codes ".svn") (g.F.Folder.past c.remove_all.new.folder) (g.F.Folder.past c.replace_if_any.new.folder)
    c.in_ok-replace_if_any.ensures.steps.0 in
    let made = subst (λ (n : Name). KeepsIn (Spares known n) (g.F.Folder.past c.replace_if_any.new.folder) (g.F.Folder.past c.make_all.new.folder)) c.requires.name
    c.in_ok-make_all.ensures.spares.0 in
    goes_in_more (g.F.Folder.past c.replace.new.folder) c.replace.result (keeps_in_more (keeps_in_more removed replaced) made)
    (inside_goes_in known (codes ".svn") (g.F.Folder.past c.make_all.new.folder) (g.F.Folder.past c.replace.new.folder) c.replace.result c.replace.ensures.steps)

-- ---- what is shown in the end

pub returns-clause-ends : goal.returns-clause-ends
returns-clause-ends g c = λ distinct.
    let task = c.args.self.now.task.now in
    let counted = c.len-count.ensures in
    let whole = task.work.ok.0 in
    let few = few_left (min task.removals (length task.work.items)) task.work.items (omega (arith, counted, whole)) in
    let outs = all_taken (λ item. is_outside (path_of item)) (min task.removals (length task.work.items)) task.work.items c.requires.outside in
    let outside = all_dropped (λ item. is_outside (path_of item)) (min task.removals (length task.work.items)) task.work.items c.requires.outside in
    ends_more (IsExchanged (codes ".svn")) (AreCarried (codes ".svn") (removals_in task) (makings_in task)) (g.F.Folder.past c.replace.new.folder) c.replace.result
    (λ a d e all exchanged. carried_exchanged (removals_in task) (makings_in task) a d e outs outside all exchanged)
    (turns_more (AreCarried (codes ".svn") (removals_in task) (makings_in task)) (λ a b d removed done. carried (removals_in task) (makings_in task) a b d few outs removed done)
    (turns_more (HasRemoved (removals_in task)) (λ a b d removed exchanged. removed_exchanged (removals_in task) a b d outs removed exchanged)
    c.in_ok-remove_all.ensures.ends c.in_ok-replace_if_any.ensures.ends)
    (c.in_ok-make_all.ensures.ends c.requires.name outside distinct))
    c.replace.ensures.ends
