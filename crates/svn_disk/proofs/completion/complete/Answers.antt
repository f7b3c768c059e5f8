use Rattle.std.proofs.Common.{◌≡◌, true, min, length, List, subst, rules}
use Rattle.svn_wcrows.specs.declared.work.Work.{Work}
use Rattle.svn_folder.specs.States.{seen}
use Rattle.svn_folder.specs.Steps.{run}
use Rattle.svn_disk.specs.Goes.{IsAlways}
use Rattle.svn_disk.specs.Tasks.{removals_in, makings_in, work_nodes}
use Rattle.svn_disk.specs.Ends.{Turns, AreFiles, AreCopied, AreReady, AreCarried, IsCompleted}
use Rattle.svn_wcdb.specs.declared.table.TableRow.{TableRow}
use Rattle.std.specs.Prelude.{codes}
use Rattle.svn_types.proofs.NameLemmas.{Name}
use Rattle.svn_disk.specs.Places.{is_outside}
use Rattle.svn_disk.specs.Crashes.{Adds, AddsSome, IsSafe, EachText, IsTextIn}
use Rattle.svn_disk.specs.Queue.{is_queued}
use Rattle.svn_disk.specs.Spared.{texts_in}
use Rattle.svn_disk.specs.Finding.{has_word}
use Rattle.svn_disk.proofs.Going.{stops_there, goes_more}
use Rattle.svn_disk.proofs.Running.{breaks_there, runs_more}
use Rattle.svn_disk.proofs.Adding.{temporary_adds, temporary_adds_some}
use Rattle.svn_disk.proofs.Changing.{inside_keeps, inside_stops}
use Rattle.svn_disk.proofs.Replacing.{safe_none}
use Rattle.svn_disk.proofs.Sparing.{inside_keeps_in, inside_stops_in, stops_in_there, goes_in_more, spares_more}
use Rattle.svn_disk.proofs.Ends.{ends_more}
use Rattle.svn_disk.proofs.EndsDone.{texts_dropped}
use Rattle.svn_disk.proofs.EndsAgain.{ready_since, task_done}
use Rattle.svn_disk.proofs.completion.complete.Goals as goal

pub returns-in_err-task-clause-crash : goal.returns-in_err-task-clause-crash
returns-in_err-task-clause-crash g c = λ sync. let stops = safe_none c.args.existing.nodes.items (g.F.Folder.past c.args.folder.now) in search rules

pub returns-in_err-admin-clause-crash : goal.returns-in_err-admin-clause-crash
returns-in_err-admin-clause-crash g c = λ sync. let stops = safe_none c.args.existing.nodes.items (g.F.Folder.past c.args.folder.now) in search rules

pub returns-in_err-known-clause-crash : goal.returns-in_err-known-clause-crash
returns-in_err-known-clause-crash g c = λ sync. let stops = safe_none c.args.existing.nodes.items (g.F.Folder.past c.args.folder.now) in search rules

pub returns-in_err-refuse_others-clause-crash : goal.returns-in_err-refuse_others-clause-crash
returns-in_err-refuse_others-clause-crash g c = λ sync. let stops = safe_none c.args.existing.nodes.items (g.F.Folder.past c.args.folder.now) in search rules

pub returns-in_err-prepare_all-clause-steps : goal.returns-in_err-prepare_all-clause-steps
returns-in_err-prepare_all-clause-steps g c =
    let some = subst (λ (n : Name). AddsSome n (g.F.Folder.past c.args.folder.now) (g.F.Folder.past c.prepare_all.new.folder)) c.in_ok-admin.ensures
    (temporary_adds_some c.in_ok-admin.admin.name (g.F.Folder.past c.args.folder.now) (g.F.Folder.past c.prepare_all.new.folder) c.in_err-prepare_all.ensures.steps.1) in
    let stops = inside_stops (codes ".svn") is_outside some.stops in search rules

pub returns-in_err-prepare_all-clause-crash : goal.returns-in_err-prepare_all-clause-crash
returns-in_err-prepare_all-clause-crash g c = λ sync.
    let some = subst (λ (n : Name). AddsSome n (g.F.Folder.past c.args.folder.now) (g.F.Folder.past c.prepare_all.new.folder)) c.in_ok-admin.ensures
    (temporary_adds_some c.in_ok-admin.admin.name (g.F.Folder.past c.args.folder.now) (g.F.Folder.past c.prepare_all.new.folder) c.in_err-prepare_all.ensures.steps.1) in
    let stops = some.breaks c.args.existing.nodes.items in search rules

pub returns-in_err-databases-clause-steps : goal.returns-in_err-databases-clause-steps
returns-in_err-databases-clause-steps g c =
    let adds = subst (λ (n : Name). Adds n (g.F.Folder.past c.args.folder.now) (g.F.Folder.past c.prepare_all.new.folder)) c.in_ok-admin.ensures
    (temporary_adds c.in_ok-admin.admin.name (g.F.Folder.past c.args.folder.now) (g.F.Folder.past c.prepare_all.new.folder) c.in_ok-prepare_all.ensures.steps.0) in
    let stops = stops_there (inside_keeps (codes ".svn") is_outside adds.keeps) in search rules

pub returns-in_err-databases-clause-crash : goal.returns-in_err-databases-clause-crash
returns-in_err-databases-clause-crash g c = λ sync.
    let adds = subst (λ (n : Name). Adds n (g.F.Folder.past c.args.folder.now) (g.F.Folder.past c.prepare_all.new.folder)) c.in_ok-admin.ensures
    (temporary_adds c.in_ok-admin.admin.name (g.F.Folder.past c.args.folder.now) (g.F.Folder.past c.prepare_all.new.folder) c.in_ok-prepare_all.ensures.steps.0) in
    let stops = breaks_there (adds.leads c.args.existing.nodes.items) in search rules

pub returns-clause-steps : goal.returns-clause-steps
returns-clause-steps g c =
    let adds = subst (λ (n : Name). Adds n (g.F.Folder.past c.args.folder.now) (g.F.Folder.past c.prepare_all.new.folder)) c.in_ok-admin.ensures
    (temporary_adds c.in_ok-admin.admin.name (g.F.Folder.past c.args.folder.now) (g.F.Folder.past c.prepare_all.new.folder) c.in_ok-prepare_all.ensures.steps.0) in
    goes_more (g.F.Folder.past c.carry_on.new.folder) c.carry_on.result (inside_keeps (codes ".svn") is_outside adds.keeps) (c.carry_on.ensures.steps is_outside c.in_ok-task.ensures.outside)

pub returns-clause-crash : goal.returns-clause-crash
returns-clause-crash g c = λ sync.
    let adds = subst (λ (n : Name). Adds n (g.F.Folder.past c.args.folder.now) (g.F.Folder.past c.prepare_all.new.folder)) c.in_ok-admin.ensures
    (temporary_adds c.in_ok-admin.admin.name (g.F.Folder.past c.args.folder.now) (g.F.Folder.past c.prepare_all.new.folder) c.in_ok-prepare_all.ensures.steps.0) in
    runs_more (IsSafe (codes ".svn") c.args.existing.nodes.items) (g.F.Folder.past c.carry_on.new.folder) c.carry_on.result
    (adds.leads c.args.existing.nodes.items) (c.carry_on.ensures.crash sync c.args.existing.nodes.items c.in_ok-databases.ensures)

-- ---- what its steps are at

pub returns-in_err-prepare_all-clause-queue : goal.returns-in_err-prepare_all-clause-queue
returns-in_err-prepare_all-clause-queue g c =
    let some = subst (λ (n : Name). AddsSome n (g.F.Folder.past c.args.folder.now) (g.F.Folder.past c.prepare_all.new.folder)) c.in_ok-admin.ensures
    (temporary_adds_some c.in_ok-admin.admin.name (g.F.Folder.past c.args.folder.now) (g.F.Folder.past c.prepare_all.new.folder) c.in_err-prepare_all.ensures.steps.1) in
    let stops = inside_stops (codes ".svn") (is_queued c.args.existing.tables.work_queue.items) some.stops in search rules

pub returns-in_err-databases-clause-queue : goal.returns-in_err-databases-clause-queue
returns-in_err-databases-clause-queue g c =
    let adds = subst (λ (n : Name). Adds n (g.F.Folder.past c.args.folder.now) (g.F.Folder.past c.prepare_all.new.folder)) c.in_ok-admin.ensures
    (temporary_adds c.in_ok-admin.admin.name (g.F.Folder.past c.args.folder.now) (g.F.Folder.past c.prepare_all.new.folder) c.in_ok-prepare_all.ensures.steps.0) in
    let stops = stops_there (inside_keeps (codes ".svn") (is_queued c.args.existing.tables.work_queue.items) adds.keeps) in search rules

pub returns-clause-queue : goal.returns-clause-queue
returns-clause-queue g c =
    let queued = is_queued c.args.existing.tables.work_queue.items in
    let adds = subst (λ (n : Name). Adds n (g.F.Folder.past c.args.folder.now) (g.F.Folder.past c.prepare_all.new.folder)) c.in_ok-admin.ensures
    (temporary_adds c.in_ok-admin.admin.name (g.F.Folder.past c.args.folder.now) (g.F.Folder.past c.prepare_all.new.folder) c.in_ok-prepare_all.ensures.steps.0) in
    goes_more (g.F.Folder.past c.carry_on.new.folder) c.carry_on.result (inside_keeps (codes ".svn") queued adds.keeps)
    (c.carry_on.ensures.steps queued c.in_ok-task.ensures.queue)

-- ---- what it spares

pub returns-in_err-prepare_all-clause-spares : goal.returns-in_err-prepare_all-clause-spares
returns-in_err-prepare_all-clause-spares g c =
    let some = subst (λ (n : Name). AddsSome n (g.F.Folder.past c.args.folder.now) (g.F.Folder.past c.prepare_all.new.folder)) c.in_ok-admin.ensures
    (temporary_adds_some c.in_ok-admin.admin.name (g.F.Folder.past c.args.folder.now) (g.F.Folder.past c.prepare_all.new.folder) c.in_err-prepare_all.ensures.steps.1) in
    let stops = inside_stops_in (texts_in c.args.existing.tables.pristine.items) (codes ".svn") (g.F.Folder.past c.args.folder.now)
    (g.F.Folder.past c.prepare_all.new.folder) some.stops in search rules

pub returns-in_err-databases-clause-spares : goal.returns-in_err-databases-clause-spares
returns-in_err-databases-clause-spares g c =
    let adds = subst (λ (n : Name). Adds n (g.F.Folder.past c.args.folder.now) (g.F.Folder.past c.prepare_all.new.folder)) c.in_ok-admin.ensures
    (temporary_adds c.in_ok-admin.admin.name (g.F.Folder.past c.args.folder.now) (g.F.Folder.past c.prepare_all.new.folder) c.in_ok-prepare_all.ensures.steps.0) in
    let stops = stops_in_there (inside_keeps_in (texts_in c.args.existing.tables.pristine.items) (codes ".svn") (g.F.Folder.past c.args.folder.now)
    (g.F.Folder.past c.prepare_all.new.folder) adds.keeps) in search rules

pub returns-clause-spares : goal.returns-clause-spares
returns-clause-spares g c =
    let known = texts_in c.args.existing.tables.pristine.items in
    let adds = subst (λ (n : Name). Adds n (g.F.Folder.past c.args.folder.now) (g.F.Folder.past c.prepare_all.new.folder)) c.in_ok-admin.ensures
    (temporary_adds c.in_ok-admin.admin.name (g.F.Folder.past c.args.folder.now) (g.F.Folder.past c.prepare_all.new.folder) c.in_ok-prepare_all.ensures.steps.0) in
    goes_in_more (g.F.Folder.past c.carry_on.new.folder) c.carry_on.result
    (inside_keeps_in known (codes ".svn") (g.F.Folder.past c.args.folder.now) (g.F.Folder.past c.prepare_all.new.folder) adds.keeps)
    (spares_more (has_word c.in_ok-known.known) known
    (λ t has. subst (λ (xs : List TableRow). texts_in xs t ≡ true) c.deref.ensures.value (c.in_ok-known.ensures t has)) (codes ".svn") (g.F.Folder.past c.prepare_all.new.folder)
    (g.F.Folder.past c.carry_on.new.folder) c.carry_on.result c.carry_on.ensures.spares)

-- ---- what is shown in the end

pub returns-clause-ends : goal.returns-clause-ends
returns-clause-ends g c =
    let rows = c.args.existing.tables.work_queue.items in
    let copy = c.args.existing.copy in
    let task = c.in_ok-task.task in
    let old = g.F.Folder.past c.args.folder.now in
    let now = g.F.Folder.past c.prepare_all.new.folder in
    let nodes = work_nodes copy (makings_in task) in
    let files = subst (AreFiles copy) c.makings.ensures.same c.in_ok-prepare_all.ensures.files in
    let texts : IsAlways (λ s. EachText (IsTextIn c.in_ok-admin.admin.name (seen s)) nodes) old = λ s steps is.
    texts_dropped (IsTextIn c.in_ok-admin.admin.name (seen (run s steps))) copy (min task.removals (length task.work.items)) task.work.items
    (c.in_ok-refuse_others.ensures s steps is) in
    let copied = subst (λ (xs : List Work). Turns (λ a b. AreCopied c.in_ok-admin.admin.name 0 (work_nodes copy xs) b) old now) c.makings.ensures.same
    c.in_ok-prepare_all.ensures.ends in
    let ready = subst (λ (n : Name). Turns (λ a b. AreReady n 0 nodes b) old now) c.in_ok-admin.ensures
    (ready_since c.in_ok-admin.admin.name nodes old now texts c.in_ok-prepare_all.ensures.steps.0 copied) in
    ends_more (AreCarried (codes ".svn") (removals_in task) (makings_in task)) (λ a b. IsCompleted rows copy b) (g.F.Folder.past c.carry_on.new.folder)
    c.carry_on.result (λ a b x is carried. task_done rows copy task a b x c.in_ok-task.ensures.items c.in_ok-task.ensures.parted files is carried) ready
    (c.carry_on.ensures.ends c.in_ok-task.ensures.distinct)
