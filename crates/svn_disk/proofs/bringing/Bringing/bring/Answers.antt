use Rattle.std.proofs.Common.{List, subst, rules}
use Rattle.std.specs.Prelude.{codes, OnOk}
use Rattle.svn_types.proofs.NameLemmas.{Name}
use Rattle.svn_disk.specs.Places.{is_either, is_of_change}
use Rattle.svn_disk.specs.Crashes.{Adds, AddsSome}
use Rattle.svn_disk.proofs.Going.{goes_more}
use Rattle.svn_disk.proofs.Changing.{inside_keeps, inside_stops}
use Rattle.svn_disk.proofs.Copies.{kept_none, added_breaks, brought_runs}
use Rattle.svn_disk.specs.Spared.{texts_of_either}
use Rattle.svn_disk.proofs.Sparing.{inside_keeps_in, inside_stops_in, goes_in_more}
use Rattle.svn_wcrows.specs.declared.work.Work.{Work}
use Rattle.svn_disk.specs.Tasks.{removals_in, makings_in, work_nodes}
use Rattle.svn_disk.specs.Changes.{removals_of, makings_of}
use Rattle.svn_disk.specs.Ends.{Turns, AreCopied, EachDone}
use Rattle.svn_disk.proofs.Ends.{ends_more}
use Rattle.svn_disk.proofs.EndsChange.{parts_of}
use Rattle.svn_disk.proofs.bringing.Bringing.bring.Goals as goal

pub returns-in_err-task-clause-crash : goal.returns-in_err-task-clause-crash
returns-in_err-task-clause-crash g c = λ sync.
    let stops = kept_none c.args.self.now.existing.now.copy c.args.self.now.wanted.now.copy (g.F.Folder.past c.args.folder.now.folder) in search rules

pub returns-in_err-ready-clause-steps : goal.returns-in_err-ready-clause-steps
returns-in_err-ready-clause-steps g c =
    let some = subst (λ (n : Name). AddsSome n (g.F.Folder.past c.args.folder.now.folder) (g.F.Folder.past c.prepare_all.new.folder.folder)) c.requires
    c.in_err-ready.ensures.adds.1 in
    let stops = inside_stops (codes ".svn") (is_either c.args.self.now.existing.now.copy c.args.self.now.wanted.now.copy) some.stops in search rules

pub returns-in_err-ready-clause-crash : goal.returns-in_err-ready-clause-crash
returns-in_err-ready-clause-crash g c = λ sync.
    let some = subst (λ (n : Name). AddsSome n (g.F.Folder.past c.args.folder.now.folder) (g.F.Folder.past c.prepare_all.new.folder.folder)) c.requires
    c.in_err-ready.ensures.adds.1 in
    let stops = added_breaks c.args.self.now.existing.now.copy c.args.self.now.wanted.now.copy (g.F.Folder.past c.args.folder.now.folder)
    (g.F.Folder.past c.prepare_all.new.folder.folder) some in search rules

pub returns-clause-steps : goal.returns-clause-steps
returns-clause-steps g c =
    let adds = subst (λ (n : Name). Adds n (g.F.Folder.past c.args.folder.now.folder) (g.F.Folder.past c.prepare_all.new.folder.folder)) c.requires
    c.in_ok-ready.ensures.adds.0 in
    goes_more (g.F.Folder.past c.finish.new.folder.folder) c.finish.result
    (inside_keeps (codes ".svn") (is_either c.args.self.now.existing.now.copy c.args.self.now.wanted.now.copy) adds.keeps) c.finish.ensures.steps

pub returns-clause-crash : goal.returns-clause-crash
returns-clause-crash g c = λ sync.
    let adds = subst (λ (n : Name). Adds n (g.F.Folder.past c.args.folder.now.folder) (g.F.Folder.past c.prepare_all.new.folder.folder)) c.requires
    c.in_ok-ready.ensures.adds.0 in
    brought_runs c.args.self.now.existing.now.copy c.args.self.now.wanted.now.copy c.in_ok-ready.ready.images.nodes.items c.in_ok-ready.ensures.nodes
    (g.F.Folder.past c.args.folder.now.folder) (g.F.Folder.past c.prepare_all.new.folder.folder) (g.F.Folder.past c.finish.new.folder.folder) c.finish.result adds
    (c.finish.ensures.crash sync)

pub returns-in_err-ready-clause-spares : goal.returns-in_err-ready-clause-spares
returns-in_err-ready-clause-spares g c =
    let known = texts_of_either c.args.self.now.existing.now.tables.pristine.items c.args.self.now.wanted.now.copy in
    let some = subst (λ (n : Name). AddsSome n (g.F.Folder.past c.args.folder.now.folder) (g.F.Folder.past c.prepare_all.new.folder.folder)) c.requires
    c.in_err-ready.ensures.adds.1 in
    let stops = inside_stops_in known (codes ".svn") (g.F.Folder.past c.args.folder.now.folder) (g.F.Folder.past c.prepare_all.new.folder.folder) some.stops in
    search rules

pub returns-clause-spares : goal.returns-clause-spares
returns-clause-spares g c =
    let known = texts_of_either c.args.self.now.existing.now.tables.pristine.items c.args.self.now.wanted.now.copy in
    let adds = subst (λ (n : Name). Adds n (g.F.Folder.past c.args.folder.now.folder) (g.F.Folder.past c.prepare_all.new.folder.folder)) c.requires
    c.in_ok-ready.ensures.adds.0 in
    goes_in_more (g.F.Folder.past c.finish.new.folder.folder) c.finish.result
    (inside_keeps_in known (codes ".svn") (g.F.Folder.past c.args.folder.now.folder) (g.F.Folder.past c.prepare_all.new.folder.folder) adds.keeps)
    c.finish.ensures.spares

pub returns-clause-ends : goal.returns-clause-ends
returns-clause-ends g c =
    let copy = c.args.self.now.wanted.now.copy in
    let task = c.in_ok-task.task in
    let nodes = work_nodes copy (makings_in task) in
    let copied = subst (λ (n : Name). Turns (λ a b. AreCopied n 0 nodes b) (g.F.Folder.past c.args.folder.now.folder) (g.F.Folder.past c.prepare_all.new.folder.folder))
    c.requires c.in_ok-ready.ensures.ends in
    let all = parts_of task _ _ c.in_ok-task.ensures.removals c.in_ok-task.ensures.makings in
    subst (λ (xs : List Work). OnOk c.finish.result (Turns (λ a b. EachDone copy xs xs b) (g.F.Folder.past c.args.folder.now.folder) (g.F.Folder.past c.finish.new.folder.folder)))
    all
    (ends_more (λ a b. AreCopied (codes ".svn") 0 nodes a → EachDone copy task.work.items task.work.items b) (λ a b. EachDone copy task.work.items task.work.items b)
    (g.F.Folder.past c.finish.new.folder.folder) c.finish.result (λ a b x are done. done are) copied
    (c.finish.ensures.ends c.in_ok-task.ensures.parted c.in_ok-task.ensures.distinct c.in_ok-ready.ensures.nodes c.in_ok-ready.ensures.files c.in_ok-ready.ensures.noted))
