use Rattle.std.proofs.Common.{◌≡◌, List, Vec, Global, subst, sym}
use Rattle.std.specs.Prelude.{Option, option_map}
use Rattle.svn_wcdb.specs.declared.table.TableRow.{TableRow}
use Rattle.svn_wcrows.specs.declared.work.Work.{Work}
use Rattle.svn_wcrows.specs.Work.{AreItems, AreRead}
use Rattle.svn_disk.specs.Ends.{AreDistinct}
use Rattle.svn_disk.proofs.Queue.{items_queued}
use Rattle.svn_disk.proofs.completion.task_of.Goals as goal

pub returns-clause-queue : goal.returns-clause-queue
returns-clause-queue c =
    let rows = c.args.existing.now.tables.work_queue.items in
    let read = subst (λ (o : Option (Vec Work Global)). AreRead c.deref.result.now (option_map (λ items. items.items) o)) c.in-Some.is c.in_ok-work.ensures in
    let are = subst (λ (xs : List TableRow). AreItems xs c.in-Some.work.items) c.deref.ensures.value read in
    items_queued rows c.in-Some-of_queue.task.work.items
    (subst (λ (xs : List Work). AreItems rows xs) (sym c.in-Some-of_queue.ensures.same) are) c.in-Some-of_queue.ensures.outside

pub returns-clause-items : goal.returns-clause-items
returns-clause-items c =
    let rows = c.args.existing.now.tables.work_queue.items in
    let read = subst (λ (o : Option (Vec Work Global)). AreRead c.deref.result.now (option_map (λ items. items.items) o)) c.in-Some.is c.in_ok-work.ensures in
    subst (λ (xs : List Work). AreItems rows xs) (sym c.in-Some-of_queue.ensures.same)
    (subst (λ (xs : List TableRow). AreItems xs c.in-Some.work.items) c.deref.ensures.value read)

pub returns-clause-distinct : goal.returns-clause-distinct
returns-clause-distinct c = subst AreDistinct c.makings.ensures.same c.in_ok-refuse_repeated.ensures
