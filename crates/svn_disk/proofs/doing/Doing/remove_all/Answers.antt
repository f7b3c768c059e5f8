use Rattle.std.proofs.Common.{◌<◌, ◌+◌, [], ◌∷◌, ◌++◌, List, length, take, subst, sym, ap, ◌∙◌, arith, rules}
use Rattle.std.proofs.lemmas.List.{take_more}
use Rattle.std.proofs.Math.Seq.{take-length}
use Rattle.svn_wcrows.specs.declared.work.Work.{Work}
use Rattle.svn_folder.specs.Files.{is_sync}
use Rattle.svn_disk.specs.Plans.{path_of}
use Rattle.svn_disk.specs.Finding.{has_word}
use Rattle.svn_disk.specs.Tasks.{removals_in}
use Rattle.svn_disk.specs.Ends.{Turns, AreRemoved, IsSame}
use Rattle.svn_disk.proofs.Going.{keeps_more, stops_more, goes_more}
use Rattle.svn_disk.proofs.Placing.{all_item}
use Rattle.svn_disk.proofs.Changing.{syncs_changing}
use Rattle.svn_disk.proofs.Sparing.{keeps_in_more, stops_in_more, goes_in_more, syncs_go_in}
use Rattle.svn_disk.proofs.Going.{keeps_none}
use Rattle.svn_disk.proofs.Sparing.{keeps_in_none}
use Rattle.svn_disk.proofs.Ends.{turns_none, turns_more, ends_more, goes_turns}
use Rattle.svn_disk.proofs.EndsCopy.{syncs_same}
use Rattle.svn_disk.proofs.EndsDone.{removed_none, removed_more, removed_still}
use Rattle.svn_disk.proofs.doing.Doing.remove_all.Goals as goal

pub returns-in_err-remove_one-clause-steps : goal.returns-in_err-remove_one-clause-steps
returns-in_err-remove_one-clause-steps g c = λ free h.
    let all = c.removals-removals.ensures.all (λ item. free (path_of item)) h in
    let below : c.loop-item.item-index < length c.removals-removals.result.now = omega arith in
    let here = all_item (λ item. free (path_of item)) c.removals-removals.result.now c.loop-item.item-index c.item-item.result c.item-item.result below c.item-item.is all in
    let stops = stops_more (c.loop-item.invariant.steps free h) (c.in_err-remove_one.ensures.steps free here).1 in search rules

pub loop-item-preserved : goal.loop-item-preserved
loop-item-preserved g c = record {
  steps = λ free h.
      let all = c.removals-removals.ensures.all (λ item. free (path_of item)) h in
      let below : c.loop-item.item-index < length c.removals-removals.result.now = omega arith in
      let here = all_item (λ item. free (path_of item)) c.removals-removals.result.now c.loop-item.item-index c.item-item.result c.item-item.result below c.item-item.is all in
      keeps_more (c.loop-item.invariant.steps free h) (c.in_ok-remove_one.ensures.steps free here).0;
  spares = keeps_in_more c.loop-item.invariant.spares c.in_ok-remove_one.ensures.spares.0;
  ends =
      let below : c.loop-item.item-index < length c.removals-removals.result.now = omega arith in
      let some = take c.loop-item.item-index c.removals-removals.result.now in
      subst (λ (xs : List Work). Turns (AreRemoved xs) (g.F.Folder.past c.args.folder.now) (g.F.Folder.past c.remove_one.new.folder))
      (ap (λ (x : Work). some ++ x ∷ []) c.item-item.is ∙ sym (take_more c.removals-removals.result.now c.loop-item.item-index c.item-item.result below))
      (turns_more (AreRemoved (some ++ c.item-item.result ∷ [])) (λ a b x. removed_more some c.item-item.result a b x) c.loop-item.invariant.ends
      c.in_ok-remove_one.ensures.ends);
}

pub returns-clause-steps : goal.returns-clause-steps
returns-clause-steps g c = λ free h.
    goes_more (g.F.Folder.past c.sync_above.new.folder) c.sync_above.result (c.loop-item.invariant.steps free h)
    (syncs_changing c.args.self.now.admin.now.name free (g.F.Folder.past c.loop-item.folder) (g.F.Folder.past c.sync_above.new.folder) c.sync_above.result
    c.sync_above.ensures)

pub returns-in_err-remove_one-clause-spares : goal.returns-in_err-remove_one-clause-spares
returns-in_err-remove_one-clause-spares g c =
    let stops = stops_in_more c.loop-item.invariant.spares c.in_err-remove_one.ensures.spares.1 in search rules

pub returns-clause-spares : goal.returns-clause-spares
returns-clause-spares g c =
    goes_in_more (g.F.Folder.past c.sync_above.new.folder) c.sync_above.result c.loop-item.invariant.spares
    (syncs_go_in (has_word c.args.self.now.known.now) c.args.self.now.admin.now.name (g.F.Folder.past c.loop-item.folder) (g.F.Folder.past c.sync_above.new.folder)
    c.sync_above.result c.sync_above.ensures)

pub loop-item-init : goal.loop-item-init
loop-item-init g c = record {
  steps = λ free h. keeps_none _ (g.F.Folder.past c.args.folder.now);
  spares = keeps_in_none _ (g.F.Folder.past c.args.folder.now);
  ends = turns_none (AreRemoved []) (g.F.Folder.past c.args.folder.now) removed_none;
}

pub returns-clause-ends : goal.returns-clause-ends
returns-clause-ends g c =
    let work = c.removals-removals.result.now in
    let all = subst (λ (xs : List Work). Turns (AreRemoved xs) (g.F.Folder.past c.args.folder.now) (g.F.Folder.past c.loop-item.folder))
    (ap (λ k. take k work) (omega arith) ∙ take-length work ∙ c.removals-removals.ensures.same) c.loop-item.invariant.ends in
    ends_more IsSame (AreRemoved (removals_in c.args.self.now.task.now)) (g.F.Folder.past c.sync_above.new.folder) c.sync_above.result
    (λ a b x first same. removed_still (removals_in c.args.self.now.task.now) a b x first same) all
    (goes_turns IsSame is_sync (g.F.Folder.past c.loop-item.folder) (g.F.Folder.past c.sync_above.new.folder) c.sync_above.result syncs_same c.sync_above.ensures)
