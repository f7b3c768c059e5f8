use Rattle.std.proofs.Common.{◌<◌, ◌+◌, [], length, take, drop, refl, arith, rules}
use Rattle.svn_disk.specs.Plans.{path_of}
use Rattle.svn_disk.specs.Ends.{AreDirectories, AreDone}
use Rattle.svn_disk.proofs.Going.{keeps_more, stops_more}
use Rattle.svn_disk.proofs.Placing.{all_item}
use Rattle.svn_disk.proofs.Sparing.{keeps_in_more, stops_in_more}
use Rattle.svn_disk.proofs.Going.{keeps_none}
use Rattle.svn_disk.proofs.Sparing.{keeps_in_none}
use Rattle.svn_disk.proofs.Ends.{turns_none, turns_more, turns_along}
use Rattle.svn_disk.proofs.EndsWork.{HasPlaced, placed_none, placed_step_by, count_below, count_next, all_placed_done}
use Rattle.svn_disk.proofs.doing.Doing.place_files.Goals as goal

pub returns-in_err-place_one-clause-steps : goal.returns-in_err-place_one-clause-steps
returns-in_err-place_one-clause-steps g c = λ free h.
    let below : c.loop-item.item-index < length c.args.work.now = omega arith in
    let here = all_item (λ item. free (path_of item)) c.args.work.now c.loop-item.item-index c.item-item.result c.item-item.result below c.item-item.is h in
    let stops = stops_more (c.loop-item.invariant.steps free h) (c.in_err-place_one.ensures.steps free here).1 in search rules

pub loop-item-preserved : goal.loop-item-preserved
loop-item-preserved g c = record {
  steps = λ free h.
      let below : c.loop-item.item-index < length c.args.work.now = omega arith in
      let here = all_item (λ item. free (path_of item)) c.args.work.now c.loop-item.item-index c.item-item.result c.item-item.result below c.item-item.is h in
      keeps_more (c.loop-item.invariant.steps free h) (c.in_ok-place_one.ensures.steps free here).0;
  spares = keeps_in_more c.loop-item.invariant.spares c.in_ok-place_one.ensures.spares.0;
  counted =
      let below : c.loop-item.item-index < length c.args.work.now = omega arith in
      count_next c.args.work.now c.loop-item.item-index c.loop-item.number c.saturating_add-number.result c.files_in.result c.item-item.result below
      c.item-item.is c.loop-item.invariant.counted c.files_in.ensures (omega arith) c.saturating_add-number.ensures;
  ends = λ is outside distinct.
      let below : c.loop-item.item-index < length c.args.work.now = omega arith in
      let few = count_below c.args.work.now c.loop-item.item-index (omega arith) in
      let counted = c.loop-item.invariant.counted in
      turns_more (λ a b. AreDirectories c.args.work.now a → HasPlaced (take (c.loop-item.item-index + 1) c.args.work.now) (drop (c.loop-item.item-index + 1) c.args.work.now) a b)
      (λ a b x first one are.
      placed_step_by c.args.work.now c.loop-item.item-index c.item-item.result c.args.self.now.admin.now.name c.loop-item.number a b x is
      c.loop-item.invariant.counted below c.item-item.is distinct outside (omega (arith, few, counted)) (first are) one)
      (c.loop-item.invariant.ends is outside distinct) c.in_ok-place_one.ensures.ends;
}

pub returns-in_err-place_one-clause-spares : goal.returns-in_err-place_one-clause-spares
returns-in_err-place_one-clause-spares g c =
    let stops = stops_in_more c.loop-item.invariant.spares c.in_err-place_one.ensures.spares.1 in search rules

pub loop-item-init : goal.loop-item-init
loop-item-init g c = record {
  steps = λ free h. keeps_none _ (g.F.Folder.past c.args.folder.now);
  spares = keeps_in_none _ (g.F.Folder.past c.args.folder.now);
  counted = refl;
  ends = λ is outside distinct.
      turns_none (λ a b. AreDirectories c.args.work.now a → HasPlaced [] c.args.work.now a b) (g.F.Folder.past c.args.folder.now)
      (λ a are. placed_none c.args.work.now a are);
}

pub returns-clause-ends : goal.returns-clause-ends
returns-clause-ends g c = λ is outside distinct.
    turns_along (λ a b. AreDirectories c.args.work.now a → AreDone _ c.args.work.now a b)
    (λ a b first are. all_placed_done c.args.work.now c.loop-item.item-index a b (omega arith) (first are))
    (c.loop-item.invariant.ends is outside distinct)
