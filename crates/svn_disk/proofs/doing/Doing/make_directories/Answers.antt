use Rattle.std.proofs.Common.{◌<◌, ◌+◌, [], ◌∷◌, ◌++◌, List, length, take, subst, sym, ap, ◌∙◌, arith, rules}
use Rattle.std.proofs.lemmas.List.{take_more}
use Rattle.std.proofs.Math.Seq.{take-length}
use Rattle.svn_wcrows.specs.declared.work.Work.{Work}
use Rattle.svn_disk.specs.Plans.{path_of}
use Rattle.svn_disk.specs.Ends.{Turns, AreMade}
use Rattle.svn_disk.proofs.Going.{keeps_more, stops_more}
use Rattle.svn_disk.proofs.Placing.{all_item}
use Rattle.svn_disk.proofs.Sparing.{keeps_in_more, stops_in_more}
use Rattle.svn_disk.proofs.Going.{keeps_none}
use Rattle.svn_disk.proofs.Sparing.{keeps_in_none}
use Rattle.svn_disk.proofs.Ends.{turns_none, turns_more}
use Rattle.svn_disk.proofs.EndsWork.{made_none, made_more}
use Rattle.svn_disk.proofs.doing.Doing.make_directories.Goals as goal

pub returns-in_err-make_one-clause-steps : goal.returns-in_err-make_one-clause-steps
returns-in_err-make_one-clause-steps g c = λ free h.
    let below : c.loop-item.item-index < length c.args.work.now = omega arith in
    let here = all_item (λ item. free (path_of item)) c.args.work.now c.loop-item.item-index c.item-item.result c.item-item.result below c.item-item.is h in
    let stops = stops_more (c.loop-item.invariant.steps free h) (c.in_err-make_one.ensures.steps free here).1 in search rules

pub loop-item-preserved : goal.loop-item-preserved
loop-item-preserved g c = record {
  steps = λ free h.
      let below : c.loop-item.item-index < length c.args.work.now = omega arith in
      let here = all_item (λ item. free (path_of item)) c.args.work.now c.loop-item.item-index c.item-item.result c.item-item.result below c.item-item.is h in
      keeps_more (c.loop-item.invariant.steps free h) (c.in_ok-make_one.ensures.steps free here).0;
  spares = keeps_in_more c.loop-item.invariant.spares c.in_ok-make_one.ensures.spares.0;
  ends =
      let below : c.loop-item.item-index < length c.args.work.now = omega arith in
      let some = take c.loop-item.item-index c.args.work.now in
      subst (λ (xs : List Work). Turns (AreMade xs) (g.F.Folder.past c.args.folder.now) (g.F.Folder.past c.make_one.new.folder))
      (ap (λ (x : Work). some ++ x ∷ []) c.item-item.is ∙ sym (take_more c.args.work.now c.loop-item.item-index c.item-item.result below))
      (turns_more (AreMade (some ++ c.item-item.result ∷ [])) (λ a b x. made_more some c.item-item.result a b x) c.loop-item.invariant.ends
      c.in_ok-make_one.ensures.ends);
}

pub returns-in_err-make_one-clause-spares : goal.returns-in_err-make_one-clause-spares
returns-in_err-make_one-clause-spares g c =
    let stops = stops_in_more c.loop-item.invariant.spares c.in_err-make_one.ensures.spares.1 in search rules

pub loop-item-init : goal.loop-item-init
loop-item-init g c = record {
  steps = λ free h. keeps_none _ (g.F.Folder.past c.args.folder.now);
  spares = keeps_in_none _ (g.F.Folder.past c.args.folder.now);
  ends = turns_none (AreMade []) (g.F.Folder.past c.args.folder.now) made_none;
}

pub returns-clause-ends : goal.returns-clause-ends
returns-clause-ends g c =
    subst (λ (xs : List Work). Turns (AreMade xs) (g.F.Folder.past c.args.folder.now) (g.F.Folder.past c.loop-item.folder))
    (ap (λ k. take k c.args.work.now) (omega arith) ∙ take-length c.args.work.now) c.loop-item.invariant.ends
