use Rattle.std.proofs.Common.{ℕ, List, ◌<◌, ◌^◌, length, subst, ◌∙◌, rules}
use Rattle.svn_types.specs.Names.{Path}
use Rattle.svn_model.specs.declared.base_node.BaseNode.{BaseNode}
use Rattle.svn_disk.specs.Places.{is_inside}
use Rattle.svn_disk.proofs.Going.{keeps_none, keeps_more, stops_more, stops_there}
use Rattle.svn_disk.specs.Ends.{IsHeld}
use Rattle.svn_disk.proofs.EndsTexts.{none_come, one_comes, all_came}
use Rattle.svn_disk.proofs.checkout.prepare_all.Goals as goal

pub loop-path-init : goal.loop-path-init
loop-path-init g c =
    let n = c.args.making.now.admin.now.name in
    let now = g.F.Folder.past c.args.folder.now in
    record {
      steps = keeps_none (is_inside n) now;
      ends = none_come n (IsHeld c.in_ok-progress.progress.texts.sizes.entries) c.in_ok-progress.progress.files c.into_iter-path-iterator.result c.args.what.now.copy.now now
          (c.into_iter-path-iterator.ensures.into_iter_gives ∙ c.iter-path-items.ensures.rest) c.in_ok-progress.ensures;
    }

pub loop-path-preserved : goal.loop-path-preserved
loop-path-preserved g c = record {
  steps = keeps_more c.loop-path.invariant.steps c.in_ok-prepare_node.ensures.steps.0;
  ends = one_comes c.args.making.now.admin.now.name (IsHeld c.loop-path.progress.texts.sizes.entries) (IsHeld c.prepare_node.new.progress.texts.sizes.entries)
      c.loop-path.progress.files c.prepare_node.new.progress.files c.loop-path.path-iterator c.next.new.self c.args.what.now.copy.now c.in-Some.path.now
      c.in-Some.node.now (g.F.Folder.past c.args.folder.now) (g.F.Folder.past c.loop-path.folder) (g.F.Folder.past c.prepare_node.new.folder)
      (subst (λ (xs : List (Path × BaseNode)). length xs < 2 ^ 63) c.nodes.ensures
      (subst (λ (k : ℕ). k < 2 ^ 63) c.len-count.ensures.len c.len-count.ensures.small))
      c.in-Some.ensures.steps c.in_ok-prepare_node.ensures.files c.in_ok-prepare_node.ensures.held c.in_ok-prepare_node.ensures.others
      c.in_ok-prepare_node.ensures.ends c.loop-path.invariant.ends;
}

pub returns-in_err-prepare_node-clause-steps : goal.returns-in_err-prepare_node-clause-steps
returns-in_err-prepare_node-clause-steps g c = let stops = stops_more c.loop-path.invariant.steps c.in_err-prepare_node.ensures.steps.1 in search rules

pub returns-in_err-count_texts-clause-steps : goal.returns-in_err-count_texts-clause-steps
returns-in_err-count_texts-clause-steps g c = let stops = stops_there c.loop-path.invariant.steps in search rules

pub returns-clause-ends : goal.returns-clause-ends
returns-clause-ends g c =
    all_came c.args.making.now.admin.now.name (IsHeld c.loop-path.progress.texts.sizes.entries) c.loop-path.progress.files c.loop-path.path-iterator
    c.args.what.now.copy.now (g.F.Folder.past c.args.folder.now) (g.F.Folder.past c.loop-path.folder) c.in-None.ensures.steps.0 c.loop-path.invariant.ends
