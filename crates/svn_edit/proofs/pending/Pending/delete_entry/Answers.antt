use Rattle.std.proofs.Common.{◌≡◌, None, [], ◌∙◌, rules}
use Rattle.svn_model.specs.Nodes.{get_in}
use Rattle.svn_nodes.specs.NodeTests.{delete_fault_of}
use Rattle.law_copy.proofs.StepEffects.{effect_delete}
use Rattle.svn_edit.proofs.pending.Pending.delete_entry.Goals as goal

pub returns : goal.returns
returns c = λ mode.
    let w = get_in c.args.copy.now.entries in
    let shut : delete_fault_of (w c.args.path.now) c.args.rev ≡ None = search rules in (
      shut,
      λ p. c.delete_within.ensures p ∙ effect_delete mode c.args.self.now.target [] c.args.path.now
          c.args.rev w p,
    )
