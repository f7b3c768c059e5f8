use Rattle.std.proofs.Common.{cond, Some, None, sym, refl, ap, ◌∙◌}
use Rattle.svn_editor.specs.declared.fault.EditFault.TheVariants.{TooDeep}
use Rattle.svn_edit.proofs.pending.Pending.close_switch.Goals as goal

pub returns-then-is_settled_deep : goal.returns-then-is_settled_deep
returns-then-is_settled_deep c = (ap (λ b. cond b (Some TooDeep) None) (sym c.is_settled_deep.ensures ∙ c.if-is_settled_deep.true), refl)

pub returns : goal.returns
returns c = (
  ap (λ b. cond b (Some TooDeep) None) (sym c.is_settled_deep.ensures ∙ c.if-is_settled_deep.false),
  c.settle_moved.ensures c.args.root.now (rw c.in_ok-moved.ensures.ok at c.moved_paths.ensures),
)
