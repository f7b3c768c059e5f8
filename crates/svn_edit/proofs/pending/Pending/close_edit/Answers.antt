use Rattle.std.proofs.Common.{sym, ap, ◌∙◌, subst}
use Rattle.svn_editor.specs.declared.mode.Mode.{Mode}
use Rattle.svn_model.specs.Nodes.{get_in}
use Rattle.svn_model.specs.Effects.{settled, settle_fault}
use Rattle.svn_edit.specs.Applying.{Applied}
use Rattle.svn_edit.proofs.Switching.{update_ends, not_update}
use Rattle.svn_edit.proofs.pending.Pending.close_edit.Goals as goal

pub returns-in-Update-clause-applied : goal.returns-in-Update-clause-applied
returns-in-Update-clause-applied c =
    let nodes = c.args.copy.now.entries in (
      ap (λ (m : Mode). settle_fault m nodes) c.in-Update.is ∙ update_ends nodes,
      λ p. c.settle_all.ensures p ∙ ap (λ (m : Mode). settled m c.args.self.now.target p (get_in nodes p)) (sym c.in-Update.is),
    )

pub returns-in-SwitchTo-clause-applied : goal.returns-in-SwitchTo-clause-applied
returns-in-SwitchTo-clause-applied c =
    let nodes = c.args.copy.now.entries in
    subst (λ (m : Mode). Applied (settle_fault m nodes) (λ p. settled m c.args.self.now.target p (get_in nodes p)) nodes
    c.close_switch.result c.close_switch.new.copy.entries)
    (sym c.in-SwitchTo.is) c.close_switch.ensures

pub returns-in-SwitchTo-clause-taken : goal.returns-in-SwitchTo-clause-taken
returns-in-SwitchTo-clause-taken c = λ h. absurd (not_update c.in-SwitchTo.root (sym c.in-SwitchTo.is ∙ h))
