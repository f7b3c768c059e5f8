use Rattle.std.proofs.Common.{sym, ◌∙◌, subst, true≢false}
use Rattle.svn_editor.specs.declared.call.Call.{Call}
use Rattle.svn_edit.specs.declared.edit.Stage.TheVariants.{Ended}
use Rattle.svn_edit.specs.Leaving.{LeavesPools}
use Rattle.svn_edit.proofs.PoolStrings.{one_left}
use Rattle.svn_edit.proofs.edit.Edit.give_up.Goals as goal
use Rattle.svn_edit.proofs.edit.Edit.give_up.Goals.{in-AbortEdit, in_default}

pub returns-then-matches-clause-left : goal.returns-then-matches-clause-left
returns-then-matches-clause-left c = λ calls d left. elim c.match-matches.branch [
  | in-AbortEdit w ↦
      subst (λ (x : Call). LeavesPools x c.args.self.now (record c.args.self.now { pending = c.drop_batons.new.self; stage = Ended })) (sym w.in-AbortEdit.is)
      (one_left c.args.self.now.pending.pools c.drop_batons.new.self.pools _ left.1.root left.1.beneath c.drop_batons.ensures.cleared)
  | in_default w ↦ absurd (true≢false (sym c.if-matches.true ∙ w.matches-is))
]
