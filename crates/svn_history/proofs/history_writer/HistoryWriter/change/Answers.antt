use Rattle.std.proofs.Common.{◌++◌, ◌∷◌, [], List, subst, sym}
use Rattle.svn_repo.specs.declared.change.Change.{Change}
use Rattle.svn_history.specs.Steps.{draft_of}
use Rattle.svn_history.specs.Writing.{AreWritten, HasMade}
use Rattle.svn_history.proofs.Writings.{made_more}
use Rattle.svn_history.proofs.history_writer.HistoryWriter.change.Goals as goal
use Rattle.svn_history.proofs.history_writer.HistoryWriter.change.Goals.{In-Ok}

-- one change more, after any
more : (c : In-Ok) (changes : List Change)
    → AreWritten c.self.inside.transaction.history changes (draft_of c.self.inside.transaction) c.self.inside.records.items
    → AreWritten c.push_change.new.transaction.history (changes ++ c.args.change.now ∷ []) (draft_of c.push_change.new.transaction)
    c.push_change.new.out.items
more c changes before =
    made_more changes c.args.change.now c.self.inside.transaction c.push_change.new.transaction c.self.inside.records.items
    c.push_change.new.out.items before c.in-Ok.ensures.history c.in-Ok.ensures.made c.in-Ok.ensures.written c.in-Ok.ensures.lawful

pub invariant_of-self : goal.invariant_of-self
invariant_of-self c =
    let before = c.self.invariant in (before.0 ++ c.args.change.now ∷ [], more (goal.at.invariant_of-self c).In-Ok before.0 before.1)

pub returns-in-Ok-clause-made : goal.returns-in-Ok-clause-made
returns-in-Ok-clause-made c changes before =
    more (goal.at.returns-in-Ok-clause-made c).In-Ok changes (subst (HasMade changes) (sym c.self.view_is) before)
