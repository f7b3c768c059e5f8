use Rattle.std.proofs.Common.{[], ◌∷◌, ◌++◌, subst, sym}
use Rattle.svn_model.specs.Nodes.{get_in}
use Rattle.svn_audit.specs.NotedLines.{KnowsEdits}
use Rattle.svn_audit.proofs.Noting.{edits-more}
use Rattle.svn_audit.proofs.lines.Noted.note.Goals as goal

pub returns-clause-edits : goal.returns-clause-edits
returns-clause-edits c = λ calls was edits.
    subst (KnowsEdits (calls ++ c.args.call.now ∷ [])) (sym c.edited_after-edited.ensures)
    (edits-more (get_in c.args.copy.now) calls c.args.call.now c.args.self.now was edits)
