use Rattle.std.proofs.Common.{◌≡◌, ◌++◌, List, length, drop}
use Rattle.svn_editor.specs.declared.call.Call.{Call}
use Rattle.svn_editor.specs.Editing.{Leads}
use Rattle.svn_model.specs.Ends.{Makes}
use Rattle.svn_drive.specs.Waiting.{waiting}
use Rattle.svn_drive.proofs.walk.Walk.give_late.Given as goal
use Rattle.svn_drive.specs.Walking.{limit_of}

-- what was called so far, and what is left, are together the calls of all files
abbrev pub invariant-loop-file : goal.invariant-loop-file
invariant-loop-file g l =
    (done : List Call)
    × Leads g.E.Editor.answers done l.initial.editor l.editor
    × Makes (limit_of l.self) l.initial.progress.made (length done) l.progress.made
    × (done ++ waiting l.self.repo.now (drop l.file-index l.later) ≡ waiting l.self.repo.now l.later)
