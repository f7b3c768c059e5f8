use Rattle.std.proofs.Common.{◌≡◌, ◌++◌, [], List, length}
use Rattle.std.specs.Prelude.{map}
use Rattle.svn_editor.specs.declared.call.Call.{Call}
use Rattle.svn_editor.specs.Editing.{Leads}
use Rattle.svn_model.specs.Ends.{Makes}
use Rattle.svn_editor.specs.Steps.{Change}
use Rattle.svn_model.specs.TreeCalls.{calls_at}
use Rattle.svn_drive.proofs.walk.Walk.change_props.Given as goal
use Rattle.svn_drive.specs.Walking.{limit_of}

-- what was called so far, and what is left, are together all changes
abbrev pub invariant-loop-change : goal.invariant-loop-change
invariant-loop-change g l =
    (done : List Call)
    × Leads g.E.Editor.answers done l.initial.editor l.editor
    × Makes (limit_of l.self) l.initial.progress.made (length done) l.progress.made
    × (done ++ calls_at [] 0 l.opened.token (map (Change l.opened.kind) l.change-iterator.rest.items)
    ≡ calls_at [] 0 l.opened.token (map (Change l.opened.kind) l.initial.change-iterator.rest.items))
    × (l.progress.next ≡ l.initial.progress.next)
