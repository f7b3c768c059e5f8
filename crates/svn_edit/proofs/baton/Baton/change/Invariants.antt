use Rattle.std.proofs.Common.{List, drop}
use Rattle.svn_editor.specs.Steps.{Action}
use Rattle.svn_edit.specs.Applying.{Says, StillSaid}
use Rattle.svn_edit.proofs.baton.Baton.change.Given as goal

abbrev pub invariant-loop-note : goal.invariant-loop-note
invariant-loop-note l = (said : List Action) → Says l.self l.pools said → StillSaid l.initial.props l.props said
    (drop l.note-index l.note-items) l.strings
