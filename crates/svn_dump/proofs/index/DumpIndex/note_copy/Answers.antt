use Rattle.std.proofs.Common.{◌≡◌, Option, true, subst}
use Rattle.std.specs.Prelude.{IfSome}
use Rattle.svn_dump.specs.declared.copy_note.CopyNote.{CopyNote}
use Rattle.svn_dump.specs.Indexes.{is_copy, IsCopyOf, copy}
use Rattle.svn_dump.proofs.index.DumpIndex.note_copy.Goals as goal

pub returns-in_ok-push-in-Some-clause-copies : goal.returns-in_ok-push-in-Some-clause-copies
returns-in_ok-push-in-Some-clause-copies c =
    let rev = c.args.self.now.rev in
    let node = c.args.node.now in
    let is =
    subst (λ (found : Option CopyNote). IfSome found (λ note. (is_copy rev node.action node.source ≡ true) × IsCopyOf rev node note))
    c.in-Some.is c.in_ok-note.ensures.copy in
    copy c.in-Some.note is.0 is.1 c.in_ok-push-in-Some.ensures.items
