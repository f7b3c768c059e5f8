use Rattle.std.proofs.Common.{sym, ◌∙◌}
use Rattle.svn_folder.specs.Syncing.{AreWithin}
use Rattle.svn_folder.specs.Marking.{marks_of}
use Rattle.svn_folder.proofs.Unsyncing.{within_chain, renamed_synced, renamed_onto_itself, renamed}
use Rattle.svn_folder.proofs.unsynced.Unsynced.begin_rename.Goals as goal

pub returns-then-not-is_unsynced-clause-enough : goal.returns-then-not-is_unsynced-clause-enough
returns-then-not-is_unsynced-clause-enough c =
    let old = marks_of c.args.self.now in
    let one = marks_of c.mark_name.new.self in
    let two = marks_of c.mark_name-2.new.self in
    let more : AreWithin one two = c.in_ok-mark_name-2.ensures.more in
    renamed_synced old two (within_chain old one two c.in_ok-mark_name.ensures.more more) c.args.from.now c.args.to.now
    ((more _).1 c.in_ok-mark_name.ensures.marked) c.in_ok-mark_name-2.ensures.marked _ c.in_ok-clone.ensures.cases
    (sym c.has_bytes-is_unsynced.ensures ∙ c.if-not-is_unsynced.true)

pub returns-then-eq-clause-enough : goal.returns-then-eq-clause-enough
returns-then-eq-clause-enough c =
    let old = marks_of c.args.self.now in
    let one = marks_of c.mark_name.new.self in
    let two = marks_of c.mark_name-2.new.self in
    let three = marks_of c.mark_bytes.new.self in
    let more : AreWithin one two = c.in_ok-mark_name-2.ensures.more in
    let rest : AreWithin two three = c.in_ok-mark_bytes.ensures.more in
    renamed_onto_itself old three (within_chain old one three c.in_ok-mark_name.ensures.more (within_chain one two three more rest)) c.args.from.now
    c.args.to.now ((rest _).1 ((more _).1 c.in_ok-mark_name.ensures.marked)) ((rest _).1 c.in_ok-mark_name-2.ensures.marked)
    c.in_ok-mark_bytes.ensures.marked

pub returns-clause-enough : goal.returns-clause-enough
returns-clause-enough c =
    let old = marks_of c.args.self.now in
    let one = marks_of c.mark_name.new.self in
    let two = marks_of c.mark_name-2.new.self in
    let three = marks_of c.mark_bytes.new.self in
    let more : AreWithin one two = c.in_ok-mark_name-2.ensures.more in
    let rest : AreWithin two three = c.in_ok-mark_bytes.ensures.more in
    renamed old three (within_chain old one three c.in_ok-mark_name.ensures.more (within_chain one two three more rest)) c.args.from.now
    c.args.to.now ((rest _).1 ((more _).1 c.in_ok-mark_name.ensures.marked)) ((rest _).1 c.in_ok-mark_name-2.ensures.marked) _ c.in_ok-clone-2.ensures.cases
    c.in_ok-mark_bytes.ensures.marked (sym c.eq.ensures ∙ c.if-eq.false)
