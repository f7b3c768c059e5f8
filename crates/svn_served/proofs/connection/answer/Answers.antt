use Rattle.std.proofs.Common.{◌++◌, List, ℕ, subst}
use Rattle.std.specs.Io.KnownBytes.{Appends}
use Rattle.svn_wire.specs.Fields.{command_of}
use Rattle.svn_served.proofs.Answering.{answers_reply, answers_wants, answers_refused}
use Rattle.svn_served.proofs.connection.answer.Goals as goal

pub returns-in-Ok-Replied : goal.returns-in-Ok-Replied
returns-in-Ok-Replied g c =
    let before = g.W.Write.contents c.args.writer.now in
    let after = g.W.Write.contents c.conclude.new.writer in
    let written = c.answer_command.new.out.items in
    let told = c.in_ok-conclude-in-Ok-Replied.ensures in (
      written ++ told.0,
      answers_reply c.args.served.now c.args.session (command_of c.args.item.now) c.in-Some.name.now c.in-Some.fields.now c.in-Some.ensures
          c.in-Ok-Replied.replied _ c.new-out.result.items written told.0 c.new-out.ensures.items
          (rw c.in-Ok-Replied.field-0-is at c.in-Ok-Replied.ensures) c.after_reply.ensures told.1,
      subst (λ (l : List ℕ). Appends before after (l ++ told.0)) c.deref.ensures.value told.2,
    )

pub returns-in-Ok-Wants : goal.returns-in-Ok-Wants
returns-in-Ok-Wants g c =
    let before = g.W.Write.contents c.args.writer.now in
    let after = g.W.Write.contents c.write_out.new.writer in
    let written = c.answer_command.new.out.items in (
      written,
      answers_wants c.args.served.now c.args.session (command_of c.args.item.now) c.in-Some.name.now c.in-Some.fields.now c.in-Some.ensures
          c.in-Ok-Wants.wanted c.reporting.result c.new-out.result.items written c.new-out.ensures.items
          (rw c.in-Ok-Wants.field-0-is at c.in-Ok-Wants.ensures) c.reporting.ensures,
      subst (Appends before after) c.deref-in-Ok-Wants.ensures.value c.in_ok-write_out-in-Ok-Wants.ensures,
    )

pub returns : goal.returns
returns g c =
    let before = g.W.Write.contents c.args.writer.now in
    let after = g.W.Write.contents c.write_out-in-Err.new.writer in
    let written = c.push_refused.new.out.items in (
      written,
      answers_refused c.args.served.now c.args.session (command_of c.args.item.now) c.in-Some.name.now c.in-Some.fields.now c.in-Some.ensures
          c.in-Err.refused c.new-out.result.items c.answer_command.new.out.items written c.new-out.ensures.items c.in-Err.ensures
          c.in_ok-push_refused-in-Err.ensures,
      subst (Appends before after) c.deref-in-Err.ensures.value c.in_ok-write_out-in-Err.ensures,
    )
