use Rattle.std.proofs.Common.{ℕ, List, [], append-nil, refl, sym}
use Rattle.svn_editor.specs.declared.call.Call.TheVariants.{ApplyText}
use Rattle.svn_wire_calls.specs.Calls.{text_commands}
use Rattle.svn_wire_calls.proofs.editor.WireEditor.call_text.Goals as goal

pub returns-in-Ok-send : goal.returns-in-Ok-send
returns-in-Ok-send g c =
    let sent = c.in-Ok-send.ensures.written in
    let bytes : List ℕ = text_commands c.args.token c.in-Ok.base sent.0 in (
      c.in-Ok-send.ensures.same_writer,
      c.in-Ok-send.ensures.teller,
      (
        bytes,
        (
          ApplyText c.args.token c.in-Ok.base sent.0,
          (c.in-Ok.base, sent.0, c.in-Ok.ensures, sent.1, refl),
          ([], refl, sym (append-nil bytes)),
        ),
        sent.2,
      ),
    )
