use Rattle.std.proofs.Common.{◌≡◌, Some, ap, sym, ◌∙◌}
use Rattle.svn_lists.proofs.Results.{OnOk_then}
use Rattle.svn_script.specs.Commands.{command_of}
use Rattle.svn_script.specs.Reading.{without_return}
use Rattle.svn_answers.proofs.Writings.{line_done}
use Rattle.svn_answers.proofs.written.Writing.do_line.Goals as goal

pub returns-in-Ok-clause-done : goal.returns-in-Ok-clause-done
returns-in-Ok-clause-done g c =
    let line = c.args.line.now in
    let is : command_of (without_return line) ≡ Some c.in-Ok.command =
    ap command_of (sym c.without_return.ensures) ∙ c.in-Ok.ensures in
    OnOk_then c.do_command.result c.do_command.ensures.done
    (λ does lines text done.
    let new = does done.0 done.2 in (
      new.1,
      line_done lines text line new.1 c.args.self.now c.do_command.new.self done new.0 (c.in-Ok.command, is, new.3) new.2 new.5,
      new.4,
    ))
