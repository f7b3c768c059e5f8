use Rattle.std.proofs.lemmas.Result.{on_ok_weaker}
use Rattle.svn_answers.proofs.Hearing.{line_known}
use Rattle.svn_answers.proofs.notice_lines.write_line.Goals as goal

pub returns : goal.returns
returns g c =
    on_ok_weaker c.writeln.result
    (line_known c.args.name.0.now (g.D.Display.output c.args.fault.now) (g.W.Write.contents c.args.output.now) (g.W.Write.contents c.writeln.new.self))
    c.writeln.ensures.bytes
