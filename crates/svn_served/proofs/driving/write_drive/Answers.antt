use Rattle.svn_served.specs.Drives.{wanted_drive}
use Rattle.svn_served.proofs.Drives.{ends_drive}
use Rattle.svn_served.proofs.driving.write_drive.Goals as goal

pub returns : goal.returns
returns g c =
    ends_drive (wanted_drive c.args.served.now c.args.wanted.now c.args.report.now) c.in_ok-end.end c.in_ok-driven.driven
    (g.W.Write.contents c.args.writer.now) (g.W.Write.contents c.make_calls.new.writer) (g.W.Write.contents c.tell_end.new.writer) c.in_ok-end.ensures
    c.in_ok-driven.ensures
