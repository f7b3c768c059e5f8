use Rattle.std.proofs.Common.{◌≡◌, [], codes, bytes_eq, false, rules}
use Rattle.std.proofs.KnownBytes.{Appends-nil}
use Rattle.svn_wire.specs.Fields.{command_of}
use Rattle.svn_served.proofs.ReportRuns.{goes_on}
use Rattle.svn_served.proofs.reports.take_report.Goals as goal

pub returns : goal.returns
returns g c =
    let inner : bytes_eq c.in-Some.name.now (codes "finish-report") ≡ false = search rules in
    let stays : bytes_eq c.in-Some.name.now (codes "abort-report") ≡ false = search rules in (
      [],
      goes_on c.args.served.now c.args.session c.args.reporting (command_of c.args.item.now) c.in-Some.name.now c.in-Some.fields.now c.in-Some.ensures inner
          stays c.taken-reporting.result c.taken-reporting.ensures,
      Appends-nil (g.W.Write.contents c.args.writer.now),
    )
