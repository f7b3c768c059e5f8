use Rattle.std.proofs.Common.{◌≡◌, false, take}
use Rattle.std.specs.List.{list_any}
use Rattle.svn_types.specs.Names.{Path}
use Rattle.svn_report.specs.declared.entry.ReportEntry.{ReportEntry}
use Rattle.svn_wc.specs.Crawling.{is_link}
use Rattle.svn_wc.proofs.known.has_link.Given as goal

abbrev pub invariant-loop-i : goal.invariant-loop-i
invariant-loop-i l = list_any (λ (e : Path × ReportEntry). is_link e.1) (take l.i l.report.entries) ≡ false
