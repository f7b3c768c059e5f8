-- Whether two reports are the same: their root, and their entries in the order of the calls.
--     same_entry e f, same_report r s      what `==` says of entries at paths, and of reports
use Rattle.std.specs.Prelude.{Bool, ◌&&◌}
use Rattle.std.specs.Cmp.{IsEquivalence, and_equiv, on_equiv}
use Rattle.std.specs.Cmp.Lexicographic.{pointwise, nat_list_eq_equiv, lists_equiv}
use Rattle.svn_types.specs.Names.{Path}
use Rattle.svn_types.specs.Paths.{path_eq}
use Rattle.svn_report.specs.declared.entry.ReportEntry.{ReportEntry}
use Rattle.svn_report.specs.contracts.entry.ReportEntryPartialEq.TheImpl as entry
use Rattle.svn_report.specs.contracts.entry.ReportEntryEq.TheImpl.Laws.{laws-law}
use Rattle.svn_report.specs.Reports.{ReportView}

abbrev pub same_entry : Path × ReportEntry → Path × ReportEntry → Bool
same_entry e f = path_eq e.0 f.0 && (entry.ghosts).eq e.1 f.1

abbrev pub same_report : ReportView → ReportView → Bool
same_report r s = path_eq r.root s.root && pointwise same_entry r.entries s.entries

pub same_entry_equiv : IsEquivalence same_entry
same_entry_equiv = and_equiv (on_equiv (λ e. e.0) (lists_equiv nat_list_eq_equiv)) (on_equiv (λ e. e.1) laws-law)

pub same_report_equiv : IsEquivalence same_report
same_report_equiv =
    and_equiv (on_equiv (λ r. r.root) (lists_equiv nat_list_eq_equiv)) (on_equiv (λ r. r.entries) (lists_equiv same_entry_equiv))
