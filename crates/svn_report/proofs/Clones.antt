-- Clones of entries and of an index.
use Rattle.std.proofs.Common.{rules, ◌≡◌}
use Rattle.std.specs.Prelude.{Option, Some, None}
use Rattle.std.specs.BTreeSet.{BTreeSet, contains}
use Rattle.svn_types.specs.Names.{Path, path_cmp}
use Rattle.svn_report.specs.declared.entry.ReportEntry.{ReportEntry}
use Rattle.svn_report.specs.contracts.entry.ReportEntryClone.TheImpl as entry
use Rattle.svn_report.specs.Reports.{Entries}
use Rattle.svn_report.specs.ReportOrder.{IsIndexed}
use Rattle.svn_report.proofs.Listings.{kept_same}

-- a clone of an entry is that entry
pub entry_clone : (e f : ReportEntry) → (entry.ghosts).is_clone e f → f ≡ e
entry_clone e f h = search rules

-- neither is there, or both are and have the same paths
abbrev AreAlike : Option (BTreeSet Path) → Option (BTreeSet Path) → Type 0
AreAlike None None = Unit {0}
AreAlike (Some paths) (Some copy) = (q : Path) → contains path_cmp copy q ≡ contains path_cmp paths q
AreAlike _ _ = ⊥

-- a clone of the index has the paths of the same entries
pub index_clone : (index copy : Option (BTreeSet Path)) (es : Entries) → AreAlike index copy → IsIndexed index es → IsIndexed copy es
index_clone None None es alike kept = kept
index_clone (Some paths) (Some copy) es alike kept = kept_same paths copy es kept alike
index_clone None (Some copy) es alike kept = absurd alike
index_clone (Some paths) None es alike kept = absurd alike
