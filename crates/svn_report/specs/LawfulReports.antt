-- What holds of every report that a reporter holds.
--     IsReport r      the root is set first, each path has one entry, none before one above it, nothing below a delete, no link too deep
use Rattle.std.specs.Prelude.{◌≡◌, ℕ, ◌+◌, ◌<◌, ◌≤◌, Bool, true, [], ◌∷◌, length, slice_get, Some, None}
use Rattle.svn_types.specs.Limits.{path_limit}
use Rattle.svn_types.specs.Names.{Path}
use Rattle.svn_types.specs.Paths.{is_below, is_root}
use Rattle.svn_report.specs.declared.entry.ReportEntry.{ReportEntry}
use Rattle.svn_report.specs.declared.entry.ReportEntry.TheVariants.{LinkPath}
use Rattle.svn_report.specs.Reports.{Entries, ReportView, entry_at, is_set, is_deleted_at}

abbrev pub IsRootFirst : Entries → Type 0
IsRootFirst [] = Unit {0}
IsRootFirst (e ∷ es) = (is_root e.0 ≡ true) × (is_set e.1 ≡ true)

pub record AreLawfulEntries (es : Entries) : Type 0 where
  pub root_first : IsRootFirst es
  pub each_once : (i : ℕ) (e : Path × ReportEntry) → slice_get es i ≡ Some e → entry_at es e.0 ≡ Some e.1
  pub parents_first : (i j : ℕ) (e f : Path × ReportEntry) → slice_get es i ≡ Some e → slice_get es j ≡ Some f → is_below e.0 f.0 ≡ true
      → i < j
  pub nothing_below : (p q : Path) → is_deleted_at (entry_at es p) ≡ true → is_below p q ≡ true → entry_at es q ≡ None
  pub links_short : (p q : Path) (rev : ℕ) (start_empty : Bool) → entry_at es p ≡ Some (LinkPath q rev start_empty)
      → length p ≤ length q + path_limit

abbrev pub IsReport : ReportView → Type 0
IsReport r = AreLawfulEntries r.entries
