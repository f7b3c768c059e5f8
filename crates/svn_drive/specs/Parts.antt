-- Parts of a report: those of its entries whose paths pass a test, in the order of their paths.
--     entries_in part      the entries of a part
--     IsPart es test part      the part has the entries whose paths pass, in path order
--     own_entry p part, without_own p part      the entry of the first of a part where it is p's own, and the others
--     AreDeeper n part      each path has more names than n
--     by_name n part      the part, cut where the n-th name changes, with these names
--     none_or part      the part, if it has an entry
use Rattle.std.specs.Prelude.{◌≡◌, ℕ, ◌<◌, Bool, List, [], ◌∷◌, length, map, bytes_eq, slice_index_or, Option, Some, None, unwrap_or}
use Rattle.std.specs.Prelude.{if◌then◌else◌, IsPermutation}
use Rattle.std.specs.List.{AllByRecursion, filter}
use Rattle.std.specs.List.Sorted.{IsStrictlySortedBy}
use Rattle.std.specs.Map.{keys_of}
use Rattle.std.specs.Map.Iter.{deref_pair}
use Rattle.svn_types.specs.Names.{Path, path_cmp}
use Rattle.svn_types.specs.Paths.{path_eq}
use Rattle.svn_types.specs.Pairs.{value_of}
use Rattle.svn_report.specs.declared.entry.ReportEntry.{ReportEntry}
use Rattle.svn_report.specs.Reports.{Entries}
use Rattle.svn_drive.specs.declared.report_part.ReportPart.{ReportPart}

abbrev pub entries_in : ReportPart → Entries
entries_in part = map deref_pair part.entries.now

pub record IsPart (es : Entries) (test : Path → Bool) (part : Entries) : Type 0 where
  -- all entries in path order
  pub sorted : Entries
  pub same : IsPermutation es sorted
  pub ordered : IsStrictlySortedBy path_cmp (keys_of sorted)
  pub is : part ≡ filter (λ e. test e.0) sorted

-- ---- the entry of a path, and those below it

abbrev pub own_entry : Path → Entries → Option ReportEntry
own_entry p [] = None
own_entry p (e ∷ es) = if path_eq e.0 p then Some e.1 else None

abbrev pub without_own : Path → Entries → Entries
without_own p [] = []
without_own p (e ∷ es) = if path_eq e.0 p then es else e ∷ es

-- ---- name by name

abbrev pub AreDeeper : ℕ → Entries → Type 0
AreDeeper n part = AllByRecursion (λ e. n < length e.0) part

abbrev pub name_at : ℕ → Path → List ℕ
name_at n p = slice_index_or p n []

abbrev pub Named : Type 0
Named = List (List ℕ × Entries)

-- one more entry in front, with those of the first name if it has that one
abbrev pub with_entry : List ℕ → Path × ReportEntry → Named → Named
with_entry name e [] = (name, e ∷ []) ∷ []
with_entry name e (g ∷ gs) = if bytes_eq g.0 name then (g.0, e ∷ g.1) ∷ gs else (name, e ∷ []) ∷ g ∷ gs

abbrev pub by_name : ℕ → Entries → Named
by_name n [] = []
by_name n (e ∷ es) = with_entry (name_at n e.0) e (by_name n es)

abbrev pub none_or : Entries → Option Entries
none_or [] = None
none_or (e ∷ es) = Some (e ∷ es)

-- the entries under a name
abbrev pub entries_under : Named → List ℕ → Entries
entries_under gs name = unwrap_or (value_of gs name) []
