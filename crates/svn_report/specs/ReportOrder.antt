-- How a report finds what is above, below or after a path: next to it, among its entries where these are in path order, and else in an
-- index that has the paths in two orders.
use Rattle.std.specs.Prelude.{◌≡◌, ℕ, ◌<◌, List, Bool, true, false, ◌&&◌, not, Option, Some, None, is_some, slice_get, MatchOption}
use Rattle.std.specs.declared.cmp.Ordering.{Ordering}
use Rattle.std.specs.declared.cmp.Ordering.TheVariants.{Less}
use Rattle.std.specs.Ordering.{flip_args, is_lt}
use Rattle.std.specs.Cmp.{IsTotalOrder, back_total}
use Rattle.std.specs.Cmp.Lexicographic.{slice_cmp, lists_total, nat_list_cmp_total}
use Rattle.std.specs.BTreeSet.{BTreeSet, contains}
use Rattle.svn_types.specs.Names.{Path, name_cmp, path_cmp}
use Rattle.svn_types.specs.Paths.{is_within, child}
use Rattle.svn_report.specs.declared.entry.ReportEntry.{ReportEntry}
use Rattle.svn_report.specs.Reports.{Entries, entry_at}
use Rattle.svn_report.specs.LawfulReports.{AreLawfulEntries}

-- each path comes before those of the entries after it
abbrev pub InPathOrder : Entries → Type 0
InPathOrder es = (i j : ℕ) (e f : Path × ReportEntry) → i < j → slice_get es i ≡ Some e → slice_get es j ≡ Some f → path_cmp e.0 f.0 ≡ Less

-- the path comes after those of all entries
abbrev pub ComesLast : Entries → Path → Type 0
ComesLast es p = (j : ℕ) (e : Path × ReportEntry) → slice_get es j ≡ Some e → path_cmp e.0 p ≡ Less

-- The set has the paths of the entries, which are those of a report.
pub record IsKept (paths : BTreeSet Path) (es : Entries) : Type 0 where
  pub has : (q : Path) → contains path_cmp paths q ≡ is_some (entry_at es q)
  pub lawful : AreLawfulEntries es

-- where there is no index, the entries are in path order
abbrev pub IsIndexed : Option (BTreeSet Path) → Entries → Type 0
IsIndexed None es = InPathOrder es × AreLawfulEntries es
IsIndexed (Some paths) es = IsKept paths es

-- the order in which directories end: name by name, and a path directly after what is below it
abbrev pub end_cmp : Path → Path → Ordering
end_cmp = flip_args (slice_cmp (flip_args name_cmp))

-- both sets have the same paths, one in path order and one in the order of the ends
abbrev pub HasSamePaths : BTreeSet Path → BTreeSet Path → Type 0
HasSamePaths paths ends = (q : Path) → contains end_cmp ends q ≡ contains path_cmp paths q

pub end_total : IsTotalOrder end_cmp
end_total = back_total (lists_total (back_total nat_list_cmp_total))

-- the first path of a set that comes after p by an order
abbrev pub IsNextBy : (Path → Path → Ordering) → (Path → Bool) → Path → Option Path → Type 0
IsNextBy order has p found =
    MatchOption found ((q : Path) → order p q ≡ Less → has q ≡ false)
    (λ n. (order p n ≡ Less) × (has n ≡ true) × ((q : Path) → order p q ≡ Less → has q ≡ true → order q n ≡ Less → ⊥))

abbrev pub IsNext : BTreeSet Path → Path → Option Path → Type 0
IsNext paths = IsNextBy path_cmp (contains path_cmp paths)

-- the last path of a set that comes before p
abbrev pub IsPreviousOf : (Path → Bool) → Path → Option Path → Type 0
IsPreviousOf has p found =
    MatchOption found ((q : Path) → path_cmp q p ≡ Less → has q ≡ false)
    (λ n. (path_cmp n p ≡ Less) × (has n ≡ true) × ((q : Path) → path_cmp q p ≡ Less → has q ≡ true → path_cmp n q ≡ Less → ⊥))

abbrev pub IsPrevious : BTreeSet Path → Path → Option Path → Type 0
IsPrevious paths = IsPreviousOf (contains path_cmp paths)

-- ---- the same of the paths that have entries

abbrev pub has_entry : Entries → Path → Bool
has_entry es q = is_some (entry_at es q)

abbrev pub IsNextEntry : Entries → Path → Option Path → Type 0
IsNextEntry es = IsNextBy path_cmp (has_entry es)

abbrev pub IsPreviousEntry : Entries → Path → Option Path → Type 0
IsPreviousEntry es = IsPreviousOf (has_entry es)

-- a path comes after the name n below p, and after everything below that name
abbrev pub is_after_name : Path → List ℕ → Path → Bool
is_after_name p n q = is_lt (path_cmp (child p n) q) && not (is_within (child p n) q)

abbrev pub is_ahead_of_name : Path → List ℕ → Path → Bool
is_ahead_of_name p n q = not (is_after_name p n q)

-- the first path with an entry after such a name
abbrev pub IsFirstAfter : Entries → Path → List ℕ → Option Path → Type 0
IsFirstAfter es p n found =
    MatchOption found ((q : Path) → is_after_name p n q ≡ true → has_entry es q ≡ false)
    (λ x. (is_after_name p n x ≡ true) × (has_entry es x ≡ true)
    × ((q : Path) → is_after_name p n q ≡ true → has_entry es q ≡ true → path_cmp q x ≡ Less → ⊥))
