-- Laws of copies: what a copy reports, how its truth is tested, and what keeps it true and in shape.
use Rattle.std.specs.Prelude.{◌≡◌, ℕ, List, [], ◌∷◌, ◌++◌, None}
use Rattle.svn_types.specs.Names.{Path}
use Rattle.svn_repo.specs.History.{History}
use Rattle.svn_repo.specs.Readings.{IsHistory}
use Rattle.svn_repo.specs.declared.change.Change.{Change}
use Rattle.svn_repo.specs.Changes.{IsCommit}
use Rattle.svn_repo.specs.Laws.{NodesExist}
use Rattle.svn_report.specs.declared.entry.ReportEntry.{ReportEntry}
use Rattle.svn_report.specs.Reports.{Entries, reporter_fault}
use Rattle.svn_report.specs.LawfulReports.{IsReport}
use Rattle.svn_model.specs.declared.base_node.BaseNode.{BaseNode}
use Rattle.svn_model.specs.Nodes.{WorkingCopy, get_in, InPathOrder, IsWorkingCopy, IsTrueOf}
use Rattle.svn_model.specs.Crawl.{crawl}
use Rattle.svn_model.specs.Truth.{first_untrue}
use Rattle.svn_model.specs.Builders.{checkout, placed, forgotten}
use Rattle.svn_model.specs.Effects.{joined_path}
use Rattle.svn_model.specs.Refusals.{checkout_fault, place_fault, switch_fault, forget_fault, nodes_fault}
use Rattle.law_copy.specs.Laws.{EndsNamed}

-- ---- what a copy reports

-- a reporter refuses none of the entries, each made after those before it
abbrev pub NoneRefused : Entries → Type 0
NoneRefused entries = (xs ys : Entries) (p : Path) (e : ReportEntry) → entries ≡ xs ++ (p, e) ∷ ys → reporter_fault xs p e ≡ None

-- the crawl of whatever has the shape of a copy is a report, and a reporter takes it entry by entry
abbrev pub a_crawl_is_a_report : Type 0
a_crawl_is_a_report =
    (nodes : List (Path × BaseNode)) → InPathOrder nodes → IsWorkingCopy (get_in nodes)
    → IsReport (crawl nodes) × NoneRefused (crawl nodes).entries

-- ---- truth

-- no path of the list is untrue exactly where the copy is true
abbrev pub truth_is_tested : Type 0
truth_is_tested =
    (h : History) (nodes : List (Path × BaseNode)) → InPathOrder nodes
    → (first_untrue h nodes ≡ None → IsTrueOf h (get_in nodes)) × (IsTrueOf h (get_in nodes) → first_untrue h nodes ≡ None)

-- a commit changes nothing of what a copy came from
abbrev pub commits_keep_copies_true : Type 0
commits_keep_copies_true =
    (h h' : History) (changes : List Change) (w : WorkingCopy) → NodesExist h → IsCommit h h' changes → IsTrueOf h w → IsTrueOf h' w

-- ---- what is made or changed without a drive

abbrev pub a_checkout_is_a_true_copy : Type 0
a_checkout_is_a_true_copy =
    (h : History) (q : Path) (r : ℕ) → IsHistory h → checkout_fault h q r ≡ None
    → IsWorkingCopy (checkout h q r) × IsTrueOf h (checkout h q r)

-- the second copy has the shape, and is true of the history if the first is
pub record KeepsCopy (h : History) (w w' : WorkingCopy) : Type 0 where
  pub shape : IsWorkingCopy w'
  pub true_of : IsTrueOf h w → IsTrueOf h w'

abbrev pub placing_keeps_a_copy : Type 0
placing_keeps_a_copy =
    (h : History) (w : WorkingCopy) (at : Path) (r : ℕ) → IsHistory h → IsWorkingCopy w → EndsNamed at → place_fault h w at r ≡ None
    → KeepsCopy h w (placed h w at (joined_path w at) r)

abbrev pub switching_keeps_a_copy : Type 0
switching_keeps_a_copy =
    (h : History) (w : WorkingCopy) (at q : Path) (r : ℕ) → IsHistory h → IsWorkingCopy w → EndsNamed at → switch_fault h w at q r ≡ None
    → KeepsCopy h w (placed h w at q r)

-- of every history
abbrev pub forgetting_keeps_a_copy : Type 0
forgetting_keeps_a_copy =
    (h : History) (w : WorkingCopy) (at : Path) → IsWorkingCopy w → forget_fault w at ≡ None → KeepsCopy h w (forgotten w at)

-- the last name of each path is an allowed one
abbrev pub AllEndNamed : List (Path × BaseNode) → Type 0
AllEndNamed [] = Unit {0}
AllEndNamed (e ∷ es) = EndsNamed e.0 × AllEndNamed es

abbrev pub nodes_make_a_copy : Type 0
nodes_make_a_copy = (nodes : List (Path × BaseNode)) → AllEndNamed nodes → nodes_fault nodes ≡ None → IsWorkingCopy (get_in nodes)
