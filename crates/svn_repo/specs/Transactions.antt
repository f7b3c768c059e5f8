-- A transaction: a repository whose next revision is being made, change by change.
--     pending_of o      the tree that the changes so far have made, and the next line
--     IsBegun h o      nothing is changed yet
--     IsChanged o change o'      one change more is made
use Rattle.std.specs.Prelude.{◌≡◌, ℕ, ◌-◌, ◌≤◌, List, [], length, take, map, slice_get, Option, Some, None}
use Rattle.svn_types.specs.declared.kind.Kind.{Kind}
use Rattle.svn_types.specs.declared.kind.Kind.TheVariants.{File, Directory}
use Rattle.svn_repo.specs.declared.change.Change.{Change}
use Rattle.svn_repo.specs.declared.store.Node.{Node}
use Rattle.svn_repo.specs.History.{NodeRow, History}
use Rattle.svn_repo.specs.Stored.{row_of, IsStored}
use Rattle.svn_repo.specs.Trees.{Place, tree_below}
use Rattle.svn_repo.specs.Drafts.{past_in}
use Rattle.svn_repo.specs.Changes.{Pending, AllMade, latest_pending, after_change}

-- the revisions so far, and a draft of the next one: the nodes (those of the revisions first), its root, and the next line
pub record OpenRevision : Type 0 where
  pub history : History
  pub nodes : List NodeRow
  pub root : ℕ
  pub lines : ℕ

-- the tree that the changes so far have made, and the next line
abbrev pub pending_of : OpenRevision → Pending
pending_of o = record { tree = tree_below (λ n. slice_get o.nodes n) (length o.history.nodes) o.root; lines = o.lines }

-- nothing is changed yet
abbrev pub IsBegun : History → OpenRevision → Type 0
IsBegun h o = (o.history ≡ h) × (pending_of o ≡ latest_pending h)

-- one change more is made
abbrev pub IsChanged : OpenRevision → Change → OpenRevision → Type 0
IsChanged o change o' = (o'.history ≡ o.history) × (pending_of o' ≡ after_change o.history (pending_of o) change)

-- ---- what the look-ups return

-- the text of a file
abbrev pub file_text : Place → Option (List ℕ)
file_text p = text_by p.kind p.text
  where
    text_by : Kind → List ℕ → Option (List ℕ)
    text_by File text = Some text
    text_by Directory text = None

-- the text of a file, and nothing where no file is
abbrev pub text_or_empty : Option Place → List ℕ
text_or_empty None = []
text_or_empty (Some p) = p.text

-- ---- what is stored

abbrev pub open_in : ℕ → List ℕ → List Node → ℕ → ℕ → ℕ → OpenRevision
open_in base roots nodes lines root next = record {
  history = past_in base roots nodes lines;
  nodes = map row_of nodes;
  root = root;
  lines = next;
}

-- the nodes before the base are a repository's, and the others are those of a draft on which some changes were made
pub record IsOpen (base : ℕ) (roots : List ℕ) (nodes : List Node) (lines root next : ℕ) (heights : List ℕ) : Type 0 where
  pub inside : base ≤ length nodes
  pub stored : IsStored roots (take base nodes) lines heights
  -- the root of the last revision
  pub from : ℕ
  pub last : slice_get roots (length roots - 1) ≡ Some from
  pub changes : List Change
  pub made : AllMade roots (take base nodes) nodes from lines root next changes
