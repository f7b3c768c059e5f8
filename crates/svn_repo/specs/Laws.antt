-- What commits mean, in the field's words: laws of the definitions.
--     AreCommits h changes h'      commits one after another, with all these changes, lead from h to h'
--     RevisionsStay      old revisions have the nodes that they had, and the nodes stay what they are
--     CopiesKeepNodes      a copy and its source are one node revision
--     ChangesKeepLines      what no change removes stays, and keeps its line
--     UntouchedPathsKeepNodes      where nothing at, above or below a path was changed, one node revision is there
use Rattle.std.specs.Prelude.{◌≡◌, ℕ, ◌-◌, ◌<◌, Bool, true, false, ◌||◌, List, [], ◌∷◌, ◌++◌, length, Some, IsSome}
use Rattle.std.specs.List.{list_any}
use Rattle.svn_repo.specs.declared.change.Change.{Change}
use Rattle.svn_repo.specs.declared.change.Change.TheVariants.{MakeDir, PutFile, SetProp, Remove, CopyFrom}
use Rattle.svn_types.specs.Names.{Path}
use Rattle.svn_repo.specs.History.{History, node_at, look}
use Rattle.svn_repo.specs.Readings.{IsHistory, are_related}
use Rattle.svn_repo.specs.Trees.{is_within}
use Rattle.svn_repo.specs.Changes.{IsCommit}

-- commits one after another, and all their changes
pub data AreCommits : History → List Change → History → Type 0 where
  no_commit : {h : History} → AreCommits h [] h
  one_more : {h h' : History} (mid : History) (changes rest : List Change) → IsCommit h mid changes → AreCommits mid rest h'
      → AreCommits h (changes ++ rest) h'

abbrev pub latest_of : History → ℕ
latest_of h = length h.roots - 1

-- what is at any path is a node
abbrev pub NodesExist : History → Type 0
NodesExist h = (r : ℕ) (p : Path) (n : ℕ) → look h r p ≡ Some n → IsSome (node_at h n)

abbrev pub RevisionsStay : Type 0
RevisionsStay = (h h' : History) (changes : List Change) → AreCommits h changes h'
    → ((r : ℕ) (p : Path) → r < length h.roots → look h' r p ≡ look h r p) × ((n : ℕ) → n < length h.nodes → node_at h' n ≡ node_at h n)

-- the change makes, changes or removes the node at p, a node below it, or all from a node above it on
abbrev pub touches : Path → Change → Bool
touches p (MakeDir path) = is_within p path || is_within path p
touches p (PutFile path text) = is_within p path || is_within path p
touches p (SetProp path name value) = is_within p path
touches p (Remove path) = is_within p path || is_within path p
touches p (CopyFrom rev source path) = is_within p path || is_within path p

-- at the path of a copy and at each path below, unless a later change of the same commit touches it
abbrev pub CopiesKeepNodes : Type 0
CopiesKeepNodes = (h h' : History) (before after : List Change) (rev : ℕ) (source path q : Path) → NodesExist h
    → IsCommit h h' (before ++ CopyFrom rev source path ∷ after) → list_any (touches (path ++ q)) after ≡ false
    → look h' (latest_of h') (path ++ q) ≡ look h rev (source ++ q)

-- the change removes the node at q, or one above it
abbrev pub removes : Path → Change → Bool
removes q (MakeDir path) = false
removes q (PutFile path text) = false
removes q (SetProp path name value) = false
removes q (Remove path) = is_within path q
removes q (CopyFrom rev source path) = false

abbrev pub ChangesKeepLines : Type 0
ChangesKeepLines = (h h' : History) (changes : List Change) (q : Path) (m : ℕ) → IsHistory h → NodesExist h → AreCommits h changes h'
    → list_any (removes q) changes ≡ false → look h (latest_of h) q ≡ Some m → are_related h' (Some m) (look h' (latest_of h') q) ≡ true

abbrev pub UntouchedPathsKeepNodes : Type 0
UntouchedPathsKeepNodes = (h h' : History) (changes : List Change) (p : Path) → NodesExist h → AreCommits h changes h'
    → list_any (touches p) changes ≡ false → look h' (latest_of h') p ≡ look h (latest_of h) p
