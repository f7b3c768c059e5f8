-- Commits, as changes of the tree in which each path is by itself.
--     change_fault h s change      why the change can't be made, if it can't
--     after_change h s change      the tree and the next line after it
--     IsCommit h h' changes      h' is h with one more revision, made by the changes
use Rattle.std.specs.Prelude.{◌≡◌, ℕ, ◌+◌, ◌-◌, ◌≤◌, ◌<◌, Bool, true, List, [], ◌∷◌, ◌++◌, length, take, nat_lt, nat_le, Option, Some, None, codes}
use Rattle.std.specs.Prelude.{MatchOption, is_some, if◌then◌else◌, ◌⊎◌}
use Rattle.std.specs.Option.{option_and_then, option_or}
use Rattle.svn_types.specs.declared.kind.Kind.TheVariants.{File, Directory}
use Rattle.svn_repo.specs.declared.change.Change.{Change}
use Rattle.svn_repo.specs.declared.change.Change.TheVariants.{MakeDir, PutFile, SetProp, Remove, CopyFrom}
use Rattle.svn_repo.specs.declared.change.CommitFault.{CommitFault}
use Rattle.svn_repo.specs.declared.change.CommitFault.TheVariants.{Exists, Missing, NotDir, NotFile, IsRoot, TooDeep, NoSuchRevision}
use Rattle.svn_repo.specs.declared.change.CommitFault.TheVariants.{TooLong, Full, Memory}
use Rattle.svn_repo.specs.declared.store.Node.{Node}
use Rattle.svn_repo.specs.Drafts.{IsDraft, PutsChild, tree_in, past_in}
use Rattle.svn_repo.specs.Stored.{row_of, rows, entries_of, history_of, IsStored}
use Rattle.svn_types.specs.Names.{Path}
use Rattle.svn_repo.specs.History.{NodeRow, History, Nodes, node_at, child_in, look, reaches}
use Rattle.svn_types.specs.Limits.{path_limit, size_limit}
use Rattle.svn_repo.specs.Trees.{Place, Tree, place_of, place_at, tree_at, graft, leaf, nothing, with_prop, is_directory_place}

-- the tree that the changes so far have made, and the next line
pub record Pending : Type 0 where
  pub tree : Tree
  pub lines : ℕ

abbrev pub pending_in : ℕ → List Node → ℕ → ℕ → Pending
pending_in base nodes root lines = record { tree = tree_in base nodes root; lines = lines }

-- ---- what can't be made

abbrev pub directory_fault : Option Place → Option CommitFault
directory_fault None = Some Missing
directory_fault (Some p) = if is_directory_place (Some p) then None else Some NotDir

-- the first place above p that is missing or no directory, from the root down
abbrev pub above_fault : Tree → Path → Option CommitFault
above_fault t [] = None
above_fault t (name ∷ p) = option_or (directory_fault (t [])) (above_fault (λ q. t (name ∷ q)) p)

abbrev pub missing_fault : Option Place → Option CommitFault
missing_fault o = if is_some o then None else Some Missing

abbrev pub fault_if : Bool → CommitFault → Option CommitFault
fault_if test fault = if test then Some fault else None

abbrev pub root_fault : Path → Option CommitFault
root_fault [] = Some IsRoot
root_fault (name ∷ p) = None

abbrev pub depth_fault : Path → Option CommitFault
depth_fault p = fault_if (nat_lt path_limit (length p)) TooDeep

abbrev pub size_fault : List ℕ → Option CommitFault
size_fault text = fault_if (nat_lt size_limit (length text)) TooLong

abbrev pub value_fault : Option (List ℕ) → Option CommitFault
value_fault None = None
value_fault (Some value) = size_fault value

-- on the way to a path that must be there
abbrev pub walk_fault : Tree → Path → Option CommitFault
walk_fault t p = option_or (above_fault t p) (missing_fault (t p))

abbrev pub revision_fault : History → ℕ → Option CommitFault
revision_fault h r = fault_if (nat_le (length h.roots) r) NoSuchRevision

-- a node below the source would be at a path of too many names
abbrev pub copy_depth_fault : Nodes → Option ℕ → Path → Option CommitFault
copy_depth_fault nodes None p = None
copy_depth_fault nodes (Some n) p = fault_if (reaches nodes (path_limit + 1 - length p) n) TooDeep

abbrev pub directory_fault_at : Tree → Path → Option CommitFault
directory_fault_at t path = option_or (above_fault t path) (option_or (fault_if (is_some (t path)) Exists) (depth_fault path))

abbrev pub file_fault_at : Tree → Path → Option CommitFault
file_fault_at t path = option_or (above_fault t path) (option_or (fault_if (is_directory_place (t path)) NotFile) (depth_fault path))

-- the source is looked up first, in its own revision
abbrev pub copy_fault : History → Tree → ℕ → Path → Path → Option CommitFault
copy_fault h t rev source path =
    option_or (revision_fault h rev)
    (option_or (walk_fault (tree_at h rev) source)
    (option_or (above_fault t path)
    (option_or (fault_if (is_some (t path)) Exists) (copy_depth_fault (node_at h) (look h rev source) path))))

abbrev pub change_fault : History → Pending → Change → Option CommitFault
change_fault h s (MakeDir path) = option_or (root_fault path) (directory_fault_at s.tree path)
change_fault h s (PutFile path text) = option_or (root_fault path) (option_or (size_fault text) (file_fault_at s.tree path))
change_fault h s (SetProp path name value) = option_or (value_fault value) (walk_fault s.tree path)
change_fault h s (Remove path) = option_or (root_fault path) (walk_fault s.tree path)
change_fault h s (CopyFrom rev source path) = option_or (root_fault path) (copy_fault h s.tree rev source path)

-- ---- what a change makes

abbrev pub new_directory : ℕ → Place
new_directory line = record { number = None; line = line; kind = Directory; text = []; props = [] }

-- a file with the text: the one that was there, or a new one
abbrev pub with_text : ℕ → Option Place → List ℕ → Place
with_text line None text = record { number = None; line = line; kind = File; text = text; props = [] }
with_text line (Some old) text = record { number = None; line = old.line; kind = File; text = text; props = old.props }

abbrev pub lines_after : ℕ → Option Place → ℕ
lines_after lines None = lines + 1
lines_after lines (Some old) = lines

abbrev pub after_change : History → Pending → Change → Pending
after_change h s (MakeDir path) = record { tree = graft s.tree path (leaf (new_directory s.lines)); lines = s.lines + 1 }
after_change h s (PutFile path text) = record {
  tree = graft s.tree path (leaf (with_text s.lines (s.tree path) text));
  lines =
      lines_after s.lines (s.tree path);
}
after_change h s (SetProp path name value) = record { tree = graft s.tree path (with_prop s.tree path name value); lines = s.lines }
after_change h s (Remove path) = record { tree = graft s.tree path nothing; lines = s.lines }
after_change h s (CopyFrom rev source path) = record { tree = graft s.tree path (λ q. tree_at h rev (source ++ q)); lines = s.lines }

-- ---- a list of changes

abbrev pub changes_fault : History → Pending → List Change → Option CommitFault
changes_fault h s [] = None
changes_fault h s (c ∷ cs) = option_or (change_fault h s c) (changes_fault h (after_change h s c) cs)

abbrev pub after_changes : History → Pending → List Change → Pending
after_changes h s [] = s
after_changes h s (c ∷ cs) = after_changes h (after_change h s c) cs

-- what the changes begin from
abbrev pub latest_pending : History → Pending
latest_pending h = record { tree = tree_at h (length h.roots - 1); lines = h.lines }

abbrev pub commit_fault : History → List Change → Option CommitFault
commit_fault h changes = changes_fault h (latest_pending h) changes

-- ---- a commit

-- n is a node that h hasn't, where the place is a fresh one, and else the node that the place still is
abbrev pub IsNumbered : History → Place → ℕ → Type 0
IsNumbered h p n = MatchOption p.number (length h.nodes ≤ n) (λ m. n ≡ m)

abbrev pub IsNodeOf : Place → NodeRow → Type 0
IsNodeOf p row = (row.line ≡ p.line) × (row.kind ≡ p.kind) × (row.text ≡ p.text) × (row.props ≡ p.props)

-- at the path of revision r is what the tree has there
abbrev pub StandsIn : History → History → ℕ → Path → Option Place → Type 0
StandsIn h h' r q None = look h' r q ≡ None
StandsIn h h' r q (Some p) = (n : ℕ) × (row : NodeRow) × (look h' r q ≡ Some n) × (node_at h' n ≡ Some row) × IsNumbered h p n
    × IsNodeOf p row

-- s is what the changes made of the last revision of h
pub record IsRevision (h h' : History) (s : Pending) : Type 0 where
  -- one more revision
  pub revisions : length h'.roots ≡ length h.roots + 1
  -- it has what the changes made of the last one
  pub tree : (q : Path) → StandsIn h h' (length h.roots) q (s.tree q)
  -- no fresh node is at two paths
  pub distinct : (p q : Path) (n : ℕ) → length h.nodes ≤ n → look h' (length h.roots) p ≡ Some n → look h' (length h.roots) q ≡ Some n
      → p ≡ q
  -- the old revisions and the old nodes stay
  pub old_revisions : (r : ℕ) (q : Path) → r < length h.roots → look h' r q ≡ look h r q
  pub old_nodes : (n : ℕ) → n < length h.nodes → node_at h' n ≡ node_at h n
  pub lines : h'.lines ≡ s.lines

-- h' is h with one more revision, made by the changes
abbrev pub IsCommit : History → History → List Change → Type 0
IsCommit h h' changes = (commit_fault h changes ≡ None) × IsRevision h h' (after_changes h (latest_pending h) changes)

-- the stored lists have one more revision, made by the changes
abbrev pub IsExtended : List ℕ → List Node → ℕ → List ℕ → List Node → List ℕ → List Change → ℕ → Type 0
IsExtended roots old lines roots' new heights' changes next =
    IsStored roots' new next heights' × IsCommit (history_of roots old lines) (history_of roots' new next) changes

-- ---- changes on a draft

-- a file with the text is appended to the nodes, and the name in the directory leads to it; where a file was under the name, it keeps
-- that one's line and properties
pub record PutsText (lines : ℕ) (text : List ℕ) (old new : List Node) (at : ℕ) (name : List ℕ) : Type 0 where
  pub node : Node
  pub childless : entries_of node.content ≡ []
  pub place : (base : ℕ) → place_of None (row_of node)
      ≡ with_text lines (option_and_then (place_at (rows old) base) (child_in (rows old at) name)) text
  pub put : PutsChild (old ++ node ∷ []) new at name (Some (length old))

-- the change is made on a draft: the root and the next line after it
pub record IsMade (base : ℕ) (roots : List ℕ) (old new : List Node) (from lines root next : ℕ) (change : Change) : Type 0 where
  pub draft : IsDraft base new root
  pub bounded : next ≤ length new
  pub directory : is_directory_place (tree_in base old from []) ≡ true → is_directory_place (tree_in base new root []) ≡ true
  pub pending : (l : ℕ) → pending_in base new root next ≡ after_change (past_in base roots old l) (pending_in base old from lines) change

-- the changes are made on a draft over the old nodes
pub record AllMade (roots : List ℕ) (old new : List Node) (from lines root next : ℕ) (changes : List Change) : Type 0 where
  pub draft : IsDraft (length old) new root
  pub bounded : next ≤ length new
  pub directory : is_directory_place (tree_in (length old) old from []) ≡ true
      → is_directory_place (tree_in (length old) new root []) ≡ true
  pub no_fault : changes_fault (history_of roots old lines) (pending_in (length old) old from lines) changes ≡ None
  pub pending : pending_in (length old) new root next ≡ after_changes (history_of roots old lines)
      (pending_in (length old) old from lines) changes

-- the changes are refused: the first of them that can't be made has the fault, or memory runs out, where the first can be made
abbrev pub AreRefused : History → Pending → List Change → CommitFault → Type 0
AreRefused h s changes e = ((e ≡ Memory) × (changes_fault h s (take 1 changes) ≡ None)) ⊎ (changes_fault h s changes ≡ Some e)

abbrev pub IsRefused : History → List Change → CommitFault → Type 0
IsRefused h changes e = AreRefused h (latest_pending h) changes e

abbrev pub commit_fault_number : CommitFault → ℕ
commit_fault_number Exists = 1
commit_fault_number Missing = 2
commit_fault_number NotDir = 3
commit_fault_number NotFile = 4
commit_fault_number IsRoot = 5
commit_fault_number TooDeep = 6
commit_fault_number NoSuchRevision = 7
commit_fault_number TooLong = 8
commit_fault_number Full = 9
commit_fault_number Memory = 10

abbrev pub commit_fault_name : CommitFault → List ℕ
commit_fault_name Exists = codes "Exists"
commit_fault_name Missing = codes "Missing"
commit_fault_name NotDir = codes "NotDir"
commit_fault_name NotFile = codes "NotFile"
commit_fault_name IsRoot = codes "IsRoot"
commit_fault_name TooDeep = codes "TooDeep"
commit_fault_name NoSuchRevision = codes "NoSuchRevision"
commit_fault_name TooLong = codes "TooLong"
commit_fault_name Full = codes "Full"
commit_fault_name Memory = codes "Memory"
