-- What a crash leaves during a checkout, while a copy is brought to another state, and while what was cut off is completed.
--     IsWhole n nodes left      there is all of a copy with these nodes in the administrative folder n: the database of its nodes, and their texts
--     IsNoCopy left      there is no copy
--     IsThere copy left      there is all of this copy
--     IsKept copy s      it is there, and on the disk
--     LeavesFrom I P old new      a crash at any moment of a call leaves what has P, if the folder had I before
--     AfterFrom I P old new      so does one once the call is over
--     Leaves P old new, LeavesAfter P old new      the same where all of the folder was on the disk before, and it had no copy
--     Runs I C J old result new      begun where the folder has I, a call ends where it has J, and a crash meanwhile leaves what has C
--     IsReady n nodes s, IsSafe n nodes s      how far a checkout has come: all of the copy is in the folder in which it was made; in its own folder, and on
--         the disk
--     IsBoth old new s, IsSet old new s      how far a change has come: the texts of the new copy are on the disk too; and so is its database, without its name
--     IsAdding n old result new      a call only adds to the administrative folder n, and leaves the copy in it
use Rattle.std.specs.Prelude.{◌≡◌, ◌⊎◌, ℕ, Bool, true, List, [], ◌∷◌, ◌++◌, length, codes, Option, Some, None, Result, OnOk, OnErr, MatchOption, ⊤}
use Rattle.svn_types.specs.Names.{Path}
use Rattle.svn_digits.specs.StandIns.{stand_in, stand_in_of}
use Rattle.svn_repo.specs.History.{History}
use Rattle.svn_model.specs.declared.base_node.BaseNode.{BaseNode}
use Rattle.svn_model.specs.declared.base_node.BaseNode.TheVariants.{File as FileNode, Dir as DirNode, NotPresent}
use Rattle.svn_model.specs.Nodes.{get_in, IsTrueOf}
use Rattle.svn_model.specs.Refusals.{nodes_fault}
use Rattle.svn_wcrows.specs.Copies.{StandsFor}
use Rattle.svn_folder.specs.declared.entry.Mode.{Mode}
use Rattle.svn_folder.specs.declared.entry.Entry.{Entry}
use Rattle.svn_folder.specs.declared.entry.Entry.TheVariants.{File}
use Rattle.svn_folder.specs.declared.summary.Summary.{Summary}
use Rattle.svn_folder.specs.declared.summary.Summary.TheVariants as summary
use Rattle.svn_folder.specs.declared.step.Step.{Step}
use Rattle.svn_folder.specs.States.{Seen, State, seen}
use Rattle.svn_folder.specs.Steps.{run}
use Rattle.svn_folder.specs.Crashes.{RunMayLeave}
use Rattle.svn_folder.specs.Syncing.{IsSynced}
use Rattle.svn_folder.specs.Laws.{IsOnDisk}
use Rattle.svn_folder.specs.Pasts.{Past, Known, Broken, moment, LeftSince}
use Rattle.svn_disk.specs.declared.doing.Databases.{Databases}
use Rattle.svn_disk.specs.Goes.{IsAlways, Keeps, Stops, Goes, no_step}
use Rattle.svn_disk.specs.Plans.{text_of_node}
use Rattle.svn_disk.specs.Places.{text_place, database_place, new_database_place, is_inside, is_of_change}

-- ---- a copy in the administrative folder

-- a file is there, with these bytes
abbrev pub HasBytes : List ℕ → Option Entry → Type 0
HasBytes bytes found = (mode : Mode) × (found ≡ Some (File bytes mode))

-- it is a file with the checksum of this stand-in
abbrev pub HasName : List ℕ → Summary → Type 0
HasName name (summary.File len sum mode) = stand_in_of sum ≡ name
HasName name summary.Directory = ⊥
HasName name (summary.Link target) = ⊥

-- a file is there, with the text of this stand-in
pub record IsTextOf (name : List ℕ) (found : Option Entry) : Type 0 where
  pub bytes : List ℕ
  pub mode : Mode
  pub is_file : found ≡ Some (File bytes mode)
  pub is_text : stand_in bytes ≡ name

-- a file is there, whose bytes stand for a copy with just these nodes, in the order of their rows
pub record IsDatabaseOf (nodes : List (Path × BaseNode)) (found : Option Entry) : Type 0 where
  pub bytes : List ℕ
  pub mode : Mode
  pub is_file : found ≡ Some (File bytes mode)
  pub stands : StandsFor nodes bytes

-- of a node that is a file, its text
abbrev pub OfText : (List ℕ → Type 0) → BaseNode → Type 0
OfText P (FileNode r q t ps) = P t
OfText P (DirNode r q c ps) = ⊤
OfText P NotPresent = ⊤

-- of each file of a copy
abbrev pub EachText : (List ℕ → Type 0) → List (Path × BaseNode) → Type 0
EachText P [] = ⊤
EachText P (entry ∷ nodes) = OfText P entry.1 × EachText P nodes

-- the text of a stand-in is among the pristine texts
abbrev pub IsTextIn : List ℕ → Seen → List ℕ → Type 0
IsTextIn n left t = IsTextOf t (left (text_place n t))

pub record IsWhole (n : List ℕ) (nodes : List (Path × BaseNode)) (left : Seen) : Type 0 where
  pub database : IsDatabaseOf nodes (left (database_place n))
  pub texts : EachText (IsTextIn n left) nodes

abbrev pub IsNoCopy : Seen → Type 0
IsNoCopy left = left (codes ".svn" ∷ []) ≡ None

-- no copy, or the whole one
abbrev pub IsNoneOrWhole : List (Path × BaseNode) → Seen → Type 0
IsNoneOrWhole nodes left = IsNoCopy left ⊎ IsWhole (codes ".svn") nodes left

-- ---- a copy, in whatever order its rows are

-- each path is there once, with the node that the copy has there
pub record AreNodesOf (copy nodes : List (Path × BaseNode)) : Type 0 where
  pub once : nodes_fault nodes ≡ None
  pub same : (p : Path) → get_in nodes p ≡ get_in copy p

pub record IsThere (copy : List (Path × BaseNode)) (left : Seen) : Type 0 where
  pub nodes : List (Path × BaseNode)
  pub are : AreNodesOf copy nodes
  pub whole : IsWhole (codes ".svn") nodes left

-- the old one is there, or the new one
abbrev pub IsOldOrNew : List (Path × BaseNode) → List (Path × BaseNode) → Seen → Type 0
IsOldOrNew old new left = IsThere old left ⊎ IsThere new left

-- a copy has a file with this text at a path
pub record IsTextAt (copy : List (Path × BaseNode)) (p : Path) (t : List ℕ) : Type 0 where
  pub node : BaseNode
  pub found : get_in copy p ≡ Some node
  pub text : text_of_node node ≡ Some t

-- some copy is there that is true of the repository
pub record IsTrueThere (h : History) (left : Seen) : Type 0 where
  pub copy : List (Path × BaseNode)
  pub is_true : IsTrueOf h (get_in copy)
  pub there : IsThere copy left

-- that copy is there, or one that is true of the repository
abbrev pub IsThereOrTrue : List (Path × BaseNode) → History → Seen → Type 0
IsThereOrTrue copy h left = IsThere copy left ⊎ IsTrueThere h left

-- the database is one of this copy
pub record HasDatabase (copy : List (Path × BaseNode)) (s : State) : Type 0 where
  pub nodes : List (Path × BaseNode)
  pub are : AreNodesOf copy nodes
  pub database : IsDatabaseOf nodes (seen s (database_place (codes ".svn")))

-- ---- before a call

-- all of a folder is on the disk, and it has no copy
pub record IsFree (s : State) : Type 0 where
  pub synced : IsSynced s
  pub free : IsNoCopy (seen s)

abbrev pub LeavesFrom : (State → Type 0) → (Seen → Type 0) → Past → Past → Type 0
LeavesFrom I P old new =
    (s : State) (steps : List Step) → old ≡ Known s steps → I (run s steps) → (left : Seen) → LeftSince new (length steps) left → P left

abbrev pub AfterFrom : (State → Type 0) → (Seen → Type 0) → Past → Past → Type 0
AfterFrom I P old new =
    (s : State) (steps : List Step) → old ≡ Known s steps → I (run s steps) → (left : Seen) → LeftSince new (moment new) left → P left

abbrev pub Leaves : (Seen → Type 0) → Past → Past → Type 0
Leaves P old new = LeavesFrom IsFree P old new

abbrev pub LeavesAfter : (Seen → Type 0) → Past → Past → Type 0
LeavesAfter P old new = AfterFrom IsFree P old new

-- ---- parts of a call

-- all of a copy is in the folder in which it was made, and on the disk
pub record IsReady (n : List ℕ) (nodes : List (Path × BaseNode)) (s : State) : Type 0 where
  pub synced : IsSynced s
  pub free : IsNoCopy (seen s)
  pub whole : IsWhole n nodes (seen s)

-- the text of a stand-in is among the pristine texts, and on the disk
abbrev pub IsTextOn : List ℕ → State → List ℕ → Type 0
IsTextOn n s t = IsTextOf t (seen s (text_place n t)) × IsOnDisk s (text_place n t)

pub record IsSafe (n : List ℕ) (nodes : List (Path × BaseNode)) (s : State) : Type 0 where
  pub database : IsDatabaseOf nodes (seen s (database_place n)) × IsOnDisk s (database_place n)
  pub texts : EachText (IsTextOn n s) nodes

pub record IsKept (copy : List (Path × BaseNode)) (s : State) : Type 0 where
  pub nodes : List (Path × BaseNode)
  pub are : AreNodesOf copy nodes
  pub safe : IsSafe (codes ".svn") nodes s

-- the old copy is there, and the texts of the new one
pub record IsBoth (old new : List (Path × BaseNode)) (s : State) : Type 0 where
  pub safe : IsSafe (codes ".svn") old s
  pub texts : EachText (IsTextOn (codes ".svn") s) new

-- a database of the new copy is there as well, and its bytes are on the disk
pub record IsSet (old new : List (Path × BaseNode)) (s : State) : Type 0 where
  pub both : IsBoth old new s
  pub made : IsDatabaseOf new (seen s (new_database_place (codes ".svn")))
  pub synced : (s (new_database_place (codes ".svn"))).now.is_synced ≡ true

-- the old copy or the new one
abbrev pub IsOneOf : List (Path × BaseNode) → List (Path × BaseNode) → Seen → Type 0
IsOneOf old new left = IsWhole (codes ".svn") old left ⊎ IsWhole (codes ".svn") new left

-- since these steps the folder has come to where it has J
pub record LeadsTo (C : Seen → Type 0) (J : State → Type 0) (s : State) (steps : List Step) (new : Past) : Type 0 where
  pub more : List Step
  pub past : new ≡ Known s (steps ++ more)
  pub ends : J (run (run s steps) more)
  pub meanwhile : (left : Seen) → RunMayLeave (run s steps) more left → C left

-- a part of a call has failed since
pub record BreaksAt (C : Seen → Type 0) (s : State) (steps : List Step) (new : Past) : Type 0 where
  pub more : List Step
  pub past : (new ≡ Known s (steps ++ more)) ⊎ (new ≡ Broken s (steps ++ more))
  pub meanwhile : (left : Seen) → RunMayLeave (run s steps) more left → C left

pub record Leads (I : State → Type 0) (C : Seen → Type 0) (J : State → Type 0) (old new : Past) : Type 0 where
  pub each : (s : State) (steps : List Step) → old ≡ Known s steps → I (run s steps) → LeadsTo C J s steps new

pub record Breaks (I : State → Type 0) (C : Seen → Type 0) (old new : Past) : Type 0 where
  pub each : (s : State) (steps : List Step) → old ≡ Known s steps → I (run s steps) → BreaksAt C s steps new

abbrev pub Runs : {T : Type 0} → {E : Type 0} → (State → Type 0) → (Seen → Type 0) → (State → Type 0) → Past → Result T E → Past → Type 0
Runs I C J old result new = OnOk result (Leads I C J old new) × OnErr result (Breaks I C old new)

-- a part of a call takes steps in the administrative folder n alone, and leaves the copy that is there
pub record Adds (n : List ℕ) (old new : Past) : Type 0 where
  pub keeps : Keeps (is_inside n) old new
  pub leads : (nodes : List (Path × BaseNode)) → Leads (IsSafe n nodes) (IsWhole n nodes) (IsSafe n nodes) old new

pub record AddsSome (n : List ℕ) (old new : Past) : Type 0 where
  pub stops : Stops (is_inside n) old new
  pub breaks : (nodes : List (Path × BaseNode)) → Breaks (IsSafe n nodes) (IsWhole n nodes) old new

abbrev pub IsAdding : {T : Type 0} → {E : Type 0} → List ℕ → Past → Result T E → Past → Type 0
IsAdding n old result new = OnOk result (Adds n old new) × OnErr result (AddsSome n old new)

-- the databases that follow are of the same nodes
pub record AreOfNodes (nodes : List (Path × BaseNode)) (databases : Databases) : Type 0 where
  pub middle : MatchOption databases.middle ⊤ (λ image. StandsFor nodes image.items)
  pub end : StandsFor nodes databases.end.items

-- ---- a copy that is put right

-- a call takes only steps of a change, from the copy that was there to one that is true of the repository
pub record IsChange (h : History) (old : Past) (goes : (Step → Bool) → Type 0) : Type 0 where
  pub copy : List (Path × BaseNode)
  pub other : List (Path × BaseNode)
  pub was : IsAlways (HasDatabase copy) old
  pub is_true : IsTrueOf h (get_in other)
  pub steps : goes (is_of_change copy other)

-- or it takes none
abbrev pub IsMending : {T : Type 0} → {E : Type 0} → History → Past → Result T E → Past → Type 0
IsMending h old result new = Goes no_step old result new ⊎ IsChange h old (λ P. Goes P old result new)
