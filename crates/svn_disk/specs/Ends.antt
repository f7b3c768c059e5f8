-- What a folder shows once a call has returned Ok.
--     Turns R old new      begun where all is known of a folder, a part of a call ends where all is known, and what is shown then is, by what was shown before,
--         as R says
--     text_at found      the stand-in of the text of what is at a path: the bytes of a file, or "link " and the target of a link
--     IsAtPlace node found      that is what a node is on disk
--     AreAtPlaces copy left      each node of a copy is at its place; of the folder itself, and of what isn't present, nothing is said
--     own_place n i      the file of that number, before it has its place
--     ArePlaced n i work before left      what work makes is there: a directory, or what was under the file's own name before, from that number on
--     AreReady n i copy left      each file of a copy is under its own name, from that number on, with its text
--     AreCarried work removals before left      what comes is there, and where a file goes and nothing comes is no file and no link
--     IsCompleted rows copy left      all work that these rows of the queue are is done, and each file that comes has the text of the copy
--     AreCopied n i copy left      it is there as its pristine text is, whatever that is
use Rattle.std.specs.Prelude.{◌≡◌, ◌⊎◌, ℕ, Bool, ◌+◌, ◌-◌, ◌<◌, ◌^◌, min, true, false, List, [], ◌∷◌, ◌++◌, drop, codes, Option, Some, None, is_some, Ok, ⊤}
use Rattle.std.specs.BTreeMap.{is_at}
use Rattle.std.specs.Cmp.Lexicographic.{slice_cmp}
use Rattle.std.specs.Fmt.{decimal}
use Rattle.std.specs.List.{list_any}
use Rattle.std.specs.Map.{lookup}
use Rattle.std.specs.Ordering.{nat_cmp}
use Rattle.hex.specs.Hex.{decode_sized}
use Rattle.svn_types.specs.Names.{Path, path_cmp}
use Rattle.svn_types.specs.Paths.{path_eq, is_root}
use Rattle.svn_digits.specs.StandIns.{stand_in, is_stand_in}
use Rattle.svn_model.specs.declared.base_node.BaseNode.{BaseNode}
use Rattle.svn_model.specs.declared.base_node.BaseNode.TheVariants.{File as FileNode, Dir as DirNode, NotPresent}
use Rattle.svn_model.specs.Nodes.{get_in}
use Rattle.svn_wcdb.specs.declared.table.TableRow.{TableRow}
use Rattle.svn_wcrows.specs.declared.work.Work.{Work}
use Rattle.svn_wcrows.specs.declared.work.Work.TheVariants.{MakeDirectory, InstallFile, RemoveFile, RemoveDirectory}
use Rattle.svn_wcrows.specs.Work.{AreItems}
use Rattle.svn_folder.specs.declared.entry.Entry.{Entry}
use Rattle.svn_folder.specs.declared.entry.Entry.TheVariants.{File, Directory, Link}
use Rattle.svn_folder.specs.declared.step.Step.{Step}
use Rattle.svn_folder.specs.Entries.{has_leaf}
use Rattle.svn_folder.specs.States.{Seen, State, seen}
use Rattle.svn_folder.specs.Steps.{run}
use Rattle.svn_folder.specs.Pasts.{Past, Known}
use Rattle.svn_disk.specs.Places.{is_outside, text_place, database_place, new_database_place}
use Rattle.svn_disk.specs.Plans.{path_of}
use Rattle.svn_disk.specs.Tasks.{comes_at, work_node}
use Rattle.svn_disk.specs.Crashes.{IsTextAt, OfText}

-- ---- what is shown in the end

pub record TurnsTo (R : Seen → Seen → Type 0) (before : Seen) (new : Past) : Type 0 where
  pub state : State
  pub steps : List Step
  pub past : new ≡ Known state steps
  pub turns : R before (seen (run state steps))

pub record Turns (R : Seen → Seen → Type 0) (old new : Past) : Type 0 where
  pub each : (s : State) (steps : List Step) → old ≡ Known s steps → TurnsTo R (seen (run s steps)) new

-- ---- nodes at their places

abbrev pub text_at : Option Entry → Option (List ℕ)
text_at None = None
text_at (Some (File bytes mode)) = Some (stand_in bytes)
text_at (Some Directory) = None
text_at (Some (Link target)) = Some (stand_in (codes "link " ++ target))

abbrev pub IsAtPlace : BaseNode → Option Entry → Type 0
IsAtPlace (FileNode r q t ps) found = text_at found ≡ Some t
IsAtPlace (DirNode r q c ps) found = found ≡ Some Directory
IsAtPlace NotPresent found = ⊤

abbrev pub AreAtPlaces : List (Path × BaseNode) → Seen → Type 0
AreAtPlaces copy left = (p : Path) (node : BaseNode) → get_in copy p ≡ Some node → is_root p ≡ false → IsAtPlace node (left p)

-- ---- work, done

abbrev pub own_place : List ℕ → ℕ → Path
own_place n i = n ∷ codes "tmp" ∷ (codes "new-" ++ decimal i) ∷ []

-- how many files it places
abbrev pub files_of : Work → ℕ
files_of (MakeDirectory p) = 0
files_of (InstallFile p) = 1
files_of (RemoveFile p) = 0
files_of (RemoveDirectory p) = 0

abbrev pub IsPlaced : List ℕ → ℕ → Work → Seen → Seen → Type 0
IsPlaced n i (MakeDirectory p) before left = left p ≡ Some Directory
IsPlaced n i (InstallFile p) before left = left p ≡ before (own_place n i)
IsPlaced n i (RemoveFile p) before left = ⊤
IsPlaced n i (RemoveDirectory p) before left = ⊤

abbrev pub ArePlaced : List ℕ → ℕ → List Work → Seen → Seen → Type 0
ArePlaced n i [] before left = ⊤
ArePlaced n i (item ∷ work) before left = IsPlaced n i item before left × ArePlaced n (i + files_of item) work before left

-- outside of the administrative folder all is as it was, but at the paths of some work
abbrev pub AreOthers : List Work → Seen → Seen → Type 0
AreOthers work before left = (q : Path) → is_outside q ≡ true → list_any (λ item. path_eq (path_of item) q) work ≡ false → left q ≡ before q

-- what comes is there, and all else is as it was
pub record AreDone (n : List ℕ) (work : List Work) (before left : Seen) : Type 0 where
  pub placed : ArePlaced n 0 work before left
  pub others : AreOthers work before left

-- where a file goes, and none of these items is about its path, is no file and no link
abbrev pub IsGoneBut : List Work → Work → Seen → Type 0
IsGoneBut makings (MakeDirectory p) left = ⊤
IsGoneBut makings (InstallFile p) left = ⊤
IsGoneBut makings (RemoveFile p) left = list_any (λ item. path_eq (path_of item) p) makings ≡ false → has_leaf (left p) ≡ false
IsGoneBut makings (RemoveDirectory p) left = ⊤

abbrev pub AreGoneBut : List Work → List Work → Seen → Type 0
AreGoneBut makings [] left = ⊤
AreGoneBut makings (item ∷ work) left = IsGoneBut makings item left × AreGoneBut makings work left

pub record AreCarried (n : List ℕ) (removals makings : List Work) (before left : Seen) : Type 0 where
  pub placed : ArePlaced n 0 makings before left
  pub gone : AreGoneBut makings removals left

-- how many files a node is
abbrev pub files_at : BaseNode → ℕ
files_at (FileNode r q t ps) = 1
files_at (DirNode r q c ps) = 0
files_at NotPresent = 0

-- a file of a copy is at its path
pub record HasText (copy : List (Path × BaseNode)) (p : Path) (left : Seen) : Type 0 where
  pub text : List ℕ
  pub is : IsTextAt copy p text
  pub there : text_at (left p) ≡ Some text

-- of one item of some work: what comes is there, and where a file goes and nothing comes is no file and no link; a directory that goes may stay, with
-- something in it
abbrev pub IsDone : List (Path × BaseNode) → List Work → Work → Seen → Type 0
IsDone copy all (MakeDirectory p) left = left p ≡ Some Directory
IsDone copy all (InstallFile p) left = HasText copy p left
IsDone copy all (RemoveFile p) left = list_any (comes_at p) all ≡ false → has_leaf (left p) ≡ false
IsDone copy all (RemoveDirectory p) left = ⊤

abbrev pub EachDone : List (Path × BaseNode) → List Work → List Work → Seen → Type 0
EachDone copy all [] left = ⊤
EachDone copy all (item ∷ work) left = IsDone copy all item left × EachDone copy all work left

-- all of the work that these rows of WORK_QUEUE are is done
pub record IsCompleted (rows : List TableRow) (copy : List (Path × BaseNode)) (left : Seen) : Type 0 where
  pub work : List Work
  pub are : AreItems rows work
  pub done : EachDone copy work work left

-- each file that comes is one of the copy
abbrev pub AreFiles : List (Path × BaseNode) → List Work → Type 0
AreFiles copy [] = ⊤
AreFiles copy (item ∷ work) = (files_at (work_node copy item) ≡ files_of item) × AreFiles copy work

-- the checksum that a stand-in is of is among those of the texts that are kept
abbrev pub IsHeld : List (List ℕ × ℕ) → List ℕ → Type 0
IsHeld sizes name = (sum : List ℕ) × (decode_sized (drop 6 name) 20 ≡ Ok sum) × (is_some (lookup (is_at (slice_cmp nat_cmp sum)) sizes) ≡ true)

-- the texts that are held stay so
abbrev pub StayHeld : List (List ℕ × ℕ) → List (List ℕ × ℕ) → Type 0
StayHeld sizes more = (name : List ℕ) → IsHeld sizes name → IsHeld more name

-- the size of a file is noted, or that it is a link
abbrev pub is_noted : List (Path × Option ℕ) → Path → Bool
is_noted sizes p = is_some (lookup (is_at (path_cmp p)) sizes)

abbrev pub StayNoted : List (Path × Option ℕ) → List (Path × Option ℕ) → Type 0
StayNoted sizes more = (p : Path) → is_noted sizes p ≡ true → is_noted more p ≡ true

-- of one item, and of all: the size of each file that comes is noted
abbrev pub IsNoted : List (Path × Option ℕ) → Work → Type 0
IsNoted sizes (MakeDirectory p) = ⊤
IsNoted sizes (InstallFile p) = is_noted sizes p ≡ true
IsNoted sizes (RemoveFile p) = ⊤
IsNoted sizes (RemoveDirectory p) = ⊤

abbrev pub AreNoted : List (Path × Option ℕ) → List Work → Type 0
AreNoted sizes [] = ⊤
AreNoted sizes (item ∷ work) = IsNoted sizes item × AreNoted sizes work

-- of each node whose size is noted, its text
abbrev pub EachNoted : List (Path × Option ℕ) → (List ℕ → Type 0) → List (Path × BaseNode) → Type 0
EachNoted sizes P [] = ⊤
EachNoted sizes P (entry ∷ nodes) = (is_noted sizes entry.0 ≡ true → OfText P entry.1) × EachNoted sizes P nodes

-- no two items are about the same path
abbrev pub AreDistinct : List Work → Type 0
AreDistinct [] = ⊤
AreDistinct (item ∷ work) = (list_any (λ other. path_eq (path_of item) (path_of other)) work ≡ false) × AreDistinct work

-- ---- files under names of their own

-- the number of the file that comes next
abbrev pub number_after : BaseNode → ℕ → ℕ
number_after (FileNode r q t ps) i = min (i + 1) (2 ^ 64 - 1)
number_after (DirNode r q c ps) i = i
number_after NotPresent i = i

abbrev pub IsReadyAt : List ℕ → ℕ → BaseNode → Seen → Type 0
IsReadyAt n i (FileNode r q t ps) left = text_at (left (own_place n i)) ≡ Some t
IsReadyAt n i (DirNode r q c ps) left = ⊤
IsReadyAt n i NotPresent left = ⊤

abbrev pub AreReady : List ℕ → ℕ → List (Path × BaseNode) → Seen → Type 0
AreReady n i [] left = ⊤
AreReady n i (entry ∷ copy) left = IsReadyAt n i entry.1 left × AreReady n (i + files_at entry.1) copy left

-- the text that a stand-in names is there, and under a name of its own
pub record HasCopy (n : List ℕ) (i : ℕ) (name : List ℕ) (left : Seen) : Type 0 where
  pub stands : is_stand_in name ≡ true
  pub there : is_some (text_at (left (text_place n name))) ≡ true
  pub same : text_at (left (own_place n i)) ≡ text_at (left (text_place n name))

abbrev pub IsCopied : List ℕ → ℕ → BaseNode → Seen → Type 0
IsCopied n i (FileNode r q t ps) left = HasCopy n i t left
IsCopied n i (DirNode r q c ps) left = ⊤
IsCopied n i NotPresent left = ⊤

abbrev pub AreCopied : List ℕ → ℕ → List (Path × BaseNode) → Seen → Type 0
AreCopied n i [] left = ⊤
AreCopied n i (entry ∷ copy) left = IsCopied n i entry.1 left × AreCopied n (i + files_at entry.1) copy left

-- a text that is written, before it has its name
abbrev pub new_text_place : List ℕ → Path
new_text_place n = n ∷ codes "tmp" ∷ codes "new-text" ∷ []

-- all is as it was
abbrev pub IsSame : Seen → Seen → Type 0
IsSame before left = (q : Path) → left q ≡ before q

-- what is somewhere stays
abbrev pub Stays : Seen → Seen → Type 0
Stays before left = (r : Path) → is_some (before r) ≡ true → left r ≡ before r

-- all is as it was, but at a path
abbrev pub IsSameBut : Path → Seen → Seen → Type 0
IsSameBut p before left = (r : Path) → path_eq p r ≡ false → left r ≡ before r

-- what is somewhere stays, but at two paths
abbrev pub StaysBut : Path → Path → Seen → Seen → Type 0
StaysBut p q before left = (r : Path) → is_some (before r) ≡ true → path_eq p r ≡ false → path_eq q r ≡ false → left r ≡ before r

-- all is as it was, but for the database, and the one that takes its place
abbrev pub IsExchanged : List ℕ → Seen → Seen → Type 0
IsExchanged n before left = (r : Path) → path_eq (new_database_place n) r ≡ false → path_eq (database_place n) r ≡ false → left r ≡ before r

-- what has a text is copied to another path
pub record CopiesText (p q : Path) (before left : Seen) : Type 0 where
  pub there : is_some (text_at (before p)) ≡ true
  pub same : text_at (left q) ≡ text_at (before p)
  pub others : (r : Path) → path_eq q r ≡ false → left r ≡ before r

-- a text is kept: nothing changes if it was before
pub record KeepsText (n : List ℕ) (sizes : List (List ℕ × ℕ)) (name : List ℕ) (before left : Seen) : Type 0 where
  pub again : IsHeld sizes name → IsSame before left
  pub stays : StaysBut (new_text_place n) (text_place n name) before left

-- the files with lower numbers whose texts are held stay as these are, and one more comes
pub record CopiesNode (n : List ℕ) (i : ℕ) (held : List ℕ → Type 0) (node : BaseNode) (before left : Seen) : Type 0 where
  pub earlier : (j : ℕ) (name : List ℕ) → j < i → held name → HasCopy n j name before → HasCopy n j name left
  pub comes : IsCopied n i node left

-- ---- parts of it

-- a directory that comes is there
abbrev pub IsDirectoryOf : Work → Seen → Type 0
IsDirectoryOf (MakeDirectory p) left = left p ≡ Some Directory
IsDirectoryOf (InstallFile p) left = ⊤
IsDirectoryOf (RemoveFile p) left = ⊤
IsDirectoryOf (RemoveDirectory p) left = ⊤

abbrev pub AreDirectories : List Work → Seen → Type 0
AreDirectories [] left = ⊤
AreDirectories (item ∷ work) left = IsDirectoryOf item left × AreDirectories work left

-- something is at a path, and everything else is as it was
pub record IsPut (p : Path) (e : Option Entry) (before left : Seen) : Type 0 where
  pub here : left p ≡ e
  pub others : (q : Path) → path_eq p q ≡ false → left q ≡ before q

-- what was at a path is at another one
pub record IsMoved (p q : Path) (before left : Seen) : Type 0 where
  pub here : left q ≡ before p
  pub others : (r : Path) → path_eq p r ≡ false → path_eq q r ≡ false → left r ≡ before r

-- at a path is what was there, or nothing, and everything else is as it was
pub record IsLessAt (p : Path) (before left : Seen) : Type 0 where
  pub here : (left p ≡ before p) ⊎ (left p ≡ None)
  pub others : IsSameBut p before left

-- no file and no link is where one goes; a directory that goes may stay, with something in it
abbrev pub IsGone : Work → Seen → Type 0
IsGone (MakeDirectory p) left = ⊤
IsGone (InstallFile p) left = ⊤
IsGone (RemoveFile p) left = has_leaf (left p) ≡ false
IsGone (RemoveDirectory p) left = ⊤

abbrev pub AreGone : List Work → Seen → Type 0
AreGone [] left = ⊤
AreGone (item ∷ work) left = IsGone item left × AreGone work left

abbrev pub IsOneGone : Work → Seen → Seen → Type 0
IsOneGone (MakeDirectory p) before left = IsSame before left
IsOneGone (InstallFile p) before left = IsSame before left
IsOneGone (RemoveFile p) before left = IsLessAt p before left × (has_leaf (left p) ≡ false)
IsOneGone (RemoveDirectory p) before left = IsLessAt p before left

pub record AreRemoved (work : List Work) (before left : Seen) : Type 0 where
  pub gone : AreGone work left
  pub others : (q : Path) → list_any (λ item. path_eq (path_of item) q) work ≡ false → left q ≡ before q

-- the directories that come are there, and everything else is as it was
pub record AreMade (work : List Work) (before left : Seen) : Type 0 where
  pub made : AreDirectories work left
  pub others : (q : Path) → list_any (λ item. path_eq (path_of item) q) work ≡ false → left q ≡ before q

-- a directory is made
abbrev pub IsOneMade : Work → Seen → Seen → Type 0
IsOneMade (MakeDirectory p) before left = IsPut p (Some Directory) before left
IsOneMade (InstallFile p) before left = IsSame before left
IsOneMade (RemoveFile p) before left = IsSame before left
IsOneMade (RemoveDirectory p) before left = IsSame before left

-- a file gets its place
abbrev pub IsOnePlaced : List ℕ → ℕ → Work → Seen → Seen → Type 0
IsOnePlaced n i (MakeDirectory p) before left = IsSame before left
IsOnePlaced n i (InstallFile p) before left = IsMoved (own_place n i) p before left
IsOnePlaced n i (RemoveFile p) before left = IsSame before left
IsOnePlaced n i (RemoveDirectory p) before left = IsSame before left
