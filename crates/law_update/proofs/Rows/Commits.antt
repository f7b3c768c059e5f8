-- Commits: which changes are refused, and what is in the new revision.
use Rattle.std.specs.Prelude.{◌≡◌, ℕ, List, [], ◌∷◌, ◌++◌, map, Option, Some, None, refl}
use Rattle.svn_types.specs.declared.kind.Kind.TheVariants.{File, Directory}
use Rattle.svn_types.specs.Names.{Path}
use Rattle.svn_repo.specs.declared.change.Change.{Change}
use Rattle.svn_repo.specs.declared.change.Change.TheVariants.{MakeDir, PutFile, SetProp, Remove, CopyFrom}
use Rattle.svn_repo.specs.declared.change.CommitFault.{CommitFault}
use Rattle.svn_repo.specs.declared.change.CommitFault.TheVariants.{Exists, Missing, NotDir, NotFile, IsRoot, TooDeep, NoSuchRevision}
use Rattle.svn_repo.specs.History.{History, new_history}
use Rattle.svn_repo.specs.Trees.{Place}
use Rattle.svn_repo.specs.Changes.{commit_fault, after_changes, latest_pending}
use Rattle.law_update.proofs.Rows.Setting.{a, b, d, f, g, s, x, abc, at, at2, deep, dir, file, history_of}
use Rattle.law_update.proofs.Rows.Plain.{k}

-- what is at these paths after the changes
abbrev standing : History → List Path → List Change → List (Option Place)
standing h paths changes = map (after_changes h (latest_pending h) changes).tree paths

-- a directory, a file of the line
abbrev made_dir : ℕ → Option Place
made_dir line = Some (record { number = None; line = line; kind = Directory; text = []; props = [] })

abbrev made_file : ℕ → List ℕ → Option Place
made_file line text = Some (record { number = None; line = line; kind = File; text = text; props = [] })

-- a directory with a file
abbrev inner : History
inner = history_of (0 ∷ 1 ∷ []) (dir 0 [] ∷ dir 0 ((d, 2) ∷ []) ∷ dir 1 ((x, 3) ∷ []) ∷ file 2 a ∷ [])

-- ---- what is there

first_file : standing new_history ([] ∷ at f ∷ at g ∷ []) (PutFile (at f) a ∷ []) ≡ made_dir 0 ∷ made_file 1 a ∷ None ∷ []
first_file = refl

-- a file keeps its line; what no change is about keeps its number, and what is above a change gets a new one
changed_file : standing k ([] ∷ at f ∷ []) (PutFile (at f) a ∷ []) ≡ made_dir 0 ∷ made_file 1 a ∷ []
changed_file = refl

other_file : standing k ([] ∷ at f ∷ at g ∷ []) (PutFile (at g) a ∷ []) ≡ made_dir 0
    ∷ Some (record { number = Some 4; line = 1; kind = File; text = abc; props = [] }) ∷ made_file 5 a ∷ []
other_file = refl

nothing_changed : standing k ([] ∷ []) [] ≡ Some (record { number = Some 3; line = 0; kind = Directory; text = []; props = [] }) ∷ []
nothing_changed = refl

removed : standing k ([] ∷ at f ∷ []) (Remove (at f) ∷ []) ≡ made_dir 0 ∷ None ∷ []
removed = refl

-- a file that is removed and put again is of another line; so is a directory in its place
replaced : standing k (at f ∷ []) (Remove (at f) ∷ PutFile (at f) abc ∷ []) ≡ made_file 5 abc ∷ []
replaced = refl

replaced_by_directory : standing k (at f ∷ at2 f x ∷ []) (Remove (at f) ∷ MakeDir (at f) ∷ PutFile (at2 f x) a ∷ []) ≡ made_dir 5
    ∷ made_file 6 a ∷ []
replaced_by_directory = refl

-- a line that was given in a commit isn't given again in it
line_used_up : standing k (at d ∷ at g ∷ []) (MakeDir (at d) ∷ Remove (at d) ∷ PutFile (at g) a ∷ []) ≡ None ∷ made_file 6 a ∷ []
line_used_up = refl

-- a copy is the node that it was copied from, also of an older revision
copied : standing k (at f ∷ at g ∷ []) (CopyFrom 1 (at f) (at g) ∷ [])
    ≡ Some (record { number = Some 4; line = 1; kind = File; text = abc; props = [] })
    ∷ Some (record { number = Some 2; line = 1; kind = File; text = a; props = [] }) ∷ []
copied = refl

-- a copy that is changed keeps the line
changed_copy : standing k (at g ∷ []) (CopyFrom 1 (at f) (at g) ∷ PutFile (at g) abc ∷ []) ≡ made_file 1 abc ∷ []
changed_copy = refl

-- a directory copied into itself, from the revision before
copied_inside : standing inner (at d ∷ at2 d x ∷ at2 d g ∷ (d ∷ g ∷ x ∷ []) ∷ (d ∷ g ∷ g ∷ []) ∷ []) (CopyFrom 1 (at d) (at2 d g) ∷ [])
    ≡ made_dir 1
    ∷ Some (record { number = Some 3; line = 2; kind = File; text = a; props = [] })
    ∷ Some (record { number = Some 2; line = 1; kind = Directory; text = []; props = [] })
    ∷ Some (record { number = Some 3; line = 2; kind = File; text = a; props = [] })
    ∷ None
    ∷ []
copied_inside = refl

-- properties in byte order; one that is set again, and one that is removed without being set
property_set : standing k (at f ∷ [])
    (SetProp (at f) b (Some (49 ∷ [])) ∷ SetProp (at f) a (Some (50 ∷ [])) ∷ SetProp (at f) b (Some (51 ∷ [])) ∷ SetProp (at f) s None ∷ [])
    ≡ Some (record { number = None; line = 1; kind = File; text = abc; props = (a, 50 ∷ []) ∷ (b, 51 ∷ []) ∷ [] }) ∷ []
property_set = refl

-- ---- refusals

abbrev fault : List Change → Option CommitFault
fault changes = commit_fault k changes

there_already : fault (MakeDir (at f) ∷ []) ≡ Some Exists
there_already = refl

parent_missing : fault (MakeDir (at2 g x) ∷ []) ≡ Some Missing
parent_missing = refl

parent_is_file : fault (MakeDir (at2 f x) ∷ []) ≡ Some NotDir
parent_is_file = refl

is_directory : fault (MakeDir (at d) ∷ PutFile (at d) a ∷ []) ≡ Some NotFile
is_directory = refl

root_removed : fault (Remove [] ∷ []) ≡ Some IsRoot
root_removed = refl

nothing_removed : fault (Remove (at g) ∷ []) ≡ Some Missing
nothing_removed = refl

copied_from_later : fault (CopyFrom 3 (at f) (at g) ∷ []) ≡ Some NoSuchRevision
copied_from_later = refl

copied_from_nothing : fault (CopyFrom 1 (at x) (at g) ∷ []) ≡ Some Missing
copied_from_nothing = refl

copied_over : fault (CopyFrom 1 (at f) (at f) ∷ []) ≡ Some Exists
copied_over = refl

-- a path has at most 64 names: seen in a directory that holds itself, so that each path of its name is there
abbrev bottomless : History
bottomless = history_of (0 ∷ []) (dir 0 ((d, 0) ∷ []) ∷ [])

deepest_made : commit_fault bottomless (MakeDir (deep 63 ++ x ∷ []) ∷ []) ≡ None
deepest_made = refl

too_deep_made : commit_fault bottomless (MakeDir (deep 64 ++ x ∷ []) ∷ []) ≡ Some TooDeep
too_deep_made = refl

-- the first change that can't be made decides
first_decides : fault (MakeDir (at d) ∷ Remove [] ∷ MakeDir (at f) ∷ []) ≡ Some IsRoot
first_decides = refl

all_made : fault (MakeDir (at d) ∷ PutFile (at2 d x) a ∷ SetProp (at d) a (Some []) ∷ Remove (at f) ∷ []) ≡ None
all_made = refl
