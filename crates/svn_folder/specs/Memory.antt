-- How a folder in memory finds what is at a path, and what a crash may leave there: back through the steps that it has taken.
use Rattle.std.specs.Prelude.{◌≡◌, ℕ, Bool, false, ◌&&◌, ◌||◌, List, [], ◌∷◌, Option, Some, None, is_some, ⊤}
use Rattle.std.specs.BTreeSet.{BTreeSet, contains}
use Rattle.svn_types.specs.Names.{Path, name_cmp}
use Rattle.svn_types.specs.Paths.{path_eq, child}
use Rattle.svn_folder.specs.declared.entry.Entry.{Entry}
use Rattle.svn_folder.specs.declared.fault.Misfit.{Misfit}
use Rattle.svn_folder.specs.declared.step.Step.{Step}
use Rattle.svn_folder.specs.declared.held.Left.{Left}
use Rattle.svn_folder.specs.declared.memory.Origin.{Origin}
use Rattle.svn_folder.specs.declared.memory.Origin.TheVariants.{Made, At}
use Rattle.svn_folder.specs.declared.memory.MemoryFolder.{MemoryFolder}
use Rattle.svn_folder.specs.States.{Place, State, seen, empty}
use Rattle.svn_folder.specs.Steps.{after, run, new_name}

abbrev pub steps_of : MemoryFolder → List Step
steps_of m = m.steps.items

abbrev pub state_of : MemoryFolder → State
state_of m = run empty (steps_of m)

-- what is at the origin, in the state before the step
abbrev pub origin_in : Origin → State → Option Entry
origin_in (Made e) s = e
origin_in (At p) s = seen s p

-- where what is at a path after a step was before it
abbrev pub IsOrigin : Step → Path → Origin → Type 0
IsOrigin step p origin = (s : State) → seen (after step s) p ≡ origin_in origin s

-- there is no misfit exactly if this holds
abbrev pub Decides : Type 0 → Option Misfit → Type 0
Decides P None = P
Decides P (Some misfit) = ¬ P

-- nothing is in a directory under a name, which comes as a path of it alone, or as no path
abbrev pub IsFreeUnder : State → Path → Path → Type 0
IsFreeUnder s p [] = ⊤
IsFreeUnder s p (n ∷ q) = seen s (child p n) ≡ None

-- the same under each name that these steps have made
abbrev pub IsClear : State → Path → List Step → Type 0
IsClear s p [] = ⊤
IsClear s p (step ∷ steps) = IsFreeUnder s p (new_name step) × IsClear s p steps

-- a set of names has another one, if a step has made it and something in a directory has it
abbrev pub AddsName : State → Path → Step → BTreeSet (List ℕ) → BTreeSet (List ℕ) → Type 0
AddsName s p step names new =
    (name : List ℕ) → contains name_cmp new name ≡ (contains name_cmp names name || (path_eq (new_name step) (name ∷ []) && is_some (seen s (child p name))))

-- these are the names in a directory
abbrev pub AreNamesIn : State → Path → BTreeSet (List ℕ) → Type 0
AreNamesIn s p names = (name : List ℕ) → contains name_cmp names name ≡ is_some (seen s (child p name))

-- one of these steps has made the name
abbrev pub is_made : List Step → List ℕ → Bool
is_made [] name = false
is_made (step ∷ steps) name = path_eq (new_name step) (name ∷ []) || is_made steps name

-- ---- what a crash may leave

-- this is what a path stands for, and stood for before
abbrev pub IsPlace : Place → Left → Type 0
IsPlace place left = (left.now ≡ place.now) × (left.older.items ≡ place.older)
