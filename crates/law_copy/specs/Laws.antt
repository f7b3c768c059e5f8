-- Laws of edits.
use Rattle.std.specs.Prelude.{◌≡◌, ℕ, ◌≤◌, Bool, true, false, Option, None, List, [], ◌∷◌, ◌++◌, length, Some, is_some}
use Rattle.std.specs.List.{list_any}
use Rattle.svn_types.specs.Names.{Path, IsName}
use Rattle.svn_types.specs.Paths.{child}
use Rattle.svn_editor.specs.declared.call.Call.{Call}
use Rattle.svn_types.specs.declared.kind.Kind.TheVariants.{File, Directory}
use Rattle.svn_editor.specs.declared.call.Call.TheVariants.{OpenRoot, OpenDirectory}
use Rattle.svn_editor.specs.Calls.{Given, kind_eq, given_by, given, is_closed, closes, is_abort, is_of_kind, opens_entry}
use Rattle.svn_editor.specs.Order.{order_fault, IsLawful}
use Rattle.svn_types.specs.Limits.{path_limit}
use Rattle.svn_editor.specs.declared.mode.Mode.{Mode}
use Rattle.svn_editor.specs.declared.mode.Mode.TheVariants.{Update, SwitchTo}
use Rattle.svn_editor.specs.Steps.{steps_of}
use Rattle.svn_model.specs.declared.base_node.BaseNode.{BaseNode}
use Rattle.svn_model.specs.Nodes.{WorkingCopy, get_in, IsWorkingCopy, is_dir, is_not_present}
use Rattle.svn_model.specs.Effects.{joined_path, effect, after, refusal}
use Rattle.svn_model.specs.Said.{said_at}

abbrev pub calls_are_applied_in_turn : Type 0
calls_are_applied_in_turn =
    (mode : Mode) (w : WorkingCopy) (calls : List Call) (c : Call)
    → after mode w (calls ++ c ∷ []) ≡ effect mode calls c (after mode w calls)

-- each token has a path of its own, and nothing is said of a path that wasn't opened
pub record IsPathed (calls : List Call) : Type 0 where
  pub once : (t u : ℕ) (g h : Given) → given calls t ≡ Some g → given calls u ≡ Some h → g.path ≡ h.path → t ≡ u
  pub untouched : (p : Path) → list_any (opens_entry p) calls ≡ false → said_at p (steps_of calls) ≡ []
  pub parents : (t m : ℕ) (g : Given) → given calls t ≡ Some g → g.parent ≡ Some m → is_of_kind Directory (given calls m) ≡ true

abbrev pub tokens_have_paths : Type 0
tokens_have_paths = (calls : List Call) → IsLawful calls → IsPathed calls

-- ---- what is at open paths

-- at each directory that was given, closed or not, there is a directory
abbrev pub OpenDirectoriesStand : WorkingCopy → List Call → Type 0
OpenDirectoriesStand w calls = (t : ℕ) (g : Given) → given calls t ≡ Some g → kind_eq g.kind Directory ≡ true → is_dir (w g.path) ≡ true

-- an open, which the copy refuses where there is no directory
abbrev pub is_open_of : Call → Bool
is_open_of (OpenRoot base token) = true
is_open_of (OpenDirectory path parent base token) = true
is_open_of _ = false

-- the directory that the call opens is there
abbrev pub OpensStanding : WorkingCopy → Call → Type 0
OpensStanding w c = (g : Given) → given_by c ≡ Some g → is_open_of c ≡ true → kind_eq g.kind Directory ≡ true → is_dir (w g.path) ≡ true

abbrev pub directories_stay : Type 0
directories_stay =
    (mode : Mode) (w : WorkingCopy) (calls : List Call) (c : Call) → IsLawful calls → order_fault calls c ≡ None → is_abort c ≡ false
    → OpenDirectoriesStand w calls → OpensStanding w c → OpenDirectoriesStand (effect mode calls c w) (calls ++ c ∷ [])

-- what is at an open file's path stays until its close
abbrev pub files_stay : Type 0
files_stay =
    (mode : Mode) (w : WorkingCopy) (calls : List Call) (c : Call) → IsLawful calls → order_fault calls c ≡ None → is_abort c ≡ false
    → (t : ℕ) (g : Given) → given calls t ≡ Some g → g.kind ≡ File → is_closed calls t ≡ false → closes t c ≡ false
    → effect mode calls c w g.path ≡ w g.path

-- ---- the shape

-- the last name of the path is an allowed one
abbrev pub EndsNamed : Path → Type 0
EndsNamed p = (q : Path) (name : List ℕ) → p ≡ child q name → IsName name

-- so it is with the path that the call opens or adds
abbrev pub OpensNamed : Call → Type 0
OpensNamed c = (g : Given) → given_by c ≡ Some g → EndsNamed g.path

-- the close of an open file gives it the path under its parent's
abbrev pub is_joined_at_close : Mode → Option BaseNode → Bool
is_joined_at_close Update node = is_not_present node
is_joined_at_close (SwitchTo root) node = is_some node

-- and that has at most 64 names
abbrev pub OpenFilesFit : Mode → WorkingCopy → List Call → Type 0
OpenFilesFit mode w calls =
    (t : ℕ) (g : Given) → given calls t ≡ Some g → g.kind ≡ File → is_closed calls t ≡ false → is_joined_at_close mode (w g.path) ≡ true
    → length (joined_path w g.path) ≤ path_limit

-- a copy after these calls: the shape, and what is where they opened something
pub record IsShapedAfter (mode : Mode) (w : WorkingCopy) (calls : List Call) : Type 0 where
  pub shape : IsWorkingCopy w
  pub directories : OpenDirectoriesStand w calls
  pub files : OpenFilesFit mode w calls

-- one more call that isn't refused
abbrev pub a_call_keeps_the_shape : Type 0
a_call_keeps_the_shape =
    (checksum : List ℕ → List ℕ) (mode : Mode) (nodes : List (Path × BaseNode)) (calls : List Call) (c : Call) → IsLawful calls
    → refusal checksum mode calls c nodes ≡ None
    → OpensNamed c → IsShapedAfter mode (get_in nodes) calls → IsShapedAfter mode (effect mode calls c (get_in nodes)) (calls ++ c ∷ [])

-- the copy has a list of nodes by which the call isn't refused
pub record IsTaken (checksum : List ℕ → List ℕ) (mode : Mode) (earlier : List Call) (w : WorkingCopy) (c : Call) : Type 0 where
  pub nodes : List (Path × BaseNode)
  pub same : (p : Path) → get_in nodes p ≡ w p
  pub accepted : refusal checksum mode earlier c nodes ≡ None

abbrev pub AllTakenFrom : (List ℕ → List ℕ) → Mode → List Call → WorkingCopy → List Call → Type 0
AllTakenFrom checksum mode earlier w [] = Unit {0}
AllTakenFrom checksum mode earlier w (c ∷ calls) =
    IsTaken checksum mode earlier w c × OpensNamed c × AllTakenFrom checksum mode (earlier ++ c ∷ []) (effect mode earlier c w) calls

-- a whole list of calls, where none is refused
abbrev pub calls_keep_the_shape : Type 0
calls_keep_the_shape =
    (checksum : List ℕ → List ℕ) (mode : Mode) (w : WorkingCopy) (calls : List Call) → IsWorkingCopy w
    → AllTakenFrom checksum mode [] w calls → IsWorkingCopy (after mode w calls)
