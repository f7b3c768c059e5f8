-- What an order check holds after a list of calls that are in order.
--     open_directories calls      the directories that are open, in the order in which they were opened
--     StandsAfter check calls      the check was given these calls, and accepted each
--     IsDead check, HasEnded check      a call was refused; the edit was ended or given up
use Rattle.std.specs.Prelude.{◌≡◌, ℕ, true, false, List, [], ◌∷◌, length, map, filter, Some, slice_get, Result, Ok, Err}
use Rattle.std.specs.List.{list_any}
use Rattle.svn_types.specs.declared.kind.Kind.{Kind}
use Rattle.svn_types.specs.Names.{Path}
use Rattle.svn_types.specs.Paths.{child}
use Rattle.svn_editor.specs.declared.call.Call.{Call}
use Rattle.svn_editor.specs.declared.call.Call.TheVariants.{AbortEdit}
use Rattle.svn_editor.specs.declared.fault.OrderFault.{OrderFault}
use Rattle.svn_editor.specs.declared.fault.OrderFault.TheVariants as fault
use Rattle.svn_order.specs.declared.directories.OpenedDirectory.{OpenedDirectory}
use Rattle.svn_order.specs.declared.tokens.GivenToken.{GivenToken}
use Rattle.svn_order.specs.declared.order.OrderCheck.{OrderCheck}
use Rattle.svn_order.specs.declared.order.Stage.{Stage}
use Rattle.svn_order.specs.declared.order.Stage.TheVariants.{Before, During, Ended, Dead}
use Rattle.svn_editor.specs.Calls.{Given, kind_eq, is_last, opens_entry, deletes, applies_text, opens_subdirectory, all_given, given}
use Rattle.svn_editor.specs.Calls.{is_closed, is_of_kind, is_open_directory, changed_late, current_file}
use Rattle.svn_order.specs.NameSets.{has_name}
use Rattle.svn_order.specs.Directories.{shown}
use Rattle.svn_editor.specs.Order.{IsLawful}

abbrev pub open_directories : List Call → List Given
open_directories calls = filter (is_open_directory calls) (all_given calls)

abbrev pub token_and_path : Given → ℕ × Path
token_and_path g = (g.token, g.path)

abbrev pub stage_after : List Call → Stage
stage_after [] = Before
stage_after (c ∷ calls) = During

pub record IsTokenOf (calls : List Call) (t : ℕ) (n : GivenToken) : Type 0 where
  pub kind : (k : Kind) → is_of_kind k (given calls t) ≡ kind_eq n.kind k
  pub closed : is_closed calls t ≡ n.is_closed
  pub text : list_any (applies_text t) calls ≡ n.has_text

pub record IsDirectoryOf (calls : List Call) (d : OpenedDirectory) : Type 0 where
  pub subdirectory : list_any (opens_subdirectory d.token) calls ≡ d.has_subdirectory
  pub late : changed_late calls d.token ≡ d.is_changed_late
  pub opened : (n : List ℕ) → list_any (opens_entry (child d.path n)) calls ≡ has_name d.opened n
  pub deleted : (n : List ℕ) → list_any (deletes (child d.path n)) calls ≡ has_name d.deleted n

-- each part of the check says its part of the calls
pub record Holds (check : OrderCheck) (calls : List Call) : Type 0 where
  pub stage : check.stage ≡ stage_after calls
  pub count : length check.tokens.items ≡ length (all_given calls)
  pub tokens : (t : ℕ) (n : GivenToken) → slice_get check.tokens.items t ≡ Some n → IsTokenOf calls t n
  pub nesting : map shown check.directories.items ≡ map token_and_path (open_directories calls)
  pub directories : (i : ℕ) (d : OpenedDirectory) → slice_get check.directories.items i ≡ Some d → IsDirectoryOf calls d
  pub current : check.current ≡ current_file calls

abbrev pub HasEnded : OrderCheck → Type 0
HasEnded check = check.stage ≡ Ended

abbrev pub IsDead : OrderCheck → Type 0
IsDead check = check.stage ≡ Dead

pub record StandsAfter (check : OrderCheck) (calls : List Call) : Type 0 where
  pub lawful : IsLawful calls
  pub going : list_any is_last calls ≡ false → Holds check calls
  pub ended : list_any is_last calls ≡ true → HasEnded check

-- ---- results that are the same whatever came before

-- after the end
abbrev pub StaysEnded : OrderCheck → Result (Unit {0}) OrderFault → OrderCheck → Type 0
StaysEnded old answer new = (answer ≡ Err fault.Ended) × (new ≡ old)

-- after a refusal giving up alone is left
abbrev pub StaysDead : Call → Result (Unit {0}) OrderFault → OrderCheck → Type 0
StaysDead AbortEdit answer new = (answer ≡ Ok tt) × HasEnded new
StaysDead _ answer new = (answer ≡ Err fault.Dead) × IsDead new

-- what a result leaves where it is a refusal: nothing is in order any more, unless the edit has ended
abbrev pub LeavesDead : Result (Unit {0}) OrderFault → OrderCheck → Type 0
LeavesDead (Ok done) new = Unit {0}
LeavesDead (Err fault.Ended) new = Unit {0}
LeavesDead (Err _) new = IsDead new
