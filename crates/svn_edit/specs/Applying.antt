-- An applier with its copy, after a list of calls.
--     StandsAfter mode w0 edit nodes calls      the edit began with the copy w0, and took these calls, each in that mode
use Rattle.std.specs.Prelude.{◌≡◌, ◌≢◌, ℕ, ◌+◌, ◌<◌, Bool, true, false, ◌&&◌, not, List, [], ◌∷◌, ◌++◌, length, map, Option, Some, None}
use Rattle.std.specs.Prelude.{is_some, filter_map, Result, Ok, Err, get_or, count_by, if◌then◌else◌}
use Rattle.std.specs.List.{list_any, flat_map}
use Rattle.svn_serials.specs.Serials.{get}
use Rattle.std.specs.FinMap as map
use Rattle.svn_types.specs.declared.kind.Kind.{Kind}
use Rattle.svn_types.specs.declared.kind.Kind.TheVariants.{File, Directory}
use Rattle.svn_types.specs.Names.{Path}
use Rattle.svn_types.specs.PathKeys.{path_key}
use Rattle.svn_pool.specs.Pools.{Entry, Pools, pool_at, parent_of, strings_at}
use Rattle.svn_pool.specs.Ancestry.{IsBeneath}
use Rattle.svn_editor.specs.declared.call.Call.{Call}
use Rattle.svn_editor.specs.declared.fault.EditFault.{EditFault}
use Rattle.svn_editor.specs.declared.fault.EditFault.TheVariants.{Order}
use Rattle.svn_editor.specs.declared.fault.OrderFault.TheVariants.{Dead, Ended as TooLate}
use Rattle.svn_editor.specs.declared.call.Call.TheVariants.{AbortEdit}
use Rattle.svn_editor.specs.Order.{IsLawful, order_fault}
use Rattle.svn_edit.specs.declared.edit.Stage.{Stage}
use Rattle.svn_edit.specs.declared.opening.NewNode.{NewNode}
use Rattle.svn_editor.specs.Calls.{Given, given, given_by, all_given, is_closed, path_of, is_last}
use Rattle.svn_editor.specs.declared.mode.Mode.{Mode}
use Rattle.svn_editor.specs.Steps.{Action, steps_of, target_of}
use Rattle.svn_order.specs.StandsAfter as order
use Rattle.svn_model.specs.declared.base_node.BaseNode.{BaseNode}
use Rattle.svn_edit.specs.declared.baton.Baton.{Baton}
use Rattle.svn_edit.specs.declared.baton.Note.{Note}
use Rattle.svn_edit.specs.declared.baton.Note.TheVariants.{Text as NewText}
use Rattle.svn_edit.specs.declared.baton.NotedText.{NotedText}
use Rattle.svn_edit.specs.declared.edit.Edit.{Edit}
use Rattle.svn_edit.specs.declared.pending.Pending.{Pending}
use Rattle.svn_edit.specs.declared.edit.Stage.TheVariants.{Going, Refused, Ended}
use Rattle.svn_model.specs.Nodes.{WorkingCopy, get_in}
use Rattle.svn_types.specs.Props.{with_changes}
use Rattle.svn_model.specs.Effects.{after, change_in, text_in}
use Rattle.svn_model.specs.Said.{said_at}
use Rattle.svn_model.specs.Answering.{IsAnswer}
use Rattle.svn_nodes.specs.NodeTests.{IsSumOf, deep_fault, first_of}
use Rattle.svn_edit.specs.Noted.{note_of, strings_of}

-- what a node's repository path becomes when it is opened, by its old one: nothing where it keeps that, else a path that isn't too deep
abbrev pub MovesBy : (Path → Path) → Result (Option Path) EditFault → Type 0
MovesBy moved (Ok None) = (was : Path) → moved was ≡ was
MovesBy moved (Ok (Some p)) = ((was : Path) → moved was ≡ p) × (deep_fault p ≡ None)
MovesBy moved (Err e) = (was : Path) → IsAnswer (deep_fault (moved was)) e

-- what an added node is made of, for a path: its key, its baton's path, and the node
abbrev pub MakesNode : Path → Option EditFault → BaseNode → Result NewNode EditFault → Type 0
MakesNode p fault node (Ok n) = (fault ≡ None) × (n.at ≡ p) × (n.opened ≡ p) × (n.node ≡ node)
MakesNode p fault node (Err e) = IsAnswer fault e

-- ---- batons

abbrev pub Batons : Type 0
Batons = ℕ → Option Baton

-- the batons by their tokens
abbrev pub BatonMap : Type 0
BatonMap = List (ℕ × Baton)

-- the token was given, and was not closed
abbrev pub is_open : List Call → ℕ → Bool
is_open calls t = is_some (given calls t) && not (is_closed calls t)

-- the path of the file or directory that is open under a token
abbrev pub path_open : List Call → ℕ → Option Path
path_open calls t = if is_open calls t then Some (path_of calls t) else None

-- how many are
abbrev pub open_count : List Call → ℕ
open_count calls = count_by (λ g. not (is_closed calls g.token)) (all_given calls)

abbrev pub pool_or : ℕ → Option Baton → ℕ
pool_or root None = root
pool_or root (Some b) = b.pool.0

-- the pool below which a token's is made: for a directory that of its parent, else that of the edit
abbrev pub pool_of_parent : ℕ → Batons → Option ℕ → ℕ
pool_of_parent root at None = root
pool_of_parent root at (Some m) = pool_or root (at m)

abbrev pub pool_of_kind : ℕ → Batons → Option ℕ → Kind → ℕ
pool_of_kind root at above File = root
pool_of_kind root at above Directory = pool_of_parent root at above

abbrev pub pool_above : ℕ → Batons → Option Given → ℕ
pool_above root at None = root
pool_above root at (Some g) = pool_of_kind root at g.parent g.kind

abbrev pub pool_entry : ℕ → List (List ℕ) → Entry
pool_entry above strings = record { parent = Some above; strings = strings }

-- ---- where the text is among the strings of a pool

-- the text, if there is one, is the string at that place
abbrev pub IsTextAt : Option NotedText → List (List ℕ) → Option (List ℕ) → Type 0
IsTextAt None strings text = text ≡ None
IsTextAt (Some t) strings text = (t.place < length strings) × (text ≡ Some (get_or strings t.place []))

-- what is noted of it once a string with this note was pushed to that place: of several texts the first
abbrev pub NotesText : Note → ℕ → Option NotedText → Option NotedText → Type 0
NotesText NewText place None None = ⊥
NotesText NewText place None (Some t) = t.place ≡ place
NotesText note place old new = new ≡ old

-- the baton of a token, and its pool
pub record IsBaton (pools : Pools) (at : Batons) (calls : List Call) (t : ℕ) (b : Baton) : Type 0 where
  pub path : b.path ≡ path_of calls t
  pub notes : b.notes.items ≡ map note_of (said_at (path_of calls t) (steps_of calls))
  pub pool : pool_at pools b.pool.0
      ≡ Some (pool_entry (pool_above pools.root at (given calls t)) (path_key (path_of calls t) ∷ flat_map strings_of
      (said_at (path_of calls t) (steps_of calls))))
  pub text : IsTextAt b.text (path_key (path_of calls t) ∷ flat_map strings_of (said_at (path_of calls t) (steps_of calls)))
      (first_of (filter_map text_in (said_at (path_of calls t) (steps_of calls))))

-- the batons are those of the open tokens, each with a pool of its own, and there is no other pool but that of the edit
pub record HoldsBatons (pools : Pools) (at : Batons) (calls : List Call) : Type 0 where
  pub opened : (t : ℕ) → is_some (at t) ≡ is_open calls t
  pub each : (t : ℕ) (b : Baton) → at t ≡ Some b → IsBaton pools at calls t b
  pub apart : (t u : ℕ) (b c : Baton) → at t ≡ Some b → at u ≡ Some c → b.pool.0 ≡ c.pool.0 → t ≡ u
  pub root : pool_at pools pools.root ≡ Some (record { parent = None; strings = [] })
  pub only : (s : ℕ) (e : Entry) → pool_at pools s ≡ Some e → s ≢ pools.root → (t : ℕ) × (b : Baton) × (at t ≡ Some b) × (b.pool.0 ≡ s)
  pub beneath : (s : ℕ) (e : Entry) → pool_at pools s ≡ Some e → s ≢ pools.root → IsBeneath (pool_at pools) pools.root s
  pub count : map.len pools.live ≡ open_count calls + 1

-- no pool lies below it
abbrev pub IsLeaf : Pools → ℕ → Type 0
IsLeaf pools s = (q : ℕ) → parent_of (pool_at pools q) ≢ Some s

-- ---- one baton, its pool, and what is said there

-- a baton of a path, with a new pool
pub record BatonBegun (beneath : ℕ) (p : Path) (old : Pools) (b : Baton) (new : Pools) : Type 0 where
  pub path : b.path ≡ p
  pub notes : b.notes.items ≡ []
  pub text : b.text ≡ None
  pub fresh : pool_at old b.pool.0 ≡ None
  pub made : pool_at new b.pool.0 ≡ Some (pool_entry beneath (path_key p ∷ []))
  pub others : (s : ℕ) → s ≢ b.pool.0 → pool_at new s ≡ pool_at old s
  pub root : new.root ≡ old.root
  pub count : map.len new.live ≡ map.len old.live + 1
  pub apart : b.pool.0 ≢ old.root
  pub leaf : IsLeaf new b.pool.0

-- a note more, and its strings
pub record BatonSaid (note : Note) (strings : List (List ℕ)) (b : Baton) (old : Pools) (d : Baton) (new : Pools) : Type 0 where
  pub path : d.path ≡ b.path
  pub same_pool : d.pool.0 ≡ b.pool.0
  pub notes : d.notes.items ≡ b.notes.items ++ note ∷ []
  pub text : NotesText note (length (strings_at old b.pool.0)) b.text d.text
  pub base : d.base ≡ b.base
  pub own : pool_at new b.pool.0 ≡ Some (record { parent = parent_of (pool_at old b.pool.0); strings = strings_at old b.pool.0 ++ strings })
  pub others : (s : ℕ) → s ≢ b.pool.0 → pool_at new s ≡ pool_at old s
  pub root : new.root ≡ old.root
  pub count : (e : Entry) → pool_at old b.pool.0 ≡ Some e → map.len new.live ≡ map.len old.live

-- notes and strings are those of the actions
pub record Says (b : Baton) (pools : Pools) (said : List Action) : Type 0 where
  pub notes : b.notes.items ≡ map note_of said
  pub first : List ℕ
  pub strings : strings_at pools b.pool.0 ≡ first ∷ flat_map strings_of said
  pub text : IsTextAt b.text (first ∷ flat_map strings_of said) (first_of (filter_map text_in said))

abbrev pub Properties : Type 0
Properties = List (List ℕ × List ℕ)

-- the notes and strings that are left are those of some actions, and these are left to be done
pub record StillSaid (before now : Properties) (said : List Action) (notes : List Note) (strings : List (List ℕ)) : Type 0 where
  pub left : List Action
  pub notes_are : notes ≡ map note_of left
  pub strings_are : strings ≡ flat_map strings_of left
  pub props_are : with_changes before (filter_map change_in said) ≡ with_changes now (filter_map change_in left)

-- ---- one baton more, one that changed, one less

pub record BatonMade (beneath : ℕ) (p : Path) (t : ℕ) (pools : Pools) (at : Batons) (pools2 : Pools) (at2 : Batons) : Type 0 where
  pub baton : Baton
  pub begun : BatonBegun beneath p pools baton pools2
  pub token : at2 t ≡ Some baton
  pub tokens : (u : ℕ) → u ≢ t → at2 u ≡ at u

pub record BatonNoted (t : ℕ) (b : Baton) (note : Note) (strings : List (List ℕ)) (pools : Pools) (at : Batons) (pools2 : Pools)
    (at2 : Batons) : Type 0 where
  pub baton : Baton
  pub said : BatonSaid note strings b pools baton pools2
  pub token : at2 t ≡ Some baton
  pub tokens : (u : ℕ) → u ≢ t → at2 u ≡ at u

pub record PoolGone (s : ℕ) (old new : Pools) : Type 0 where
  pub gone : pool_at new s ≡ None
  pub others : (q : ℕ) → q ≢ s → pool_at new q ≡ pool_at old q
  pub root : new.root ≡ old.root
  pub count : map.len old.live ≡ map.len new.live + 1

pub record BatonGone (t : ℕ) (b : Baton) (pools : Pools) (at : Batons) (pools2 : Pools) (at2 : Batons) : Type 0 where
  pub pool : PoolGone b.pool.0 pools pools2
  pub token : at2 t ≡ None
  pub tokens : (u : ℕ) → u ≢ t → at2 u ≡ at u

-- ---- one call

-- what isn't of the batons is as before
abbrev pub KeepsTarget : Pending → Pending → Type 0
KeepsTarget old new = new.target ≡ old.target

abbrev pub batons_of : Pending → Batons
batons_of edit = get edit.batons

-- a token's baton goes, and its pool, where none lies below that
abbrev pub LetsGo : ℕ → Pending → Pending → Type 0
LetsGo t old new =
    (b : Baton) (e : Entry) → batons_of old t ≡ Some b → pool_at old.pools b.pool.0 ≡ Some e → IsLeaf old.pools b.pool.0
    → b.pool.0 ≢ old.pools.root → BatonGone t b old.pools (batons_of old) new.pools (batons_of new)

abbrev pub MakesBaton : ℕ → Path → ℕ → Pending → Pending → Type 0
MakesBaton beneath p t old new = BatonMade beneath p t old.pools (batons_of old) new.pools (batons_of new)

-- the result is the fault, or there is none and the copy is as the effect says
abbrev pub Applied : Option EditFault → WorkingCopy → List (Path × BaseNode) → Result (Unit {0}) EditFault → List (Path × BaseNode) → Type 0
Applied fault w nodes (Ok done) nodes2 = (fault ≡ None) × ((p : Path) → get_in nodes2 p ≡ w p)
Applied fault w nodes (Err e) nodes2 = IsAnswer fault e × (nodes2 ≡ nodes)

-- ---- what is noted of the text that an open file has in the copy

-- what is noted at each file is the checksum of the text at its path, or nothing is
abbrev pub IsNoted : List Call → Batons → List (Path × BaseNode) → Type 0
IsNoted calls at nodes =
    (t : ℕ) (b : Baton) (g : Given) → at t ≡ Some b → given calls t ≡ Some g → g.kind ≡ File → IsSumOf b.base nodes b.path

-- a baton that isn't that of the token which a call gives was there before, with its path and what is noted
abbrev pub KeepsBases : Call → Batons → Batons → Type 0
KeepsBases c at at2 =
    (u : ℕ) (b : Baton) → at2 u ≡ Some b → ((g : Given) → given_by c ≡ Some g → g.token ≢ u)
    → (d : Baton) × (at u ≡ Some d) × (d.path ≡ b.path) × (d.base ≡ b.base)

-- and what is noted at a file that it opens is so too
abbrev pub OpensBase : Call → Batons → List (Path × BaseNode) → Type 0
OpensBase c at nodes =
    (g : Given) (b : Baton) → given_by c ≡ Some g → g.kind ≡ File → at g.token ≡ Some b → IsSumOf b.base nodes g.path

-- ---- the whole

pub record Holds (edit : Pending) (calls : List Call) : Type 0 where
  pub target : edit.target ≡ target_of calls
  pub batons : HoldsBatons edit.pools (batons_of edit) calls

-- only the first pool is live
abbrev pub OneIsLeft : Pending → Type 0
OneIsLeft edit = map.len edit.pools.live ≡ 1

pub record StandsAfter (mode : Mode) (w0 : WorkingCopy) (edit : Edit) (nodes : List (Path × BaseNode)) (calls : List Call) : Type 0 where
  pub order : order.StandsAfter edit.order calls
  pub copy : (p : Path) → get_in nodes p ≡ after mode w0 calls p
  pub stage : list_any is_last calls ≡ false → edit.stage ≡ Going
  pub going : list_any is_last calls ≡ false → Holds edit.pending calls
  pub ended : list_any is_last calls ≡ true → edit.stage ≡ Ended
  pub left : list_any is_last calls ≡ true → OneIsLeft edit.pending
  pub noted : list_any is_last calls ≡ false → IsNoted calls (batons_of edit.pending) nodes

-- the call was taken, and the stage is not yet noted
pub record TakenInOrder (mode : Mode) (w0 : WorkingCopy) (edit : Edit) (nodes : List (Path × BaseNode)) (calls : List Call)
    (c : Call) : Type 0 where
  pub order : order.StandsAfter edit.order (calls ++ c ∷ [])
  pub copy : (p : Path) → get_in nodes p ≡ after mode w0 (calls ++ c ∷ []) p
  pub stage : is_last c ≡ false → edit.stage ≡ Going
  pub holds : is_last c ≡ false → Holds edit.pending (calls ++ c ∷ [])
  pub left : is_last c ≡ true → OneIsLeft edit.pending
  pub noted : is_last c ≡ false → IsNoted (calls ++ c ∷ []) (batons_of edit.pending) nodes
  pub earlier : list_any is_last calls ≡ false

-- the calls so far are in order, and so is the next
pub record IsNext (edit : Pending) (calls : List Call) (c : Call) : Type 0 where
  pub holds : Holds edit calls
  pub lawful : IsLawful calls
  pub in_order : order_fault calls c ≡ None

abbrev pub HasEnded : Edit → Type 0
HasEnded edit = edit.stage ≡ Ended

abbrev pub IsRefused : Edit → Type 0
IsRefused edit = edit.stage ≡ Refused

-- after a refusal only `AbortEdit` is left
abbrev pub StaysRefused : Call → Result (Unit {0}) EditFault → Edit → Type 0
StaysRefused AbortEdit answer new = (answer ≡ Ok tt) × HasEnded new
StaysRefused _ answer new = (answer ≡ Err (Order Dead)) × IsRefused new

-- after the end
abbrev pub StaysEnded : Edit → Result (Unit {0}) EditFault → Edit → Type 0
StaysEnded old answer new = (answer ≡ Err (Order TooLate)) × (new ≡ old)

abbrev pub LeavesRefused : Stage → Result (Unit {0}) EditFault → Edit → Type 0
LeavesRefused Going (Err e) new = IsRefused new
LeavesRefused _ _ new = Unit {0}

-- ---- how many pools are live

-- one, and one for each file or directory that is open; none is after the last call
abbrev pub live_count : List Call → ℕ
live_count calls = if list_any is_last calls then 1 else open_count calls + 1
