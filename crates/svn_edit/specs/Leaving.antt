-- The pools of an edit after a refused call: the accepted calls say what they are, but that strings of the refused one may be after.
--     IsLeft calls c edit      the edit accepted these calls, refused c after them, and was not given up
--     PoolsAfter old nodes call answer new      what a call and its result make of the pools
use Rattle.std.specs.Prelude.{nat_eq, ◌≡◌, ◌≢◌, ℕ, ◌+◌, false, List, [], ◌∷◌, ◌++◌, Some, None, is_some, Result, OnErr, if◌then◌else◌}
use Rattle.std.specs.List.{list_any, flat_map}
use Rattle.std.specs.FinMap as map
use Rattle.svn_types.specs.Names.{Path}
use Rattle.svn_types.specs.PathKeys.{path_key}
use Rattle.svn_pool.specs.Pools.{Entry, Pools, pool_at, parent_of, strings_at}
use Rattle.svn_pool.specs.Ancestry.{IsBeneath}
use Rattle.svn_editor.specs.declared.call.Call.{Call}
use Rattle.svn_editor.specs.declared.call.Call.TheVariants.{AbortEdit, ChangeDirProp, ChangeFileProp, ApplyText}
use Rattle.svn_editor.specs.declared.fault.EditFault.{EditFault}
use Rattle.svn_editor.specs.Calls.{given, path_of, is_last}
use Rattle.svn_editor.specs.declared.mode.Mode.{Mode}
use Rattle.svn_editor.specs.Steps.{steps_of}
use Rattle.svn_model.specs.declared.base_node.BaseNode.{BaseNode}
use Rattle.svn_model.specs.Nodes.{WorkingCopy}
use Rattle.svn_model.specs.Said.{said_at}
use Rattle.svn_edit.specs.declared.baton.Baton.{Baton}
use Rattle.svn_edit.specs.declared.edit.Edit.{Edit}
use Rattle.svn_edit.specs.declared.pending.Pending.{Pending}
use Rattle.svn_edit.specs.Noted.{strings_of, strings_of_value}
use Rattle.svn_edit.specs.Applying.{Batons, batons_of, is_open, open_count, pool_above, IsRefused, OneIsLeft, StandsAfter}

-- ---- the pools and the batons of an edit that a call was refused to

-- the strings that a call brings to the pool of a token
abbrev pub call_strings : Call → ℕ → List (List ℕ)
call_strings (ChangeDirProp token name value) t = if nat_eq token t then name ∷ strings_of_value value else []
call_strings (ChangeFileProp token name value) t = if nat_eq token t then name ∷ strings_of_value value else []
call_strings (ApplyText token base_md5 text) t = if nat_eq token t then text ∷ [] else []
call_strings _ t = []

-- the pool of an open token: the path, what the accepted calls said, and of the refused call's strings the first few, or none
pub record HasPool (pools : Pools) (at : Batons) (calls : List Call) (refused : List (List ℕ)) (t : ℕ) (b : Baton) : Type 0 where
  pub path : b.path ≡ path_of calls t
  pub parent : parent_of (pool_at pools b.pool.0) ≡ Some (pool_above pools.root at (given calls t))
  pub begun : List (List ℕ)
  pub left : List (List ℕ)
  pub among : begun ++ left ≡ refused
  pub strings : strings_at pools b.pool.0
      ≡ (path_key (path_of calls t) ∷ flat_map strings_of (said_at (path_of calls t) (steps_of calls))) ++ begun

-- the batons are those of the open tokens, each with a pool of its own, and there is no other pool but that of the edit
pub record HoldsPools (pools : Pools) (at : Batons) (calls : List Call) (c : Call) : Type 0 where
  pub opened : (t : ℕ) → is_some (at t) ≡ is_open calls t
  pub each : (t : ℕ) (b : Baton) → at t ≡ Some b → HasPool pools at calls (call_strings c t) t b
  pub apart : (t u : ℕ) (b d : Baton) → at t ≡ Some b → at u ≡ Some d → b.pool.0 ≡ d.pool.0 → t ≡ u
  pub root : pool_at pools pools.root ≡ Some (record { parent = None; strings = [] })
  pub only : (s : ℕ) (e : Entry) → pool_at pools s ≡ Some e → s ≢ pools.root → (t : ℕ) × (b : Baton) × (at t ≡ Some b) × (b.pool.0 ≡ s)
  pub beneath : (s : ℕ) (e : Entry) → pool_at pools s ≡ Some e → s ≢ pools.root → IsBeneath (pool_at pools) pools.root s
  pub count : map.len pools.live ≡ open_count calls + 1

abbrev pub IsLeft : List Call → Call → Edit → Type 0
IsLeft calls c edit = IsRefused edit × HoldsPools edit.pending.pools (batons_of edit.pending) calls c

-- ---- one call

-- a call after the refusal: giving up leaves one pool, any other all of them
abbrev pub LeavesPools : Call → Edit → Edit → Type 0
LeavesPools AbortEdit old new = OneIsLeft new.pending
LeavesPools _ old new = new ≡ old

pub record PoolsAfter (mode : Mode) (old : Edit) (nodes : List (Path × BaseNode)) (call : Call) (answer : Result (Unit {0}) EditFault)
    (new : Edit) : Type 0 where
  pub first : OnErr answer ((w0 : WorkingCopy) (calls : List Call) → StandsAfter mode w0 old nodes calls
      → list_any is_last calls ≡ false → IsLeft calls call new)
  pub later : (calls : List Call) (c : Call) → IsLeft calls c old → LeavesPools call old new

-- ---- what a part of a refused call leaves

-- the same pools are live, with the same strings
pub record SamePools (old new : Pools) : Type 0 where
  pub pools : (s : ℕ) → pool_at new s ≡ pool_at old s
  pub root : new.root ≡ old.root
  pub count : map.len new.live ≡ map.len old.live

pub record KeepsPools (old new : Pending) : Type 0 where
  pub pools : SamePools old.pools new.pools
  pub batons : (t : ℕ) → batons_of new t ≡ batons_of old t

-- the first few of these strings were pushed to the pool of a baton
pub record BatonBegan (strings : List (List ℕ)) (b : Baton) (old : Pools) (d : Baton) (new : Pools) : Type 0 where
  pub path : d.path ≡ b.path
  pub same_pool : d.pool.0 ≡ b.pool.0
  pub begun : List (List ℕ)
  pub left : List (List ℕ)
  pub among : begun ++ left ≡ strings
  pub own : (e : Entry) → pool_at old b.pool.0 ≡ Some e
      → pool_at new b.pool.0 ≡ Some (record { parent = e.parent; strings = e.strings ++ begun })
  pub others : (s : ℕ) → s ≢ b.pool.0 → pool_at new s ≡ pool_at old s
  pub root : new.root ≡ old.root
  pub count : (e : Entry) → pool_at old b.pool.0 ≡ Some e → map.len new.live ≡ map.len old.live

-- the baton of a token did
pub record NoteBegan (t : ℕ) (b : Baton) (strings : List (List ℕ)) (old new : Pending) : Type 0 where
  pub baton : Baton
  pub began : BatonBegan strings b old.pools baton new.pools
  pub token : batons_of new t ≡ Some baton
  pub tokens : (u : ℕ) → u ≢ t → batons_of new u ≡ batons_of old u
