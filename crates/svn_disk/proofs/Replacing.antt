-- The parts of a checkout and of a change, and what a crash during each leaves: until the folder has its name, while nodes are placed, and while the
-- database is replaced.
use Rattle.std.proofs.Common.{◌≡◌, Bool, true, false, ◌&&◌, inl, List, [], ◌∷◌, ◌++◌, refl, sym, ◌∙◌, ap, subst}
use Rattle.std.specs.Prelude.{ℕ, codes, None, is_some, Result, Ok, Err, OnOk}
use Rattle.std.specs.List.{list_all}
use Rattle.svn_types.specs.Names.{Path}
use Rattle.svn_types.specs.Paths.{is_within}
use Rattle.svn_types.proofs.NameLemmas.{Name}
use Rattle.svn_model.specs.declared.base_node.BaseNode.{BaseNode}
use Rattle.svn_wcrows.specs.Copies.{StandsFor}
use Rattle.svn_folder.specs.declared.entry.Mode.{Mode}
use Rattle.svn_folder.specs.declared.entry.Entry.{Entry}
use Rattle.svn_folder.specs.declared.entry.Entry.TheVariants.{File}
use Rattle.svn_folder.specs.declared.step.Step.{Step}
use Rattle.svn_folder.specs.declared.step.Step.TheVariants.{Make, SyncFile, SyncDirectory, Rename, RenameDirectory, RemoveFile}
use Rattle.svn_folder.specs.States.{Seen, State, seen}
use Rattle.svn_folder.specs.Steps.{run}
use Rattle.svn_folder.specs.Crashes.{RunMayLeave}
use Rattle.svn_folder.specs.Syncing.{IsSynced}
use Rattle.svn_folder.specs.Pasts.{Past}
use Rattle.svn_folder.specs.Files.{is_sync}
use Rattle.svn_folder.proofs.Settled.{on_disk}
use Rattle.svn_disk.specs.Goes.{IsAlways, Keeps, Stops, Goes, Took, Missed}
use Rattle.svn_disk.specs.Places.{is_inside, is_temporary, is_placing, is_node, temporary_place, new_database_place, database_place, text_place}
use Rattle.svn_disk.specs.Crashes.{EachText, IsTextIn, IsTextOn, IsWhole, IsNoneOrWhole, IsOneOf, IsFree, IsReady, IsSafe, IsBoth, IsSet, Leads, Breaks, Runs}
use Rattle.svn_disk.proofs.Going.{one_each, stops_none}
use Rattle.svn_disk.proofs.Moving.{same_name}
use Rattle.svn_disk.proofs.Running.{keeps_leads, stops_breaks, took_leads, missed_breaks, breaks_none, breaks_there, leads_along, breaks_along, leads_known}
use Rattle.svn_disk.proofs.Placing.{node_outside}
use Rattle.svn_disk.proofs.Whole.{each_text, safe_left, both_apart, inside_leads, inside_breaks, ready_named, IsMade, IsPut, made_there, set_there, put_there, put_is_named}
use Rattle.svn_disk.proofs.Beside.{beside_safe, beside_both, beside_leads, beside_breaks, placing_beside, temporary_beside, sync_beside}

abbrev svn : Name
svn = codes ".svn"

-- ---- where the database is

module _ (n : Name) (p : Path) (at : p ≡ new_database_place n) where
  new_inside : is_within (n ∷ []) p ≡ true
  new_inside = ap (is_within (n ∷ [])) at ∙ ap (λ b. b && true) (same_name n)

  pub removes_inside : list_all (is_inside n) (RemoveFile p ∷ []) ≡ true
  removes_inside = one_each (is_inside n) (RemoveFile p) new_inside

  pub makes_inside : (e : Entry) → list_all (is_inside n) (Make p e None ∷ []) ≡ true
  makes_inside e = one_each (is_inside n) (Make p e None) new_inside

  pub renames_inside : (q : Path) → q ≡ database_place n → list_all (is_inside n) (Rename p q ∷ []) ≡ true
  renames_inside q to =
      one_each (is_inside n) (Rename p q) (ap (λ b. b && is_within (n ∷ []) q) new_inside ∙ ap (is_within (n ∷ [])) to ∙ ap (λ b. b && true) (same_name n))

-- ---- until the folder has its name

module _ (nodes : List (Path × BaseNode)) (n : Name) (is : n ≡ codes ".svn-new") (old new : Past) where
  pub making_leads : Keeps (is_inside n) old new → IsAlways IsSynced new → IsAlways (λ s. IsWhole n nodes (seen s)) new
      → Leads IsFree (IsNoneOrWhole nodes) (IsReady (codes ".svn-new") nodes) old new
  making_leads keeps synced whole =
      inside_leads (codes ".svn-new") nodes refl old new (subst (λ (m : Name). Keeps (is_inside m) old new) is keeps) synced
      (subst (λ (m : Name). IsAlways (λ s. IsWhole m nodes (seen s)) new) is whole)

  pub making_breaks : Stops (is_inside n) old new → Breaks IsFree (IsNoneOrWhole nodes) old new
  making_breaks stops = inside_breaks (codes ".svn-new") nodes refl old new (subst (λ (m : Name). Stops (is_inside m) old new) is stops)

module _ (nodes : List (Path × BaseNode)) (old new : Past) where
  abbrev naming : Step
  naming = RenameDirectory (codes ".svn-new") (codes ".svn")

  pub naming_leads : Took naming old new → Leads (IsReady (codes ".svn-new") nodes) (IsNoneOrWhole nodes) (IsSafe svn nodes) old new
  naming_leads took =
      took_leads (IsReady (codes ".svn-new") nodes) (IsNoneOrWhole nodes) (IsSafe svn nodes) naming old new (ready_named (codes ".svn-new") nodes refl) took

  pub naming_breaks : Missed naming old new → Breaks (IsReady (codes ".svn-new") nodes) (IsNoneOrWhole nodes) old new
  naming_breaks missed =
      missed_breaks (IsReady (codes ".svn-new") nodes) (IsNoneOrWhole nodes) (IsSafe svn nodes) naming old new
      (λ s ready left may. (ready_named (codes ".svn-new") nodes refl s ready).1 left may) missed

-- ---- nodes are placed

module _ (copy nodes : List (Path × BaseNode)) (n : Name) (is : n ≡ codes ".svn") (old new : Past) where
  placed : (s : State) (more : List Step) → list_all (is_placing svn (is_node copy)) more ≡ true → IsSafe svn nodes s
      → IsSafe svn nodes (run s more) × ((left : Seen) → RunMayLeave s more left → IsWhole svn nodes left)
  placed = beside_safe svn (is_placing svn (is_node copy)) (placing_beside (is_node copy) (node_outside copy)) nodes

  pub placing_leads : Keeps (is_placing n (is_node copy)) old new → Leads (IsSafe svn nodes) (IsWhole svn nodes) (IsSafe svn nodes) old new
  placing_leads keeps =
      keeps_leads (IsSafe svn nodes) (IsWhole svn nodes) (IsSafe svn nodes) (is_placing svn (is_node copy)) old new placed
      (subst (λ (m : Name). Keeps (is_placing m (is_node copy)) old new) is keeps)

  pub placing_breaks : Stops (is_placing n (is_node copy)) old new → Breaks (IsSafe svn nodes) (IsWhole svn nodes) old new
  placing_breaks stops =
      stops_breaks (IsSafe svn nodes) (IsWhole svn nodes) (IsSafe svn nodes) (is_placing svn (is_node copy)) old new
      (λ s more each safe left may. (placed s more each safe).1 left may) (subst (λ (m : Name). Stops (is_placing m (is_node copy)) old new) is stops)

-- ---- all is on the disk, and the texts were looked at

module _ (one two : List (Path × BaseNode)) where
  -- they are there if those of the old copy are
  abbrev pub IsLookedAt : State → Type 0
  IsLookedAt s = EachText (IsTextIn svn (seen s)) one → EachText (IsTextIn svn (seen s)) two

  looked_both : (s : State) → IsSafe svn one s × (IsSynced s × IsLookedAt s) → IsBoth one two s
  looked_both s (safe, (synced, looked)) = record {
    safe = safe;
    texts = each_text (IsTextIn svn (seen s)) (IsTextOn svn s)
        (λ t is. (is, on_disk s synced (text_place svn t) (synced.inside (text_place svn t) (ap is_some is.is_file)))) two
        (looked (each_text (IsTextOn svn s) (IsTextIn svn (seen s)) (λ t on. on.0) one safe.texts));
  }

  pub settled_leads : (old new : Past) → Keeps is_sync old new → IsAlways IsSynced new → IsAlways IsLookedAt new → Leads (IsSafe svn one) (IsWhole svn one) (IsBoth one two) old new
  settled_leads old new keeps synced looked =
      leads_along (λ s safe. safe) (λ left whole. whole) looked_both
      (leads_known (λ s. IsSynced s × IsLookedAt s) (IsSafe svn one) (IsSafe svn one) (IsWhole svn one) old new
      (λ s steps is. (synced s steps is, looked s steps is)) (beside_leads svn is_sync (sync_beside svn) one old new keeps))

  pub settled_runs : {T : Type 0} → {E : Type 0} → {X : Type 0} → (old new : Past) (result : Result T E) → Keeps is_sync old new → IsAlways IsSynced new
      → (X → IsAlways IsLookedAt new) → OnOk result X → Runs (IsSafe svn one) (IsWhole svn one) (IsBoth one two) old result new
  settled_runs old new (Ok value) keeps synced looked x = (settled_leads old new keeps synced (looked x), tt)
  settled_runs old new (Err fault) keeps synced looked x = (tt, breaks_there (beside_leads svn is_sync (sync_beside svn) one old new keeps))

pub syncs_breaks : (nodes : List (Path × BaseNode)) (old new : Past) → Stops is_sync old new → Breaks (IsSafe svn nodes) (IsWhole svn nodes) old new
syncs_breaks nodes old new stops = beside_breaks svn is_sync (sync_beside svn) nodes old new stops

-- ---- the database is replaced

module _ (one two : List (Path × BaseNode)) (p : Path) (at : p ≡ new_database_place svn) (old new : Past) where
  abbrev Left : Seen → Type 0
  Left = IsOneOf one two

  removed : (s : State) (more : List Step) → list_all (is_temporary svn) more ≡ true → IsBoth one two s
      → IsBoth one two (run s more) × ((left : Seen) → RunMayLeave s more left → Left left)
  removed s more each both =
      let facts = beside_both (is_temporary svn) (temporary_beside svn) one two s more each both in (facts.0, λ left may. inl (facts.1 left may))

  removes : list_all (is_temporary svn) (RemoveFile p ∷ []) ≡ true
  removes = one_each (is_temporary svn) (RemoveFile p) (ap (is_within (temporary_place svn)) at)

  pub removing_leads : ((P : Step → Bool) → list_all P (RemoveFile p ∷ []) ≡ true → Keeps P old new) → Leads (IsBoth one two) Left (IsBoth one two) old new
  removing_leads does =
      keeps_leads (IsBoth one two) Left (IsBoth one two) (is_temporary svn) old new removed (does (is_temporary svn) removes)

  pub removing_breaks : ((P : Step → Bool) → list_all P (RemoveFile p ∷ []) ≡ true → Stops P old new) → Breaks (IsBoth one two) Left old new
  removing_breaks does =
      stops_breaks (IsBoth one two) Left (IsBoth one two) (is_temporary svn) old new (λ s more each both left may. (removed s more each both).1 left may)
      (does (is_temporary svn) removes)

  module _ (bytes : List ℕ) (mode : Mode) (stands : StandsFor two bytes) where
    pub made_leads : Took (Make p (File bytes mode) None) old new → Leads (IsBoth one two) Left (IsMade one two) old new
    made_leads took =
        took_leads (IsBoth one two) Left (IsMade one two) (Make (new_database_place svn) (File bytes mode) None) old new (made_there one two bytes mode stands)
        (subst (λ (q : Path). Took (Make q (File bytes mode) None) old new) at took)

    pub made_breaks : Missed (Make p (File bytes mode) None) old new → Breaks (IsBoth one two) Left old new
    made_breaks missed =
        missed_breaks (IsBoth one two) Left (IsMade one two) (Make (new_database_place svn) (File bytes mode) None) old new
        (λ s both left may. (made_there one two bytes mode stands s both).1 left may)
        (subst (λ (q : Path). Missed (Make q (File bytes mode) None) old new) at missed)

  pub set_leads : Took (SyncFile p) old new → Leads (IsMade one two) Left (IsSet one two) old new
  set_leads took =
      took_leads (IsMade one two) Left (IsSet one two) (SyncFile (new_database_place svn)) old new (set_there one two)
      (subst (λ (q : Path). Took (SyncFile q) old new) at took)

  pub set_breaks : Missed (SyncFile p) old new → Breaks (IsMade one two) Left old new
  set_breaks missed =
      missed_breaks (IsMade one two) Left (IsSet one two) (SyncFile (new_database_place svn)) old new (λ s is left may. (set_there one two s is).1 left may)
      (subst (λ (q : Path). Missed (SyncFile q) old new) at missed)

  module _ (r : Path) (to : r ≡ database_place svn) where
    pub put_leads : Took (Rename p r) old new → Leads (IsSet one two) Left (IsPut one two) old new
    put_leads took =
        took_leads (IsSet one two) Left (IsPut one two) (Rename (new_database_place svn) (database_place svn)) old new (put_there one two)
        (subst (λ (q : Path). Took (Rename (new_database_place svn) q) old new) to (subst (λ (q : Path). Took (Rename q r) old new) at took))

    pub put_breaks : Missed (Rename p r) old new → Breaks (IsSet one two) Left old new
    put_breaks missed =
        missed_breaks (IsSet one two) Left (IsPut one two) (Rename (new_database_place svn) (database_place svn)) old new
        (λ s is left may. (put_there one two s is).1 left may)
        (subst (λ (q : Path). Missed (Rename (new_database_place svn) q) old new) to (subst (λ (q : Path). Missed (Rename q r) old new) at missed))

module _ (one two : List (Path × BaseNode)) (d : Path) (at : d ≡ svn ∷ []) (old new : Past) where
  pub last_leads : Took (SyncDirectory d) old new → Leads (IsPut one two) (IsOneOf one two) (IsSafe svn two) old new
  last_leads took =
      took_leads (IsPut one two) (IsOneOf one two) (IsSafe svn two) (SyncDirectory (svn ∷ [])) old new (put_is_named one two)
      (subst (λ (q : Path). Took (SyncDirectory q) old new) at took)

  pub last_breaks : Missed (SyncDirectory d) old new → Breaks (IsPut one two) (IsOneOf one two) old new
  last_breaks missed =
      missed_breaks (IsPut one two) (IsOneOf one two) (IsSafe svn two) (SyncDirectory (svn ∷ [])) old new
      (λ s is left may. (put_is_named one two s is).1 left may) (subst (λ (q : Path). Missed (SyncDirectory q) old new) at missed)

-- ---- nothing is done

pub free_none : (nodes : List (Path × BaseNode)) (now : Past) → Breaks IsFree (IsNoneOrWhole nodes) now now
free_none nodes now = making_breaks nodes (codes ".svn-new") refl now now (stops_none (is_inside (codes ".svn-new")) now)

pub safe_none : (nodes : List (Path × BaseNode)) (now : Past) → Breaks (IsSafe svn nodes) (IsWhole svn nodes) now now
safe_none nodes now = breaks_none (IsSafe svn nodes) (IsWhole svn nodes) (IsSafe svn nodes) (safe_left svn nodes) now

pub one_none : (one two : List (Path × BaseNode)) (now : Past) → Breaks (IsSafe svn one) (IsOneOf one two) now now
one_none one two now = breaks_along (λ s safe. safe) (λ left whole. inl whole) (safe_none one now)

pub both_none : (one two : List (Path × BaseNode)) (now : Past) → Breaks (IsBoth one two) (IsOneOf one two) now now
both_none one two now =
    breaks_none (IsBoth one two) (IsOneOf one two) (IsBoth one two) (λ s both left may. inl (safe_left svn one s both.safe left may)) now

pub set_none : (one two : List (Path × BaseNode)) (now : Past) → Breaks (IsSet one two) (IsOneOf one two) now now
set_none one two now =
    breaks_none (IsSet one two) (IsOneOf one two) (IsSet one two) (λ s is left may. inl (safe_left svn one s is.both.safe left may)) now
