-- Parts of a call that add to the administrative folder, one after the other.
use Rattle.std.proofs.Common.{◌≡◌, Bool, true, false, ◌&&◌, ◌⊎◌, inl, inr, not, List, [], ◌∷◌, ◌++◌, refl, sym, ◌∙◌, ap, subst, true≢false, append_assoc, append-nil}
use Rattle.std.specs.Prelude.{ℕ, bytes_eq, codes, Option, Some, None, is_some, Result, Ok, Err}
use Rattle.std.specs.List.{list_all}
use Rattle.std.proofs.lemmas.Bool.{and_parts}
use Rattle.svn_types.specs.Names.{Path}
use Rattle.svn_types.specs.Paths.{is_within, child}
use Rattle.svn_types.proofs.NameLemmas.{Name}
use Rattle.svn_types.proofs.PathLemmas.{split_within}
use Rattle.svn_digits.specs.StandIns.{is_stand_in}
use Rattle.svn_model.specs.declared.base_node.BaseNode.{BaseNode}
use Rattle.svn_folder.specs.declared.entry.Entry.{Entry}
use Rattle.svn_folder.specs.declared.step.Step.{Step}
use Rattle.svn_folder.specs.declared.step.Step.TheVariants.{Make, SyncFile, SyncDirectory, Rename, RenameDirectory, RemoveFile, RemoveDirectory}
use Rattle.svn_folder.specs.Entries.{has_directory}
use Rattle.svn_folder.specs.States.{Seen, State, seen}
use Rattle.svn_folder.specs.Steps.{after, run}
use Rattle.svn_folder.specs.Crashes.{RunMayLeave}
use Rattle.svn_folder.specs.Laws.{is_firm, is_way_below, is_way, is_apart, AreApart, IsOnDisk}
use Rattle.svn_folder.specs.Pasts.{Past, Known, Shows}
use Rattle.svn_folder.specs.Files.{is_sync}
use Rattle.svn_disk.specs.Goes.{IsAlways, Keeps, Stops, Goes, Does, Took, Missed, TakesOne}
use Rattle.svn_disk.specs.Places.{is_inside, is_temporary, IsTemporary, temporary_place, text_below, text_place, database_place}
use Rattle.svn_disk.specs.Crashes.{IsTextOf, IsWhole, IsSafe, IsTextOn, Leads, Breaks, Adds, AddsSome, IsAdding}
use Rattle.svn_disk.proofs.Going.{keeps_none, keeps_more, stops_more, stops_there, stops_none, keeps_wider, stops_wider, goes_wider, one_each}
use Rattle.svn_disk.proofs.Running.{leads_more, breaks_more, breaks_there, leads_none, took_leads, missed_breaks, leads_when, breaks_when}
use Rattle.svn_disk.proofs.Whole.{safe_apart, safe_left}
use Rattle.svn_disk.proofs.Beside.{temporary_off, beside_leads, beside_breaks, temporary_beside, sync_beside}
use Rattle.svn_disk.proofs.Placing.{sync_inside, temporary_within}
use Rattle.svn_disk.proofs.Moving.{same_name}
use Rattle.svn_disk.proofs.TextPlaces.{same_place, place_beside}

-- ---- one after the other

pub adds_more : {n : Name} → {old now new : Past} → Adds n old now → Adds n now new → Adds n old new
adds_more first more = record { keeps = keeps_more first.keeps more.keeps; leads = λ nodes. leads_more (first.leads nodes) (more.leads nodes) }

pub adds_some_more : {n : Name} → {old now new : Past} → Adds n old now → AddsSome n now new → AddsSome n old new
adds_some_more first more = record { stops = stops_more first.keeps more.stops; breaks = λ nodes. breaks_more (first.leads nodes) (more.breaks nodes) }

pub adds_there : {n : Name} → {old now : Past} → Adds n old now → AddsSome n old now
adds_there adds = record { stops = stops_there adds.keeps; breaks = λ nodes. breaks_there (adds.leads nodes) }

pub adds_none : (n : Name) (now : Past) → Adds n now now
adds_none n now = record {
  keeps = keeps_none (is_inside n) now;
  leads = λ nodes. leads_none (IsSafe n nodes) (IsWhole n nodes) (safe_left n nodes) now;
}

pub adds_some_none : (n : Name) (now : Past) → AddsSome n now now
adds_some_none n now = adds_there (adds_none n now)

pub adding_more : {T : Type 0} → {E : Type 0} → {n : Name} → {old now : Past} → (new : Past) (result : Result T E) → Adds n old now → IsAdding n now result new
    → IsAdding n old result new
adding_more new (Ok value) first more = (adds_more first more.0, tt)
adding_more new (Err fault) first more = (tt, adds_some_more first more.1)

-- whatever comes outside of the folder after that
pub adding_there : {T : Type 0} → {E : Type 0} → {n : Name} → {old now : Past} → (result : Result T E) → Adds n old now → IsAdding n old result now
adding_there (Ok value) adds = (adds, tt)
adding_there (Err fault) adds = (tt, adds_there adds)

-- ---- of what has no name yet

within_top : (n k : Name) (p : Path) → is_within (n ∷ k ∷ []) p ≡ true → is_within (n ∷ []) p ≡ true
within_top n k [] h = h
within_top n k (m ∷ p) h = ap (λ b. b && true) (and_parts (bytes_eq n m) (is_within (k ∷ []) p) h).0

within_both : (n k : Name) (p q : Path) → (is_within (n ∷ k ∷ []) p && is_within (n ∷ k ∷ []) q) ≡ true → (is_within (n ∷ []) p && is_within (n ∷ []) q) ≡ true
within_both n k p q h =
    let parts = and_parts (is_within (n ∷ k ∷ []) p) (is_within (n ∷ k ∷ []) q) h in
    ap (λ b. b && is_within (n ∷ []) q) (within_top n k p parts.0) ∙ within_top n k q parts.1

pub temporary_inside : (n : Name) (step : Step) → is_temporary n step ≡ true → is_inside n step ≡ true
temporary_inside n (Make p e t) h = within_top n (codes "tmp") p h
temporary_inside n (SyncFile p) h = refl
temporary_inside n (SyncDirectory p) h = refl
temporary_inside n (Rename p q) h = within_both n (codes "tmp") p q h
temporary_inside n (RenameDirectory k m) h = absurd (true≢false (sym h))
temporary_inside n (RemoveFile p) h = within_top n (codes "tmp") p h
temporary_inside n (RemoveDirectory p) h = within_top n (codes "tmp") p h

pub temporary_adds : (n : Name) (old new : Past) → Keeps (is_temporary n) old new → Adds n old new
temporary_adds n old new keeps = record {
  keeps = keeps_wider (is_temporary n) (is_inside n) (temporary_inside n) old new keeps;
  leads = λ nodes. beside_leads n (is_temporary n) (temporary_beside n) nodes old new keeps;
}

pub temporary_adds_some : (n : Name) (old new : Past) → Stops (is_temporary n) old new → AddsSome n old new
temporary_adds_some n old new stops = record {
  stops = stops_wider (is_temporary n) (is_inside n) (temporary_inside n) old new stops;
  breaks = λ nodes. beside_breaks n (is_temporary n) (temporary_beside n) nodes old new stops;
}

pub temporary_adding : {T : Type 0} → {E : Type 0} → (n : Name) (old new : Past) (result : Result T E) → Goes (is_temporary n) old result new
    → IsAdding n old result new
temporary_adding n old new (Ok value) goes = (temporary_adds n old new goes.0, tt)
temporary_adding n old new (Err fault) goes = (tt, temporary_adds_some n old new goes.1)

pub keeps_inside : (n : Name) → {old new : Past} → Keeps (is_temporary n) old new → Keeps (is_inside n) old new
keeps_inside n {old = old} {new = new} keeps = keeps_wider (is_temporary n) (is_inside n) (temporary_inside n) old new keeps

pub stops_inside : (n : Name) → {old new : Past} → Stops (is_temporary n) old new → Stops (is_inside n) old new
stops_inside n {old = old} {new = new} stops = stops_wider (is_temporary n) (is_inside n) (temporary_inside n) old new stops

pub removes_temporary : (n : Name) (p : Path) → IsTemporary n p → list_all (is_temporary n) (RemoveFile p ∷ []) ≡ true
removes_temporary n p temporary = one_each (is_temporary n) (RemoveFile p) (temporary_within n p temporary)

pub makes_temporary : (n : Name) (p : Path) (e : Entry) (t : Option ℕ) → IsTemporary n p → list_all (is_temporary n) (Make p e t ∷ []) ≡ true
makes_temporary n p e t temporary = one_each (is_temporary n) (Make p e t) (temporary_within n p temporary)

sync_temporary : (n : Name) (step : Step) → is_sync step ≡ true → is_temporary n step ≡ true
sync_temporary n (Make p e t) h = absurd (true≢false (sym h))
sync_temporary n (SyncFile p) h = refl
sync_temporary n (SyncDirectory p) h = refl
sync_temporary n (Rename p q) h = absurd (true≢false (sym h))
sync_temporary n (RenameDirectory k m) h = absurd (true≢false (sym h))
sync_temporary n (RemoveFile p) h = absurd (true≢false (sym h))
sync_temporary n (RemoveDirectory p) h = absurd (true≢false (sym h))

pub syncs_temporary : {T : Type 0} → {E : Type 0} → (n : Name) (old new : Past) (result : Result T E) → Goes is_sync old result new → Goes (is_temporary n) old result new
syncs_temporary n old new result goes = goes_wider is_sync (is_temporary n) (sync_temporary n) old new result goes

-- syncs are anywhere
pub syncs_adding : {T : Type 0} → {E : Type 0} → (n : Name) (old new : Past) (result : Result T E) → Goes is_sync old result new → IsAdding n old result new
syncs_adding n old new (Ok value) goes = (
  record {
    keeps = keeps_wider is_sync (is_inside n) (sync_inside n) old new goes.0;
    leads = λ nodes. beside_leads n is_sync (sync_beside n) nodes old new goes.0;
  },
  tt,
)
syncs_adding n old new (Err fault) goes = (
  tt,
  record {
    stops = stops_wider is_sync (is_inside n) (sync_inside n) old new goes.1;
    breaks = λ nodes. beside_breaks n is_sync (sync_beside n) nodes old new goes.1;
  },
)

-- ---- something is made where nothing was

-- each directory above what is on the disk is there
way_directory : (s : State) (above p : Path) (k : Name) (r : Path) → is_way_below s above (p ++ k ∷ r) ≡ true → has_directory (seen s (above ++ p)) ≡ true
way_directory s above [] k r h =
    let parts = and_parts (is_firm (s above) && has_directory (s above).now.entry) (is_way_below s (child above k) r) h in
    ap (λ (q : Path). has_directory (seen s q)) (append-nil above) ∙ (and_parts (is_firm (s above)) (has_directory (s above).now.entry) parts.0).1
way_directory s above (m ∷ p) k r h =
    let parts = and_parts (is_firm (s above) && has_directory (s above).now.entry) (is_way_below s (child above m) (p ++ k ∷ r)) h in
    ap (λ (q : Path). has_directory (seen s q)) (sym (append_assoc above (m ∷ []) p)) ∙ way_directory s (child above m) p k r parts.1

-- so nothing is at a path only if it isn't above what is there
free_off : (s : State) (p q : Path) (e : Entry) → seen s p ≡ None → seen s q ≡ Some e → is_way s q ≡ true → not (is_within p q) ≡ true
free_off s p q e none some way = by (is_within p q) refl
  where
    at : (r : Path) → q ≡ p ++ r → ⊥
    at [] same = true≢false (sym (ap is_some some) ∙ ap is_some (ap (seen s) (same ∙ append-nil p) ∙ none))
    at (k ∷ r) same =
        true≢false (sym (way_directory s [] p k r (ap (is_way s) (sym same) ∙ way)) ∙ ap has_directory none)

    by : (b : Bool) → is_within p q ≡ b → not b ≡ true
    by false h = refl
    by true h = let parts = split_within p q h in absurd (at parts.0 parts.1)

module _ (n : Name) (p : Path) (e : Entry) (t : Option ℕ) where
  abbrev making : Step
  making = Make p e t

  made_safe : (nodes : List (Path × BaseNode)) (s : State) → IsSafe n nodes s × (seen s p ≡ None)
      → IsSafe n nodes (after making s) × ((left : Seen) → RunMayLeave s (making ∷ []) left → IsWhole n nodes left)
  made_safe nodes s (safe, none) =
      safe_apart n nodes s (making ∷ [])
      (λ x is. (free_off s p (text_place n x) _ none is.0.is_file is.1.0, tt))
      (free_off s p (database_place n) _ none safe.database.0.is_file safe.database.1.0, tt) safe

  module _ (old new : Past) (inside : is_within (n ∷ []) p ≡ true) (free : IsAlways (λ s. seen s p ≡ None) old) where
    pub made_adds : ((P : Step → Bool) → list_all P (making ∷ []) ≡ true → Keeps P old new) → Took making old new → Adds n old new
    made_adds does took = record {
      keeps = does (is_inside n) (one_each (is_inside n) making inside);
      leads = λ nodes.
          leads_when (λ s. seen s p ≡ None) (IsSafe n nodes) (IsSafe n nodes) (IsWhole n nodes) old new free
          (took_leads (λ s. IsSafe n nodes s × (seen s p ≡ None)) (IsWhole n nodes) (IsSafe n nodes) making old new (made_safe nodes) took);
    }

    pub made_adds_some : ((P : Step → Bool) → list_all P (making ∷ []) ≡ true → Stops P old new) → Missed making old new → AddsSome n old new
    made_adds_some does missed = record {
      stops = does (is_inside n) (one_each (is_inside n) making inside);
      breaks = λ nodes.
          breaks_when (λ s. seen s p ≡ None) (IsSafe n nodes) (IsWhole n nodes) old new free
          (missed_breaks (λ s. IsSafe n nodes s × (seen s p ≡ None)) (IsWhole n nodes) (IsSafe n nodes) making old new
          (λ s begins left may. (made_safe nodes s begins).1 left may) missed);
    }

pub made_adding : {T : Type 0} → {E : Type 0} → (n : Name) (p : Path) (e : Entry) (t : Option ℕ) (old new : Past) (result : Result T E)
    → is_within (n ∷ []) p ≡ true → IsAlways (λ s. seen s p ≡ None) old
    → Does (Make p e t ∷ []) old result new → TakesOne (Make p e t) old result new → IsAdding n old result new
made_adding n p e t old new (Ok value) inside free does one = (made_adds n p e t old new inside free does.0 one.0, tt)
made_adding n p e t old new (Err fault) inside free does one = (tt, made_adds_some n p e t old new inside free does.1 one.1)

pub shows_none : (now : Past) (p : Path) → Shows now p None → IsAlways (λ s. seen s p ≡ None) now
shows_none now p shows s steps is = sym (subst (λ (x : Past). Shows x p None) is shows)

-- ---- a text gets its name, which isn't there yet

-- a text isn't under its name
abbrev pub IsLacking : Name → List ℕ → State → Type 0
IsLacking n name s = IsTextOf name (seen s (text_place n name)) → ⊥

module _ (n : Name) (p : Path) (name : List ℕ) (temporary : is_within (temporary_place n) p ≡ true) (stands : is_stand_in name ≡ true) where
  abbrev naming : Step
  naming = Rename p (text_place n name)

  named_off : (s : State) → IsLacking n name s → (t : List ℕ) → IsTextOn n s t → not (is_within (text_place n name) (text_place n t)) ≡ true
  named_off s lacking t is = by (is_within (text_place n name) (text_place n t)) refl
    where
      by : (b : Bool) → is_within (text_place n name) (text_place n t) ≡ b → not b ≡ true
      by false h = refl
      by true h = absurd (lacking (subst (λ (x : List ℕ). IsTextOf x (seen s (text_place n x))) (sym (same_place n name t stands h)) is.0))

  named_safe : (nodes : List (Path × BaseNode)) (s : State) → IsSafe n nodes s × IsLacking n name s
      → IsSafe n nodes (after naming s) × ((left : Seen) → RunMayLeave s (naming ∷ []) left → IsWhole n nodes left)
  named_safe nodes s (safe, lacking) =
      safe_apart n nodes s (naming ∷ [])
      (λ t is. (
        ap (λ b. b && not (is_within (text_place n name) (text_place n t))) (temporary_off n (codes "pristine") p (text_below t) refl temporary)
            ∙ named_off s lacking t is,
        tt,
      )) (
        ap (λ b. b && not (is_within (text_place n name) (database_place n))) (temporary_off n (codes "wc.db") p [] refl temporary) ∙ place_beside n name,
        tt,
      )
      safe

  naming_inside : is_inside n naming ≡ true
  naming_inside =
      ap (λ b. b && is_within (n ∷ []) (text_place n name)) (within_top n (codes "tmp") p temporary) ∙ ap (λ b. b && true) (same_name n)

  module _ (old new : Past) (lacking : IsAlways (IsLacking n name) old) where
    named_adds : ((P : Step → Bool) → list_all P (naming ∷ []) ≡ true → Keeps P old new) → Took naming old new → Adds n old new
    named_adds does took = record {
      keeps = does (is_inside n) (one_each (is_inside n) naming naming_inside);
      leads = λ nodes.
          leads_when (IsLacking n name) (IsSafe n nodes) (IsSafe n nodes) (IsWhole n nodes) old new lacking
          (took_leads (λ s. IsSafe n nodes s × IsLacking n name s) (IsWhole n nodes) (IsSafe n nodes) naming old new (named_safe nodes) took);
    }

    named_adds_some : ((P : Step → Bool) → list_all P (naming ∷ []) ≡ true → Stops P old new) → Missed naming old new → AddsSome n old new
    named_adds_some does missed = record {
      stops = does (is_inside n) (one_each (is_inside n) naming naming_inside);
      breaks = λ nodes.
          breaks_when (IsLacking n name) (IsSafe n nodes) (IsWhole n nodes) old new lacking
          (missed_breaks (λ s. IsSafe n nodes s × IsLacking n name s) (IsWhole n nodes) (IsSafe n nodes) naming old new
          (λ s begins left may. (named_safe nodes s begins).1 left may) missed);
    }

  pub named_adding : {T : Type 0} → {E : Type 0} → (old new : Past) (result : Result T E) → IsAlways (IsLacking n name) old
      → Does (naming ∷ []) old result new → TakesOne naming old result new → IsAdding n old result new
  named_adding old new (Ok value) lacking does one = (named_adds old new lacking does.0 one.0, tt)
  named_adding old new (Err fault) lacking does one = (tt, named_adds_some old new lacking does.1 one.1)
