-- Steps that a call takes, each in the state in which it is taken, and what they spare.
use Rattle.std.proofs.Common.{◌≡◌, ℕ, Bool, true, false, ◌&&◌, inl, inr, List, [], ◌∷◌, ◌++◌, refl, sym, ◌∙◌, ap, subst, true≢false, append_assoc, append-nil}
use Rattle.std.specs.Prelude.{◌⊎◌, codes, Option, Some, None, is_some, Result, Ok, Err, OnOk, OnErr}
use Rattle.std.specs.List.{list_all}
use Rattle.std.proofs.lemmas.Bool.{and_parts}
use Rattle.svn_types.specs.Names.{Path}
use Rattle.svn_types.specs.Paths.{is_within, path_eq}
use Rattle.svn_types.proofs.NameLemmas.{Name}
use Rattle.svn_types.proofs.PathLemmas.{is_within-chain, within_append, same_path}
use Rattle.svn_digits.specs.StandIns.{stand_in}
use Rattle.svn_folder.specs.declared.entry.Entry.{Entry}
use Rattle.svn_folder.specs.declared.entry.Entry.TheVariants.{File, Directory, Link}
use Rattle.svn_folder.specs.declared.step.Step.{Step}
use Rattle.svn_folder.specs.declared.step.Step.TheVariants.{Make, SyncFile, SyncDirectory, Rename, RenameDirectory, RemoveFile, RemoveDirectory}
use Rattle.svn_folder.specs.Entries.{has_directory}
use Rattle.svn_folder.specs.States.{State, seen, nothing, fresh}
use Rattle.svn_folder.specs.Steps.{run, after, IsEmpty}
use Rattle.svn_folder.specs.Pasts.{Past, Known, Broken}
use Rattle.svn_folder.specs.Files.{is_sync}
use Rattle.svn_folder.proofs.Runs.{run_join}
use Rattle.svn_folder.proofs.Showing.{put_elsewhere, sync_file-shown, sync_directory-shown, rename_elsewhere}
use Rattle.svn_disk.specs.Goes.{IsAlways, Stands, Keeps, Stops, Goes, Took, Missed, TakesOne}
use Rattle.svn_disk.specs.Places.{is_inside, is_temporary, temporary_place, IsTemporary}
use Rattle.svn_disk.specs.Spared.{EachIn, StandsIn, EndsIn, KeepsIn, StopsIn, GoesIn, HasReading, IsOwn, IsInside, Spares, link_text}
use Rattle.svn_disk.specs.Laws.{what_has_no_known_text_stays}
use Rattle.svn_disk.proofs.Going.{stands_at_first}
use Rattle.svn_disk.proofs.Placing.{temporary_within, sync_inside}

-- ---- one after the other

module _ (P : State → Step → Type 0) where
  each_join : (s : State) (some more : List Step) → EachIn P s some → EachIn P (run s some) more → EachIn P s (some ++ more)
  each_join s [] more first later = later
  each_join s (step ∷ some) more first later = (first.0, each_join (after step s) some more first.1 later)

  each_later : (s : State) (steps some more : List Step) → EachIn P (run s steps) some → EachIn P (run s (steps ++ some)) more → EachIn P (run s steps) (some ++ more)
  each_later s steps some more first later =
      each_join (run s steps) some more first (subst (λ (t : State). EachIn P t more) (run_join s steps some) later)

  either_past : (s : State) (steps some more : List Step) (new : Past)
      → (new ≡ Known s ((steps ++ some) ++ more)) ⊎ (new ≡ Broken s ((steps ++ some) ++ more))
      → (new ≡ Known s (steps ++ (some ++ more))) ⊎ (new ≡ Broken s (steps ++ (some ++ more)))
  either_past s steps some more new (inl is) = inl (is ∙ ap (Known s) (append_assoc steps some more))
  either_past s steps some more new (inr is) = inr (is ∙ ap (Broken s) (append_assoc steps some more))

pub keeps_in_none : (P : State → Step → Type 0) (now : Past) → KeepsIn P now now
keeps_in_none P now = record { each = λ s steps is. record { more = []; each = tt; past = is ∙ ap (Known s) (sym (append-nil steps)) } }

pub keeps_in_more : {P : State → Step → Type 0} → {old now new : Past} → KeepsIn P old now → KeepsIn P now new → KeepsIn P old new
keeps_in_more {P = P} first later = record {
  each = λ s steps is.
      let a = first.each s steps is in
      let b = later.each s (steps ++ a.more) a.past in
      record { more = a.more ++ b.more; each = each_later P s steps a.more b.more a.each b.each; past = b.past ∙ ap (Known s) (append_assoc steps a.more b.more) };
}

pub stops_in_more : {P : State → Step → Type 0} → {old now new : Past} → KeepsIn P old now → StopsIn P now new → StopsIn P old new
stops_in_more {P = P} {new = new} first later = record {
  each = λ s steps is.
      let a = first.each s steps is in
      let b = later.each s (steps ++ a.more) a.past in
      record { more = a.more ++ b.more; each = each_later P s steps a.more b.more a.each b.each; past = either_past P s steps a.more b.more new b.past };
}

-- it fails outside of the folder
pub stops_in_there : {P : State → Step → Type 0} → {old now : Past} → KeepsIn P old now → StopsIn P old now
stops_in_there keeps = record {
  each = λ s steps is. let a = keeps.each s steps is in record { more = a.more; each = a.each; past = inl a.past };
}

pub stops_in_none : (P : State → Step → Type 0) (now : Past) → StopsIn P now now
stops_in_none P now = stops_in_there (keeps_in_none P now)

pub goes_in_more : {T : Type 0} → {E : Type 0} → {P : State → Step → Type 0} → {old now : Past} → (new : Past) (result : Result T E) → KeepsIn P old now
    → GoesIn P now result new → GoesIn P old result new
goes_in_more new (Ok value) first goes = (keeps_in_more first goes.0, tt)
goes_in_more new (Err fault) first goes = (tt, stops_in_more first goes.1)

-- whatever comes outside of the folder after that
pub goes_in_there : {T : Type 0} → {E : Type 0} → {P : State → Step → Type 0} → {old now : Past} → (result : Result T E) → KeepsIn P old now
    → GoesIn P old result now
goes_in_there (Ok value) keeps = (keeps, tt)
goes_in_there (Err fault) keeps = (tt, stops_in_there keeps)

-- ---- from the steps that a call takes

module _ (P : State → Step → Type 0) where
  module _ (R : Step → Bool) (law : (s : State) (step : Step) → R step ≡ true → P s step) where
    each_of : (s : State) (steps : List Step) → list_all R steps ≡ true → EachIn P s steps
    each_of s [] all = tt
    each_of s (step ∷ steps) all = let parts = and_parts (R step) (list_all R steps) all in (law s step parts.0, each_of (after step s) steps parts.1)

    pub keeps_in : (old new : Past) → Keeps R old new → KeepsIn P old new
    keeps_in old new keeps = record {
      each = λ s steps is.
          let now = keeps.each s steps (subst (λ (x : Past). Stands R s steps x) (sym is) (stands_at_first R s steps)) in
          record { more = now.more; each = each_of (run s steps) now.more now.each; past = now.past };
    }

    pub stops_in : (old new : Past) → Stops R old new → StopsIn P old new
    stops_in old new stops = record {
      each = λ s steps is.
          let now = stops.each s steps (subst (λ (x : Past). Stands R s steps x) (sym is) (stands_at_first R s steps)) in
          record { more = now.more; each = each_of (run s steps) now.more now.each; past = now.past };
    }

    pub goes_in : {T : Type 0} → {E : Type 0} → (old new : Past) (result : Result T E) → Goes R old result new → GoesIn P old result new
    goes_in old new (Ok value) goes = (keeps_in old new goes.0, tt)
    goes_in old new (Err fault) goes = (tt, stops_in old new goes.1)

  -- of one step, whose state is known

  module _ (step : Step) (old new : Past) (known : IsAlways (λ s. P s step) old) where
    took_in : Took step old new → KeepsIn P old new
    took_in took = record { each = λ s steps is. record { more = step ∷ []; each = (known s steps is, tt); past = took.each s steps is } }

    missed_in : Missed step old new → StopsIn P old new
    missed_in missed = record { each = λ s steps is. by s steps is (missed.each s steps is) }
      where
        by : (s : State) (steps : List Step) → old ≡ Known s steps → (new ≡ Known s steps) ⊎ (new ≡ Broken s (steps ++ step ∷ [])) → EndsIn P s steps new
        by s steps is (inl same) = record { more = []; each = tt; past = inl (same ∙ ap (Known s) (sym (append-nil steps))) }
        by s steps is (inr failed) = record { more = step ∷ []; each = (known s steps is, tt); past = inr failed }

    pub one_goes_in : {T : Type 0} → {E : Type 0} → (result : Result T E) → TakesOne step old result new → GoesIn P old result new
    one_goes_in (Ok value) one = (took_in one.0, tt)
    one_goes_in (Err fault) one = (tt, missed_in one.1)

-- ---- steps that have more

module _ (P Q : State → Step → Type 0) (wider : (s : State) (step : Step) → P s step → Q s step) where
  each_wider : (s : State) (steps : List Step) → EachIn P s steps → EachIn Q s steps
  each_wider s [] each = tt
  each_wider s (step ∷ steps) each = (wider s step each.0, each_wider (after step s) steps each.1)

  pub keeps_in_wider : (old new : Past) → KeepsIn P old new → KeepsIn Q old new
  keeps_in_wider old new keeps = record {
    each = λ s steps is. let now = keeps.each s steps is in record { more = now.more; each = each_wider (run s steps) now.more now.each; past = now.past };
  }

  pub stops_in_wider : (old new : Past) → StopsIn P old new → StopsIn Q old new
  stops_in_wider old new stops = record {
    each = λ s steps is. let now = stops.each s steps is in record { more = now.more; each = each_wider (run s steps) now.more now.each; past = now.past };
  }

  pub goes_in_wider : {T : Type 0} → {E : Type 0} → (old new : Past) (result : Result T E) → GoesIn P old result new → GoesIn Q old result new
  goes_in_wider old new (Ok value) goes = (keeps_in_wider old new goes.0, tt)
  goes_in_wider old new (Err fault) goes = (tt, stops_in_wider old new goes.1)

-- ---- what steps spare

module _ (known : List ℕ → Bool) (n : Name) where
  -- whatever they do in the administrative folder
  inside_spares : (s : State) (step : Step) → is_inside n step ≡ true → Spares known n s step
  inside_spares s (Make p e t) h = inl h
  inside_spares s (SyncFile p) h = tt
  inside_spares s (SyncDirectory p) h = tt
  inside_spares s (Rename p q) h = let parts = and_parts (is_within (n ∷ []) p) (is_within (n ∷ []) q) h in (parts.0, inl parts.1)
  inside_spares s (RenameDirectory k m) h = absurd (true≢false (sym h))
  inside_spares s (RemoveFile p) h = inl h
  inside_spares s (RemoveDirectory p) h = inl h

  sync_spares : (s : State) (step : Step) → is_sync step ≡ true → Spares known n s step
  sync_spares s step h = inside_spares s step (sync_inside n step h)

  pub inside_keeps_in : (old new : Past) → Keeps (is_inside n) old new → KeepsIn (Spares known n) old new
  inside_keeps_in = keeps_in (Spares known n) (is_inside n) inside_spares

  pub inside_stops_in : (old new : Past) → Stops (is_inside n) old new → StopsIn (Spares known n) old new
  inside_stops_in = stops_in (Spares known n) (is_inside n) inside_spares

  pub inside_goes_in : {T : Type 0} → {E : Type 0} → (old new : Past) (result : Result T E) → Goes (is_inside n) old result new
      → GoesIn (Spares known n) old result new
  inside_goes_in old new result goes = goes_in (Spares known n) (is_inside n) inside_spares old new result goes

  pub syncs_go_in : {T : Type 0} → {E : Type 0} → (old new : Past) (result : Result T E) → Goes is_sync old result new → GoesIn (Spares known n) old result new
  syncs_go_in old new result goes = goes_in (Spares known n) is_sync sync_spares old new result goes

  -- what has no name yet is inside
  temporary_inside : (p : Path) → IsTemporary n p → IsInside n p
  temporary_inside p temporary =
      is_within-chain (n ∷ []) (temporary_place n) p (within_append (n ∷ []) (codes "tmp" ∷ [])) (temporary_within n p temporary)

  pub own_replaced : (p q : Path) (now : Past) → IsTemporary n p → IsAlways (λ s. IsOwn known (seen s q)) now → IsAlways (λ s. Spares known n s (Rename p q)) now
  own_replaced p q now temporary own s steps is = (temporary_inside p temporary, inr (own s steps is))

  pub empty_removed : (p : Path) (now : Past) → IsAlways (λ s. (has_directory (seen s p) ≡ true) × IsEmpty s p) now
      → IsAlways (λ s. Spares known n s (RemoveDirectory p)) now
  empty_removed p now empty s steps is = inr (empty s steps is)

  pub free_made : (p : Path) (e : Entry) (t : Option ℕ) (now : Past) → IsAlways (λ s. seen s p ≡ None) now → IsAlways (λ s. Spares known n s (Make p e t)) now
  free_made p e t now free s steps is = inr (free s steps is)

  pub own_removed : (p : Path) (now : Past) → IsAlways (λ s. IsOwn known (seen s p)) now → IsAlways (λ s. Spares known n s (RemoveFile p)) now
  own_removed p now own s steps is = inr (own s steps is)

-- ---- more texts are known

module _ (known more : List ℕ → Bool) (law : (t : List ℕ) → known t ≡ true → more t ≡ true) where
  own_wider : (found : Option Entry) → IsOwn known found → IsOwn more found
  own_wider None own = tt
  own_wider (Some (File bytes mode)) own = record { text = own.text; is = own.is; is_known = law (stand_in own.text) own.is_known }
  own_wider (Some Directory) own = tt
  own_wider (Some (Link target)) own = law (stand_in (link_text target)) own

  inside_or_own : (n : Name) (p : Path) (found : Option Entry) → IsInside n p ⊎ IsOwn known found → IsInside n p ⊎ IsOwn more found
  inside_or_own n p found (inl h) = inl h
  inside_or_own n p found (inr own) = inr (own_wider found own)

  spares_wider : (n : Name) (s : State) (step : Step) → Spares known n s step → Spares more n s step
  spares_wider n s (Make p e t) h = h
  spares_wider n s (SyncFile p) h = tt
  spares_wider n s (SyncDirectory p) h = tt
  spares_wider n s (Rename p q) h = (h.0, inside_or_own n q (seen s q) h.1)
  spares_wider n s (RenameDirectory k m) h = h
  spares_wider n s (RemoveFile p) h = inside_or_own n p (seen s p) h
  spares_wider n s (RemoveDirectory p) h = h

  pub spares_more : {T : Type 0} → {E : Type 0} → (n : Name) (old new : Past) (result : Result T E) → GoesIn (Spares known n) old result new
      → GoesIn (Spares more n) old result new
  spares_more n old new result goes = goes_in_wider (Spares known n) (Spares more n) (spares_wider n) old new result goes

-- the texts that are known are those of a state in which the folder was
module _ (n : Name) (known other : List ℕ → Bool) (old new : Past) (same : (s : State) (steps : List Step) → old ≡ Known s steps → known ≡ other) where
  pub spares_if : {T : Type 0} → {E : Type 0} → (result : Result T E) → GoesIn (Spares known n) old result new → GoesIn (Spares other n) old result new
  spares_if (Ok value) goes = (
    record { each = λ s steps is. subst (λ (k : List ℕ → Bool). StandsIn (Spares k n) s steps new) (same s steps is) (goes.0.each s steps is) },
    tt,
  )
  spares_if (Err fault) goes = (
    tt,
    record { each = λ s steps is. subst (λ (k : List ℕ → Bool). EndsIn (Spares k n) s steps new) (same s steps is) (goes.1.each s steps is) },
  )

-- ---- what is nobody's text stays

module _ (known : List ℕ → Bool) (n : Name) (p : Path) (e : Entry) (outside : is_within (n ∷ []) p ≡ false) (other : IsOwn known (Some e) → ⊥) where
  apart : (q : Path) → (path_eq q p ≡ true → ⊥) → path_eq q p ≡ false
  apart q h = by (path_eq q p) refl
    where
      by : (b : Bool) → path_eq q p ≡ b → path_eq q p ≡ false
      by true is = absurd (h is)
      by false is = is

  inside_apart : (q : Path) → IsInside n q → path_eq q p ≡ true → ⊥
  inside_apart q inside same = true≢false (sym inside ∙ ap (is_within (n ∷ [])) (same_path q p same) ∙ outside)

  free_apart : (s : State) (q : Path) → seen s p ≡ Some e → seen s q ≡ None → path_eq q p ≡ true → ⊥
  free_apart s q there none same = true≢false (ap is_some (sym there ∙ ap (seen s) (sym (same_path q p same)) ∙ none))

  own_apart : (s : State) (q : Path) → seen s p ≡ Some e → IsOwn known (seen s q) → path_eq q p ≡ true → ⊥
  own_apart s q there own same = other (subst (IsOwn known) (ap (seen s) (same_path q p same) ∙ there) own)

  -- a directory is the copy's
  directory_own : (found : Entry) → has_directory (Some found) ≡ true → IsOwn known (Some found)
  directory_own (File bytes mode) h = absurd (true≢false (sym h))
  directory_own Directory h = tt
  directory_own (Link target) h = absurd (true≢false (sym h))

  empty_apart : (s : State) (q : Path) → seen s p ≡ Some e → has_directory (seen s q) ≡ true → path_eq q p ≡ true → ⊥
  empty_apart s q there h same = other (directory_own e (ap has_directory (sym there ∙ ap (seen s) (sym (same_path q p same))) ∙ h))

  either_apart : (A B : Type 0) → (A → ⊥) → (B → ⊥) → A ⊎ B → ⊥
  either_apart A B f g (inl a) = f a
  either_apart A B f g (inr b) = g b

  one_stays : (s : State) (step : Step) → seen s p ≡ Some e → Spares known n s step → seen (after step s) p ≡ Some e
  one_stays s (Make q f t) there h =
      put_elsewhere q p (fresh f) s
      (apart q (λ same. either_apart (IsInside n q) (seen s q ≡ None) (λ inside. inside_apart q inside same) (λ none. free_apart s q there none same) h)) ∙ there
  one_stays s (SyncFile q) there h = sync_file-shown q s p ∙ there
  one_stays s (SyncDirectory q) there h = sync_directory-shown q s p ∙ there
  one_stays s (Rename q r) there h =
      rename_elsewhere q r p s
      (apart r (λ same. either_apart (IsInside n r) (IsOwn known (seen s r)) (λ inside. inside_apart r inside same) (λ own. own_apart s r there own same) h.1))
      (apart q (inside_apart q h.0)) ∙ there
  one_stays s (RenameDirectory k m) there h = absurd h
  one_stays s (RemoveFile q) there h =
      put_elsewhere q p nothing s
      (apart q (λ same. either_apart (IsInside n q) (IsOwn known (seen s q)) (λ inside. inside_apart q inside same) (λ own. own_apart s q there own same) h)) ∙ there
  one_stays s (RemoveDirectory q) there h =
      put_elsewhere q p nothing s
      (apart q (λ same. either_apart (IsInside n q) ((has_directory (seen s q) ≡ true) × IsEmpty s q) (λ inside. inside_apart q inside same)
      (λ both. empty_apart s q there both.0 same) h)) ∙ there

  pub stays : (s : State) (steps : List Step) → seen s p ≡ Some e → EachIn (Spares known n) s steps → seen (run s steps) p ≡ Some e
  stays s [] there each = there
  stays s (step ∷ steps) there each = stays (after step s) steps (one_stays s step there each.0) each.1

pub what_is_not_known_stays : what_has_no_known_text_stays
what_is_not_known_stays known n s steps p e outside there other each = stays known n p e outside other s steps there each
