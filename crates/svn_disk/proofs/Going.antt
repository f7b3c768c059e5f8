-- Which steps a call takes, from those that the folder takes.
use Rattle.std.proofs.Common.{◌≡◌, Bool, true, ◌&&◌, inl, inr, List, [], ◌∷◌, ◌++◌, refl, sym, ◌∙◌, ap, subst, true≢false, append_assoc, append-nil}
use Rattle.std.specs.Prelude.{◌⊎◌, Result, Ok, Err, IsOk, IsErr}
use Rattle.std.specs.List.{list_all}
use Rattle.std.proofs.lemmas.Bool.{and_parts}
use Rattle.std.proofs.lemmas.List.Folds.{list_all-append}
use Rattle.svn_folder.specs.declared.step.Step.{Step}
use Rattle.svn_folder.specs.declared.fault.FolderFault.{FolderFault}
use Rattle.svn_folder.specs.States.{State}
use Rattle.svn_folder.specs.Pasts.{Past, Known, Broken, IsFailure, Takes}
use Rattle.svn_folder.specs.Files.{TakesAll, TakesSyncs, AreSyncs, is_sync}
use Rattle.svn_disk.specs.Goes.{Stands, Ends, Keeps, Stops, Goes, Does, Took, Missed}

-- one more step
each_more : (P : Step → Bool) (steps : List Step) (step : Step) → list_all P steps ≡ true → P step ≡ true → list_all P (steps ++ step ∷ []) ≡ true
each_more P steps step all one =
    list_all-append P steps (step ∷ []) ∙ ap (λ b. b && (P step && true)) all ∙ ap (λ b. b && true) one

one_more : (steps more : List Step) (step : Step) → (steps ++ more) ++ step ∷ [] ≡ steps ++ (more ++ step ∷ [])
one_more steps more step = append_assoc steps more (step ∷ [])

pub ends_from_stands : (P : Step → Bool) (s : State) (steps : List Step) (now : Past) → Stands P s steps now → Ends P s steps now
ends_from_stands P s steps now stands = record { more = stands.more; each = stands.each; past = inl stands.past }

pub stands_at_first : (P : Step → Bool) (s : State) (steps : List Step) → Stands P s steps (Known s steps)
stands_at_first P s steps = record { more = []; each = refl; past = ap (Known s) (sym (append-nil steps)) }

one_of : (P : Step → Bool) (step : Step) → list_all P (step ∷ []) ≡ true → P step ≡ true
one_of P step h = (and_parts (P step) true h).0

module _ (P : Step → Bool) (step : Step) (new : Past) (h : P step ≡ true) (s : State) (steps more : List Step) (all : list_all P more ≡ true) where
  ok_stands : (done : Unit {0}) → Takes step (Known s (steps ++ more)) (Ok done) new → Stands P s steps new
  ok_stands done takes = record { more = more ++ step ∷ []; each = each_more P more step all h; past = takes.1 ∙ ap (Known s) (one_more steps more step) }

  err_ends : (fault : FolderFault) → Takes step (Known s (steps ++ more)) (Err fault) new → Ends P s steps new
  err_ends fault (inl same) = record { more = more; each = all; past = inl same }
  err_ends fault (inr failed) =
      record { more = more ++ step ∷ []; each = each_more P more step all h; past = inr (failed.1 ∙ ap (Broken s) (one_more steps more step)) }

-- a step that was taken, or wasn't
pub taken : (step : Step) (old new : Past) (done : Unit {0}) → Takes step old (Ok done) new → (P : Step → Bool) → list_all P (step ∷ []) ≡ true → Keeps P old new
taken step old new done takes P h = record {
  each = λ s steps stands.
      ok_stands P step new (one_of P step h) s steps stands.more stands.each done (subst (λ (x : Past). Takes step x (Ok done) new) stands.past takes);
}

pub refused : (step : Step) (old new : Past) (fault : FolderFault) → Takes step old (Err fault) new → (P : Step → Bool) → list_all P (step ∷ []) ≡ true → Stops P old new
refused step old new fault takes P h = record {
  each = λ s steps stands.
      err_ends P step new (one_of P step h) s steps stands.more stands.each fault (subst (λ (x : Past). Takes step x (Err fault) new) stands.past takes);
}

-- the same, of just that step
pub took : (step : Step) (old new : Past) (done : Unit {0}) → Takes step old (Ok done) new → Took step old new
took step old new done takes = record { each = λ s steps is. (subst (λ (x : Past). Takes step x (Ok done) new) is takes).1 }

pub missed : (step : Step) (old new : Past) (fault : FolderFault) → Takes step old (Err fault) new → Missed step old new
missed step old new fault takes = record { each = λ s steps is. by s steps (subst (λ (x : Past). Takes step x (Err fault) new) is takes) }
  where
    by : (s : State) (steps : List Step) → (new ≡ Known s steps) ⊎ (IsFailure fault × (new ≡ Broken s (steps ++ step ∷ [])))
        → (new ≡ Known s steps) ⊎ (new ≡ Broken s (steps ++ step ∷ []))
    by s steps (inl same) = inl same
    by s steps (inr failed) = inr failed.1

pub one_each : (P : Step → Bool) (step : Step) → P step ≡ true → list_all P (step ∷ []) ≡ true
one_each P step h = ap (λ b. b && true) h

-- ---- parts of a call, one after the other

pub keeps_none : (P : Step → Bool) (now : Past) → Keeps P now now
keeps_none P now = record { each = λ s steps stands. stands }

pub keeps_more : {P : Step → Bool} → {old now new : Past} → Keeps P old now → Keeps P now new → Keeps P old new
keeps_more first more = record { each = λ s steps stands. more.each s steps (first.each s steps stands) }

pub stops_more : {P : Step → Bool} → {old now new : Past} → Keeps P old now → Stops P now new → Stops P old new
stops_more first more = record { each = λ s steps stands. more.each s steps (first.each s steps stands) }

-- it fails outside of the folder
pub stops_there : {P : Step → Bool} → {old now : Past} → Keeps P old now → Stops P old now
stops_there {P = P} {now = now} keeps = record { each = λ s steps stands. ends_from_stands P s steps now (keeps.each s steps stands) }

pub stops_none : (P : Step → Bool) (now : Past) → Stops P now now
stops_none P now = stops_there (keeps_none P now)

pub goes_more : {T : Type 0} → {E : Type 0} → {P : Step → Bool} → {old now : Past} → (new : Past) (result : Result T E) → Keeps P old now
    → Goes P now result new → Goes P old result new
goes_more new (Ok value) first goes = (keeps_more first goes.0, tt)
goes_more new (Err fault) first goes = (tt, stops_more first goes.1)

-- whatever comes outside of the folder after that
pub goes_there : {T : Type 0} → {E : Type 0} → {P : Step → Bool} → {old now : Past} → (result : Result T E) → Keeps P old now → Goes P old result now
goes_there (Ok value) keeps = (keeps, tt)
goes_there (Err fault) keeps = (tt, stops_there keeps)

-- ---- steps that have more

module _ (P Q : Step → Bool) (wider : (step : Step) → P step ≡ true → Q step ≡ true) where
  each_wider : (steps : List Step) → list_all P steps ≡ true → list_all Q steps ≡ true
  each_wider [] h = refl
  each_wider (step ∷ steps) h =
      let parts = and_parts (P step) (list_all P steps) h in
      ap (λ b. b && list_all Q steps) (wider step parts.0) ∙ each_wider steps parts.1

  pub keeps_wider : (old new : Past) → Keeps P old new → Keeps Q old new
  keeps_wider old new keeps = record {
    each = λ s steps stands.
        let now = keeps.each s (steps ++ stands.more)
        (subst (λ (x : Past). Stands P s (steps ++ stands.more) x) (sym stands.past) (stands_at_first P s (steps ++ stands.more))) in
        record {
          more = stands.more ++ now.more;
          each = list_all-append Q stands.more now.more ∙ ap (λ b. b && list_all Q now.more) stands.each ∙ each_wider now.more now.each;
          past = now.past ∙ ap (Known s) (append_assoc steps stands.more now.more);
        };
  }

  longer : (s : State) (steps some more : List Step) (new : Past) → (new ≡ Known s ((steps ++ some) ++ more)) ⊎ (new ≡ Broken s ((steps ++ some) ++ more))
      → (new ≡ Known s (steps ++ (some ++ more))) ⊎ (new ≡ Broken s (steps ++ (some ++ more)))
  longer s steps some more new (inl is) = inl (is ∙ ap (Known s) (append_assoc steps some more))
  longer s steps some more new (inr is) = inr (is ∙ ap (Broken s) (append_assoc steps some more))

  pub stops_wider : (old new : Past) → Stops P old new → Stops Q old new
  stops_wider old new stops = record {
    each = λ s steps stands.
        let now = stops.each s (steps ++ stands.more)
        (subst (λ (x : Past). Stands P s (steps ++ stands.more) x) (sym stands.past) (stands_at_first P s (steps ++ stands.more))) in
        record {
          more = stands.more ++ now.more;
          each = list_all-append Q stands.more now.more ∙ ap (λ b. b && list_all Q now.more) stands.each ∙ each_wider now.more now.each;
          past = longer s steps stands.more now.more new now.past;
        };
  }

  pub goes_wider : {T : Type 0} → {E : Type 0} → (old new : Past) (result : Result T E) → Goes P old result new → Goes Q old result new
  goes_wider old new (Ok value) goes = (keeps_wider old new goes.0, tt)
  goes_wider old new (Err fault) goes = (tt, stops_wider old new goes.1)

-- ---- several steps

pub takes_all : (P : Step → Bool) (steps : List Step) (old new : Past) (result : Result (Unit {0}) FolderFault) → list_all P steps ≡ true
    → TakesAll steps old result new → Goes P old result new
takes_all P [] old new (Ok done) h takes = (subst (λ (x : Past). Keeps P old x) (sym takes.1) (keeps_none P old), tt)
takes_all P [] old new (Err fault) h takes = absurd (true≢false (sym takes.0))
takes_all P (step ∷ steps) old new result h (inl one) = by result one
  where
    by : (r : Result (Unit {0}) FolderFault) → IsErr r × Takes step old r new → Goes P old r new
    by (Ok done) one = absurd (true≢false (sym one.0))
    by (Err fault) one = (tt, refused step old new fault one.1 P (one_each P step (and_parts (P step) (list_all P steps) h).0))
takes_all P (step ∷ steps) old new result h (inr (between, first, rest)) =
    let parts = and_parts (P step) (list_all P steps) h in
    goes_more new result (taken step old between tt first P (one_each P step parts.0)) (takes_all P steps between new result parts.1 rest)

all_syncs : (steps : List Step) → AreSyncs steps → list_all is_sync steps ≡ true
all_syncs [] h = refl
all_syncs (step ∷ steps) h = ap (λ b. b && list_all is_sync steps) h.0 ∙ all_syncs steps h.1

pub syncs_go : (old new : Past) (result : Result (Unit {0}) FolderFault) → TakesSyncs old result new → Goes is_sync old result new
syncs_go old new result takes = takes_all is_sync takes.steps old new result (all_syncs takes.steps takes.are_syncs) takes.takes

-- ---- from what a call does

pub does_goes : {T : Type 0} → {E : Type 0} → (P : Step → Bool) (taken : List Step) (old new : Past) (result : Result T E) → list_all P taken ≡ true
    → Does taken old result new → Goes P old result new
does_goes P taken old new (Ok value) h does = (does.0 P h, tt)
does_goes P taken old new (Err fault) h does = (tt, does.1 P h)
