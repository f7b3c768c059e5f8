-- What a folder shows after parts of a call, one after the other.
use Rattle.std.proofs.Common.{◌≡◌, Bool, true, false, List, [], ◌∷◌, ◌++◌, refl, sym, ◌∙◌, ap, subst, true≢false}
use Rattle.std.specs.Prelude.{ℕ, Option, Some, None, is_some, Result, Ok, Err, OnOk}
use Rattle.std.specs.List.{list_all}
use Rattle.svn_types.specs.Names.{Path}
use Rattle.svn_types.specs.Paths.{path_eq}
use Rattle.svn_types.proofs.PathLemmas.{same_path, path_eq-same}
use Rattle.svn_folder.specs.declared.entry.Entry.{Entry}
use Rattle.svn_folder.specs.declared.step.Step.{Step}
use Rattle.svn_folder.specs.declared.step.Step.TheVariants.{Make, Rename, RemoveFile}
use Rattle.svn_folder.specs.States.{Seen, State, seen, nothing, fresh}
use Rattle.svn_folder.specs.Steps.{run, after}
use Rattle.svn_folder.specs.Pasts.{Past}
use Rattle.svn_folder.proofs.Runs.{run_join}
use Rattle.svn_folder.proofs.Showing.{put_here, put_elsewhere, rename_here, rename_elsewhere}
use Rattle.svn_disk.specs.Goes.{IsAlways, Stands, Keeps, Goes, Took, TakesOne}
use Rattle.svn_disk.specs.Ends.{TurnsTo, Turns, IsPut, IsMoved, IsSameBut, Stays, StaysBut, own_place}
use Rattle.svn_disk.proofs.Going.{stands_at_first}

-- ---- one after the other

turns_to : (R S T : Seen → Seen → Type 0) (a : Seen) (now new : Past) → ((b c : Seen) → R a b → S b c → T a c) → TurnsTo R a now → Turns S now new
    → TurnsTo T a new
turns_to R S T a now new law first later =
    let b = later.each first.state first.steps first.past in
    record {
      state = b.state;
      steps = b.steps;
      past = b.past;
      turns = law (seen (run first.state first.steps)) (seen (run b.state b.steps)) first.turns b.turns;
    }

pub turns_more : {R S : Seen → Seen → Type 0} → {old now new : Past} → (T : Seen → Seen → Type 0) → ((a b c : Seen) → R a b → S b c → T a c)
    → Turns R old now → Turns S now new → Turns T old new
turns_more {R = R} {S = S} {now = now} {new = new} T law first later = record {
  each = λ s steps is.
      turns_to R S T (seen (run s steps)) now new (λ b c. law (seen (run s steps)) b c) (first.each s steps is) later;
}

pub turns_along : {R : Seen → Seen → Type 0} → {old new : Past} → (S : Seen → Seen → Type 0) → ((a b : Seen) → R a b → S a b) → Turns R old new → Turns S old new
turns_along S law turns = record {
  each = λ s steps is.
      let a = turns.each s steps is in
      record { state = a.state; steps = a.steps; past = a.past; turns = law (seen (run s steps)) (seen (run a.state a.steps)) a.turns };
}

-- nothing is done
pub turns_none : (R : Seen → Seen → Type 0) (now : Past) → ((a : Seen) → R a a) → Turns R now now
turns_none R now law = record { each = λ s steps is. record { state = s; steps = steps; past = is; turns = law (seen (run s steps)) } }

-- nothing is done where something is known
pub turns_where : (Q : State → Type 0) (R : Seen → Seen → Type 0) (now : Past) → IsAlways Q now → ((s : State) → Q s → R (seen s) (seen s)) → Turns R now now
turns_where Q R now always law = record {
  each = λ s steps is. record { state = s; steps = steps; past = is; turns = law (run s steps) (always s steps is) };
}

-- something is known before
pub turns_when : (Q : State → Type 0) (R S : Seen → Seen → Type 0) (old new : Past) → IsAlways Q old → ((s : State) (b : Seen) → Q s → R (seen s) b → S (seen s) b)
    → Turns R old new → Turns S old new
turns_when Q R S old new always law turns = record {
  each = λ s steps is.
      let a = turns.each s steps is in
      record { state = a.state; steps = a.steps; past = a.past; turns = law (run s steps) (seen (run a.state a.steps)) (always s steps is) a.turns };
}

-- something is known after
pub turns_known : (Q : State → Type 0) (R S : Seen → Seen → Type 0) (old new : Past) → IsAlways Q new → ((a : Seen) (s : State) → Q s → R a (seen s) → S a (seen s))
    → Turns R old new → Turns S old new
turns_known Q R S old new always law turns = record {
  each = λ s steps is.
      let a = turns.each s steps is in
      record {
        state = a.state;
        steps = a.steps;
        past = a.past;
        turns = law (seen (run s steps)) (run a.state a.steps) (always a.state a.steps a.past) a.turns;
      };
}

-- ---- by the steps that are taken

pub took_turns : (R : Seen → Seen → Type 0) (step : Step) (old new : Past) → ((s : State) → R (seen s) (seen (after step s))) → Took step old new
    → Turns R old new
took_turns R step old new law took = record {
  each = λ s steps is. record {
    state = s;
    steps = steps ++ step ∷ [];
    past = took.each s steps is;
    turns = subst (λ (t : State). R (seen (run s steps)) (seen t)) (sym (run_join s steps (step ∷ []))) (law (run s steps));
  };
}

pub keeps_turns : (R : Seen → Seen → Type 0) (P : Step → Bool) (old new : Past)
    → ((s : State) (more : List Step) → list_all P more ≡ true → R (seen s) (seen (run s more))) → Keeps P old new → Turns R old new
keeps_turns R P old new law keeps = record {
  each = λ s steps is.
      let now = keeps.each s steps (subst (λ (x : Past). Stands P s steps x) (sym is) (stands_at_first P s steps)) in
      record {
        state = s;
        steps = steps ++ now.more;
        past = now.past;
        turns = subst (λ (t : State). R (seen (run s steps)) (seen t)) (sym (run_join s steps now.more)) (law (run s steps) now.more now.each);
      };
}

-- ---- by the result

pub one_turns : {T : Type 0} → {E : Type 0} → (R : Seen → Seen → Type 0) (step : Step) (old new : Past) (result : Result T E)
    → ((s : State) → R (seen s) (seen (after step s))) → TakesOne step old result new → OnOk result (Turns R old new)
one_turns R step old new (Ok value) law one = took_turns R step old new law one.0
one_turns R step old new (Err fault) law one = tt

pub goes_turns : {T : Type 0} → {E : Type 0} → (R : Seen → Seen → Type 0) (P : Step → Bool) (old new : Past) (result : Result T E)
    → ((s : State) (more : List Step) → list_all P more ≡ true → R (seen s) (seen (run s more))) → Goes P old result new → OnOk result (Turns R old new)
goes_turns R P old new (Ok value) law goes = keeps_turns R P old new law goes.0
goes_turns R P old new (Err fault) law goes = tt

-- a part that went well, and one that may
pub ends_more : {X : Type 0} → {E : Type 0} → {R : Seen → Seen → Type 0} → {old now : Past} → (S T : Seen → Seen → Type 0) (new : Past) (result : Result X E)
    → ((a b c : Seen) → R a b → S b c → T a c) → Turns R old now → OnOk result (Turns S now new) → OnOk result (Turns T old new)
ends_more S T new (Ok value) law first later = turns_more T law first later
ends_more S T new (Err fault) law first later = tt

pub ends_along : {X : Type 0} → {E : Type 0} → (R S : Seen → Seen → Type 0) (old new : Past) (result : Result X E)
    → ((a b : Seen) → R a b → S a b) → OnOk result (Turns R old new) → OnOk result (Turns S old new)
ends_along R S old new (Ok value) law turns = turns_along S law turns
ends_along R S old new (Err fault) law turns = tt

-- ---- one step

pub makes_put : (p : Path) (e : Entry) (t : Option ℕ) (s : State) → IsPut p (Some e) (seen s) (seen (after (Make p e t) s))
makes_put p e t s = record { here = put_here p p (fresh e) s (path_eq-same p); others = λ q other. put_elsewhere p q (fresh e) s other }

pub renames_move : (p q : Path) (s : State) → IsMoved p q (seen s) (seen (after (Rename p q) s))
renames_move p q s = record { here = rename_here p q q s (path_eq-same q); others = λ r h k. rename_elsewhere p q r s k h }

pub puts_same : (p : Path) (e : Option Entry) (a : Seen) → a p ≡ e → IsPut p e a a
puts_same p e a is = record { here = is; others = λ q other. refl }

-- something is made where nothing was
put_stays : (p : Path) (e : Entry) (a b : Seen) → a p ≡ None → IsPut p (Some e) a b → Stays a b
put_stays p e a b none put r some = by (path_eq p r) refl
  where
    by : (t : Bool) → path_eq p r ≡ t → b r ≡ a r
    by false other = put.others r other
    by true same = absurd (true≢false (sym some ∙ ap is_some (ap a (sym (same_path p r same)) ∙ none)))

pub made_stays : {T : Type 0} → {E : Type 0} → (p : Path) (e : Entry) (old new : Past) (result : Result T E) → IsAlways (λ s. seen s p ≡ None) old
    → OnOk result (Turns (IsPut p (Some e)) old new) → OnOk result (Turns Stays old new)
made_stays p e old new (Ok value) none put =
    turns_when (λ s. seen s p ≡ None) (IsPut p (Some e)) Stays old new none (λ s b is. put_stays p e (seen s) b is) put
made_stays p e old new (Err fault) none put = tt

pub put_but : (p : Path) (e : Option Entry) (a b : Seen) → IsPut p e a b → IsSameBut p a b
put_but p e a b put r other = put.others r other

pub removes_but : (p q : Path) (s : State) → StaysBut p q (seen s) (seen (after (RemoveFile p) s))
removes_but p q s r some other apart = put_elsewhere p r nothing s other

pub renames_but : (p q : Path) (s : State) → StaysBut p q (seen s) (seen (after (Rename p q) s))
renames_but p q s r some other apart = rename_elsewhere p q r s apart other

-- what stays over both parts
pub stays_but : (p q : Path) (a b c : Seen) → Stays a b → IsSameBut p b c → StaysBut p q a c
stays_but p q a b c first later r some other apart = later r other ∙ first r some

pub but_more : (p q : Path) (a b c : Seen) → StaysBut p q a b → StaysBut p q b c → StaysBut p q a c
but_more p q a b c first later r some other apart =
    let here = first r some other apart in later r (ap is_some here ∙ some) other apart ∙ here

-- what is under a file's own name gets its place
pub placed_turns : {T : Type 0} → {E : Type 0} → (n : List ℕ) (i : ℕ) (p q : Path) (old new : Past) (result : Result T E) → p ≡ own_place n i
    → TakesOne (Rename p q) old result new → OnOk result (Turns (IsMoved (own_place n i) q) old new)
placed_turns n i p q old new result at one =
    subst (λ (r : Path). OnOk result (Turns (IsMoved r q) old new)) at (one_turns (IsMoved p q) (Rename p q) old new result (renames_move p q) one)
