-- Parts of a call one after the other, and what a crash during them leaves.
use Rattle.std.proofs.Common.{◌≡◌, Bool, true, ◌⊎◌, inl, inr, ⊎_elim, List, [], ◌∷◌, ◌++◌, length, take, drop, refl, sym, ◌∙◌, ap, subst, append_assoc, append-nil}
use Rattle.std.specs.Prelude.{Result, Ok, Err, OnOk}
use Rattle.std.specs.List.{list_all}
use Rattle.svn_folder.specs.declared.step.Step.{Step}
use Rattle.svn_folder.specs.States.{Seen, State}
use Rattle.svn_folder.specs.Steps.{run, after}
use Rattle.svn_folder.specs.Crashes.{RunMayLeave}
use Rattle.svn_folder.specs.Pasts.{Past, Known, Broken, LeftSince, moment}
use Rattle.svn_folder.proofs.Runs.{run_join, left_split}
use Rattle.svn_disk.specs.Goes.{IsAlways, Stands, Ends, Keeps, Stops, Took, Missed, TakesOne}
use Rattle.svn_disk.specs.Crashes.{LeavesFrom, AfterFrom, LeadsTo, BreaksAt, Leads, Breaks, Runs}
use Rattle.svn_disk.proofs.Going.{stands_at_first}
use Rattle.svn_disk.proofs.Leaving.{left_since}

-- ---- one after the other

-- a crash during some steps and more, which begin where those end
pub both_left : (C : Seen → Type 0) (s : State) (steps some more : List Step) → ((left : Seen) → RunMayLeave (run s steps) some left → C left)
    → ((left : Seen) → RunMayLeave (run s (steps ++ some)) more left → C left) → (left : Seen) → RunMayLeave (run s steps) (some ++ more) left → C left
both_left C s steps some more first later left may =
    ⊎_elim (first left) (λ latter. later left (subst (λ (t : State). RunMayLeave t more left) (sym (run_join s steps some)) latter))
    (left_split (run s steps) some more left may)

pub both_end : (J : State → Type 0) (s : State) (steps some more : List Step) → J (run (run s (steps ++ some)) more) → J (run (run s steps) (some ++ more))
both_end J s steps some more ends =
    subst J (sym (run_join (run s steps) some more)) (subst (λ (t : State). J (run t more)) (run_join s steps some) ends)

begins_there : (J : State → Type 0) (s : State) (steps some : List Step) → J (run (run s steps) some) → J (run s (steps ++ some))
begins_there J s steps some ends = subst J (sym (run_join s steps some)) ends

pub leads_more : {I J K : State → Type 0} → {C : Seen → Type 0} → {old now new : Past} → Leads I C J old now → Leads J C K now new → Leads I C K old new
leads_more {J = J} {K = K} {C = C} first later = record {
  each = λ s steps is begins.
      let a = first.each s steps is begins in
      let b = later.each s (steps ++ a.more) a.past (begins_there J s steps a.more a.ends) in
      record {
        more = a.more ++ b.more;
        past = b.past ∙ ap (Known s) (append_assoc steps a.more b.more);
        ends = both_end K s steps a.more b.more b.ends;
        meanwhile = both_left C s steps a.more b.more a.meanwhile b.meanwhile;
      };
}

either_past : (s : State) (steps more : List Step) (new : Past) (all : List Step) → steps ≡ all → (new ≡ Known s steps) ⊎ (new ≡ Broken s steps)
    → (new ≡ Known s all) ⊎ (new ≡ Broken s all)
either_past s steps more new all same (inl is) = inl (is ∙ ap (Known s) same)
either_past s steps more new all same (inr is) = inr (is ∙ ap (Broken s) same)

pub breaks_more : {I J : State → Type 0} → {C : Seen → Type 0} → {old now new : Past} → Leads I C J old now → Breaks J C now new → Breaks I C old new
breaks_more {J = J} {C = C} {new = new} first later = record {
  each = λ s steps is begins.
      let a = first.each s steps is begins in
      let b = later.each s (steps ++ a.more) a.past (begins_there J s steps a.more a.ends) in
      record {
        more = a.more ++ b.more;
        past = either_past s ((steps ++ a.more) ++ b.more) [] new (steps ++ (a.more ++ b.more)) (append_assoc steps a.more b.more) b.past;
        meanwhile = both_left C s steps a.more b.more a.meanwhile b.meanwhile;
      };
}

-- it fails outside of the folder
pub breaks_there : {I J : State → Type 0} → {C : Seen → Type 0} → {old now : Past} → Leads I C J old now → Breaks I C old now
breaks_there first = record {
  each = λ s steps is begins. let a = first.each s steps is begins in record { more = a.more; past = inl a.past; meanwhile = a.meanwhile };
}

pub runs_more : {T : Type 0} → {E : Type 0} → {I J : State → Type 0} → {C : Seen → Type 0} → {old now : Past} → (K : State → Type 0) (new : Past)
    (result : Result T E)
    → Leads I C J old now → Runs J C K now result new → Runs I C K old result new
runs_more K new (Ok value) first runs = (leads_more first runs.0, tt)
runs_more K new (Err fault) first runs = (tt, breaks_more first runs.1)

-- whatever comes outside of the folder after that
pub runs_there : {T : Type 0} → {E : Type 0} → {I J : State → Type 0} → {C : Seen → Type 0} → {old now : Past} → (result : Result T E) → Leads I C J old now
    → Runs I C J old result now
runs_there (Ok value) leads = (leads, tt)
runs_there (Err fault) leads = (tt, breaks_there leads)

-- ---- from the steps that a part takes

module _ (I : State → Type 0) (C : Seen → Type 0) (J : State → Type 0) where
  -- of steps that all have P
  pub keeps_leads : (P : Step → Bool) (old new : Past)
      → ((s : State) (more : List Step) → list_all P more ≡ true → I s → J (run s more) × ((left : Seen) → RunMayLeave s more left → C left))
      → Keeps P old new → Leads I C J old new
  keeps_leads P old new law keeps = record {
    each = λ s steps is begins.
        let now = keeps.each s steps (subst (λ (x : Past). Stands P s steps x) (sym is) (stands_at_first P s steps)) in
        let facts = law (run s steps) now.more now.each begins in
        record { more = now.more; past = now.past; ends = facts.0; meanwhile = facts.1 };
  }

  pub stops_breaks : (P : Step → Bool) (old new : Past)
      → ((s : State) (more : List Step) → list_all P more ≡ true → I s → (left : Seen) → RunMayLeave s more left → C left)
      → Stops P old new → Breaks I C old new
  stops_breaks P old new law stops = record {
    each = λ s steps is begins.
        let now = stops.each s steps (subst (λ (x : Past). Stands P s steps x) (sym is) (stands_at_first P s steps)) in
        record { more = now.more; past = now.past; meanwhile = law (run s steps) now.more now.each begins };
  }

  -- of one step
  pub took_leads : (step : Step) (old new : Past)
      → ((s : State) → I s → J (after step s) × ((left : Seen) → RunMayLeave s (step ∷ []) left → C left)) → Took step old new → Leads I C J old new
  took_leads step old new law took = record {
    each = λ s steps is begins.
        let facts = law (run s steps) begins in
        record { more = step ∷ []; past = took.each s steps is; ends = facts.0; meanwhile = facts.1 };
  }

  pub missed_breaks : (step : Step) (old new : Past) → ((s : State) → I s → (left : Seen) → RunMayLeave s (step ∷ []) left → C left)
      → Missed step old new → Breaks I C old new
  missed_breaks step old new law missed = record {
    each = λ s steps is begins. by s steps begins (missed.each s steps is);
  }
    where
      by : (s : State) (steps : List Step) → I (run s steps) → (new ≡ Known s steps) ⊎ (new ≡ Broken s (steps ++ step ∷ [])) → BreaksAt C s steps new
      by s steps begins (inl same) = record {
        more = [];
        past = inl (same ∙ ap (Known s) (sym (append-nil steps)));
        meanwhile = λ left may. law (run s steps) begins left (inl may);
      }
      by s steps begins (inr failed) = record { more = step ∷ []; past = inr failed; meanwhile = law (run s steps) begins }

  -- nothing is done
  pub breaks_none : ((s : State) → I s → (left : Seen) → RunMayLeave s [] left → C left) → (now : Past) → Breaks I C now now
  breaks_none law now = record {
    each = λ s steps is begins. record { more = []; past = inl (is ∙ ap (Known s) (sym (append-nil steps))); meanwhile = law (run s steps) begins };
  }

  pub one_runs : {T : Type 0} → {E : Type 0} → (step : Step) (old new : Past) (result : Result T E) → (Took step old new → Leads I C J old new)
      → (Missed step old new → Breaks I C old new) → TakesOne step old result new → Runs I C J old result new
  one_runs step old new (Ok value) leads breaks one = (leads one.0, tt)
  one_runs step old new (Err fault) leads breaks one = (tt, breaks one.1)

-- ---- of a whole call

-- any step may have been taken
abbrev any : Step → Bool
any step = true

all_any : (steps : List Step) → list_all any steps ≡ true
all_any [] = refl
all_any (step ∷ steps) = all_any steps

since_then : (C : Seen → Type 0) (s : State) (steps more : List Step) (new : Past) → (new ≡ Known s (steps ++ more)) ⊎ (new ≡ Broken s (steps ++ more))
    → ((left : Seen) → RunMayLeave (run s steps) more left → C left) → (left : Seen) → LeftSince new (length steps) left → C left
since_then C s steps more new past meanwhile left may =
    meanwhile left (left_since any s steps new (record { more = more; each = all_any more; past = past }) left may)

pub leads_leaves : {I J : State → Type 0} → {C : Seen → Type 0} → {old new : Past} → Leads I C J old new → LeavesFrom I C old new
leads_leaves {C = C} {new = new} leads s steps is begins left may =
    let a = leads.each s steps is begins in since_then C s steps a.more new (inl a.past) a.meanwhile left may

pub breaks_leaves : {I : State → Type 0} → {C : Seen → Type 0} → {old new : Past} → Breaks I C old new → LeavesFrom I C old new
breaks_leaves {C = C} {new = new} breaks s steps is begins left may =
    let a = breaks.each s steps is begins in since_then C s steps a.more new a.past a.meanwhile left may

-- a crash after it
after_it : (P : Seen → Type 0) (s : State) (steps : List Step) (new : Past) → new ≡ Known s steps
    → ((left : Seen) → RunMayLeave (run s steps) [] left → P left) → (left : Seen) → LeftSince new (moment new) left → P left
after_it P s steps new is law left may =
    let known : LeftSince (Known s steps) (length steps) left = subst (λ (x : Past). LeftSince x (moment x) left) is may in
    let again : LeftSince (Known s (steps ++ [])) (length steps) left = subst (λ (xs : List Step). LeftSince (Known s xs) (length steps) left) (sym (append-nil steps)) known in
    law left (left_since any s steps (Known s (steps ++ [])) (record { more = []; each = refl; past = inl refl }) left again)

pub leads_after : {C P : Seen → Type 0} → {I J : State → Type 0} → {old new : Past} → ((s : State) → J s → (left : Seen) → RunMayLeave s [] left → P left)
    → Leads I C J old new → AfterFrom I P old new
leads_after {P = P} {J = J} {new = new} law leads s steps is begins left may =
    let a = leads.each s steps is begins in
    after_it P s (steps ++ a.more) new a.past (law (run s (steps ++ a.more)) (begins_there J s steps a.more a.ends)) left may

-- ---- by its result

pub runs_leaves : {T : Type 0} → {E : Type 0} → (I : State → Type 0) (C : Seen → Type 0) (K : State → Type 0) (old new : Past) (result : Result T E)
    → Runs I C K old result new → LeavesFrom I C old new
runs_leaves I C K old new (Ok value) runs = leads_leaves runs.0
runs_leaves I C K old new (Err fault) runs = breaks_leaves runs.1

pub runs_after : {T : Type 0} → {E : Type 0} → (I : State → Type 0) (C P : Seen → Type 0) (K : State → Type 0) (old new : Past) (result : Result T E)
    → ((s : State) → K s → (left : Seen) → RunMayLeave s [] left → P left) → Runs I C K old result new → OnOk result (AfterFrom I P old new)
runs_after I C P K old new (Ok value) law runs = leads_after law runs.0
runs_after I C P K old new (Err fault) law runs = tt

-- ---- more at the beginning, and less at the end

pub leads_along : {H I J K : State → Type 0} → {C D : Seen → Type 0} → {old new : Past} → ((s : State) → H s → I s) → ((seen : Seen) → C seen → D seen)
    → ((s : State) → J s → K s) → Leads I C J old new → Leads H D K old new
leads_along begin left end leads = record {
  each = λ s steps is begins.
      let a = leads.each s steps is (begin (run s steps) begins) in
      record { more = a.more; past = a.past; ends = end (run (run s steps) a.more) a.ends; meanwhile = λ seen may. left seen (a.meanwhile seen may) };
}

pub breaks_along : {H I : State → Type 0} → {C D : Seen → Type 0} → {old new : Past} → ((s : State) → H s → I s) → ((seen : Seen) → C seen → D seen)
    → Breaks I C old new → Breaks H D old new
breaks_along begin left breaks = record {
  each = λ s steps is begins.
      let a = breaks.each s steps is (begin (run s steps) begins) in
      record { more = a.more; past = a.past; meanwhile = λ seen may. left seen (a.meanwhile seen may) };
}

pub runs_along : {T : Type 0} → {E : Type 0} → (H I J K : State → Type 0) (C D : Seen → Type 0) → ((s : State) → H s → I s) → ((seen : Seen) → C seen → D seen)
    → ((s : State) → J s → K s) → (old new : Past) (result : Result T E) → Runs I C J old result new → Runs H D K old result new
runs_along H I J K C D begin left end old new (Ok value) runs = (leads_along begin left end runs.0, tt)
runs_along H I J K C D begin left end old new (Err fault) runs = (tt, breaks_along begin left runs.1)

-- ---- what is known of the folder

-- before
pub leads_when : (Q I J : State → Type 0) (C : Seen → Type 0) (old new : Past) → IsAlways Q old → Leads (λ s. I s × Q s) C J old new → Leads I C J old new
leads_when Q I J C old new always leads = record { each = λ s steps is begins. leads.each s steps is (begins, always s steps is) }

pub breaks_when : (Q I : State → Type 0) (C : Seen → Type 0) (old new : Past) → IsAlways Q old → Breaks (λ s. I s × Q s) C old new → Breaks I C old new
breaks_when Q I C old new always breaks = record { each = λ s steps is begins. breaks.each s steps is (begins, always s steps is) }

-- and after
pub leads_known : (Q I J : State → Type 0) (C : Seen → Type 0) (old new : Past) → IsAlways Q new → Leads I C J old new → Leads I C (λ s. J s × Q s) old new
leads_known Q I J C old new always leads = record {
  each = λ s steps is begins.
      let a = leads.each s steps is begins in
      record {
        more = a.more;
        past = a.past;
        ends = (a.ends, subst Q (run_join s steps a.more) (always s (steps ++ a.more) a.past));
        meanwhile = a.meanwhile;
      };
}

-- nothing is done
pub leads_none : (I : State → Type 0) (C : Seen → Type 0) → ((s : State) → I s → (left : Seen) → RunMayLeave s [] left → C left) → (now : Past) → Leads I C I now now
leads_none I C law now = record {
  each = λ s steps is begins.
      record { more = []; past = is ∙ ap (Known s) (sym (append-nil steps)); ends = begins; meanwhile = law (run s steps) begins };
}
