-- Reading on, up to the first fault.
use Rattle.std.proofs.Common.{◌≡◌, ℕ, suc, ◌+◌, ◌<◌, ◌≤◌, List, length, get_or, drop, Result, Ok, sym, ap, subst, ◌∙◌, arith, drop-cons}
use Rattle.std.proofs.lemmas.List.{drop_all}
use Rattle.svn_wcdb.specs.declared.fault.Reason.{Reason}
use Rattle.svn_wcdb.specs.declared.fault.WcdbFault.{WcdbFault}
use Rattle.svn_wcdb.specs.declared.fault.WcdbFault.TheVariants as faults
use Rattle.svn_wcdb.specs.Reading.{◌>>=◌, each, Fails}

-- a fault stays the first, whatever would be read after it
pub fails_first : {Y W : Type 0} (e : WcdbFault) (read : Result Y Reason) (more : Y → Result W Reason) → Fails e read → Fails e (read >>= more)
fails_first (faults.Refused reason) read more h = ap (λ r. r >>= more) h
fails_first faults.Memory read more h = tt

-- the same where what was read before is known
pub fails_then : {Y W : Type 0} (e : WcdbFault) (read : Result Y Reason) (y : Y) (more : Y → Result W Reason) → read ≡ Ok y → Fails e (more y)
    → Fails e (read >>= more)
fails_then e read y more was h = rw was h

pub fails_same : {Y : Type 0} (e : WcdbFault) (read all : Result Y Reason) → Fails e read → read ≡ all → Fails e all
fails_same e read all h same = subst (λ r. Fails e r) same h

next_of_each : {A S : Type 0} (step : A → S → Result S Reason) (xs : List A) (i : ℕ) (d : A) (state : S) → i < length xs
    → each step (drop i xs) state ≡ (step (get_or xs i d) state >>= each step (drop (i + 1) xs))
next_of_each step xs i d state h =
    let next : suc i ≡ i + 1 = omega arith in
    ap (λ l. each step l state) (drop-cons xs i d h) ∙ ap (λ (k : ℕ). step (get_or xs i d) state >>= each step (drop k xs)) next

-- one more step of a list
pub each_step : {A S : Type 0} (step : A → S → Result S Reason) (xs : List A) (i : ℕ) (d : A) (state new : S) (all : Result S Reason)
    → i < length xs → step (get_or xs i d) state ≡ Ok new → each step (drop i xs) state ≡ all → each step (drop (i + 1) xs) new ≡ all
each_step step xs i d state new all h stepped reads =
    sym (next_of_each step xs i d state h ∙ ap (λ r. r >>= each step (drop (i + 1) xs)) stepped) ∙ reads

-- a step that fails
pub each_fault : {A S : Type 0} (step : A → S → Result S Reason) (xs : List A) (i : ℕ) (d : A) (state : S) (e : WcdbFault) (all : Result S Reason)
    → i < length xs → Fails e (step (get_or xs i d) state) → each step (drop i xs) state ≡ all → Fails e all
each_fault step xs i d state e all h failed reads =
    fails_same e _ all (fails_first e (step (get_or xs i d) state) (each step (drop (i + 1) xs)) failed) (sym (next_of_each step xs i d state h) ∙ reads)

-- the end of a list
pub each_end : {A S : Type 0} (step : A → S → Result S Reason) (xs : List A) (i : ℕ) (state : S) (all : Result S Reason)
    → length xs ≤ i → each step (drop i xs) state ≡ all → all ≡ Ok state
each_end step xs i state all h reads = sym (sym (ap (λ l. each step l state) (drop_all i xs h)) ∙ reads)
