-- What comes of an item, step by step.
use Rattle.std.proofs.Common.{◌≡◌, ℕ, Bool, true, false, List, [], ◌∷◌, ◌++◌, Some, Result, Ok, Err, sym, ap, subst, ◌∙◌, append_assoc}
use Rattle.svn_wire.specs.declared.token.Token.{Token}
use Rattle.svn_ask.specs.declared.fault.AskFault.{AskFault}
use Rattle.svn_ask.specs.declared.fault.Reason.{Reason}
use Rattle.svn_ask.specs.declared.opening.Step.{Step}
use Rattle.svn_ask.specs.declared.question.Question.{Question}
use Rattle.svn_ask.specs.Reading.{Fails}
use Rattle.svn_ask.specs.Answers.{answer_of}
use Rattle.svn_ask.specs.Openings.{onto}
use Rattle.svn_ask.specs.Windows.{Queue, asked, passed, first_of}
use Rattle.svn_ask.specs.Asking.{asked_at, going_on, answered}
use Rattle.svn_ask.specs.Talks.{Opens}
use Rattle.svn_ask.proofs.ReadingLemmas.{fails_first}

step_in : Step → Result (Step × List ℕ) Reason → Step
step_in d (Ok y) = y.0
step_in d (Err e) = d

bytes_in : List ℕ → Result (Step × List ℕ) Reason → List ℕ
bytes_in d (Ok y) = y.1
bytes_in d (Err e) = d

onto_ok : (out : List ℕ) (read : Result (Step × List ℕ) Reason) (next : Step) (mid : List ℕ) → onto out read ≡ Ok (next, mid)
    → (w : List ℕ) × (read ≡ Ok (next, w)) × (mid ≡ out ++ w)
unfolding step_in bytes_in
onto_ok out (Ok x) next mid h = (x.1, ap (λ (n : Step). Ok (n, x.1)) (ap (step_in next) h), sym (ap (bytes_in mid) h))
onto_ok out (Err e) next mid h = cc

-- the opening goes on, and after its last step questions are asked
pub opens : (read : Result (Step × List ℕ) Reason) (queue queue' : Queue) (out mid new : List ℕ) (next : Step) → onto out read ≡ Ok (next, mid)
    → queue' ≡ (asked_at next queue).0 → new ≡ mid ++ (asked_at next queue).1
    → Opens read queue out (record { step = next; is_next = false; queue = queue' }) new
opens read queue queue' out mid new next h same written =
    let w = onto_ok out read next mid h in
    record {
      next = (next, w.0);
      reads = w.1;
      state = ap (λ (q : Queue). record { step = next; is_next = false; queue = q }) same;
      written = written ∙ ap (λ (m : List ℕ). m ++ (asked_at next queue).1) w.2 ∙ append_assoc out w.0 (asked_at next queue).1;
    }

-- the question that is next has no such answer
pub answer_fails : (step : Step) (is_next : Bool) (queue : Queue) (sent : List Question) (q : Question) (tokens : List Token) (e : AskFault)
    → is_next ≡ true → Some q ≡ first_of sent → Fails e (answer_of q.wanted q.rev tokens) → Fails e (answered step is_next queue sent tokens)
answer_fails step false queue sent q tokens e next first h = cc
answer_fails step true queue [] q tokens e next first h = cc
answer_fails step true queue (p ∷ sent) q tokens e next first h =
    let p_is : q ≡ p = cc in
    fails_first e (answer_of p.wanted p.rev tokens) (λ said. Ok (going_on step (Some (p, said)) [] (asked (passed queue sent))))
    (subst (λ (o : Question). Fails e (answer_of o.wanted o.rev tokens)) p_is h)
