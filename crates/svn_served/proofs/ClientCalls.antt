-- Calls that are passed on as a client is sent them.
use Rattle.std.proofs.Common.{◌≡◌, ℕ, Bool, true, false, List, [], ◌∷◌, ◌++◌, Option, Result, Ok, inl, inr, ap, subst, if◌then◌else◌, MatchBool}
use Rattle.svn_editor.specs.declared.call.Call.{Call}
use Rattle.svn_editor.specs.declared.call.Call.TheVariants.{AbortEdit}
use Rattle.svn_editor.specs.declared.fault.EditFault.{EditFault}
use Rattle.svn_editor.specs.Calls.{is_abort}
use Rattle.svn_editor.specs.Editing.{Leads}
use Rattle.svn_served.specs.ClientCalls.{client_call, client_calls, Skips, PassesOn, Shows}

module _ {E : Type 0} (answers : E → Call → Result (Unit {0}) EditFault → E → Type 0) where
  passed_first : (call : Call) (e m w : E) (rest : List Call) → PassesOn answers e call (Ok tt) m → Leads answers rest m w
      → Leads answers (call ∷ rest) e w
  passed_first call e m w rest (inl h) more = (m, h, more)
  passed_first call e m w rest (inr h) more = let q = h.0 in absurd cc

  -- one accepted call, and then the others
  after_one : (b : Bool) (call : Call) (e m w : E) (rest : List Call)
      → MatchBool b (Skips e (Ok tt) m) (PassesOn answers e call (Ok tt) m) → Leads answers rest m w
      → Leads answers ((if b then [] else call ∷ []) ++ rest) e w
  after_one true call e m w rest h more = subst (λ (x : E). Leads answers rest x w) h.1 more
  after_one false call e m w rest h more = passed_first call e m w rest h more

  module _ {V N : Type 0} (editor : V → E) (held : V → N) (name : V → Option (List ℕ)) (texts : V → Bool) where
    -- the answers of an editor that passes calls on so, always to the same one
    abbrev pub Views : V → Call → Result (Unit {0}) EditFault → V → Type 0
    Views before call answer after =
        (name after ≡ name before) × (texts after ≡ texts before) × (held after ≡ held before)
        × Shows answers (name before) (texts before) (editor before) call answer (editor after)

    pub leads_on : (calls : List Call) (v w : V) → Leads Views calls v w
        → Leads answers (client_calls (name v) (texts v) calls) (editor v) (editor w)
    leads_on [] v w h = ap editor h
    leads_on (c ∷ calls) v w h =
        let step = h.1 in
        let rest = leads_on calls h.0 w h.2 in
        let with_texts = subst (λ (t : Bool). Leads answers (client_calls (name h.0) t calls) (editor h.0) (editor w)) step.1 rest in
        let same = subst (λ (n : Option (List ℕ)). Leads answers (client_calls n (texts v) calls) (editor h.0) (editor w)) step.0 with_texts in
        after_one (is_abort c) (client_call (name v) (texts v) c) (editor v) (editor h.0) (editor w) (client_calls (name v) (texts v) calls) step.3 same

    -- of a drive that is given up the client isn't told by a call
    pub abort_passed : (v w : V) (answer : Result (Unit {0}) EditFault) → Views v AbortEdit answer w → editor w ≡ editor v
    abort_passed v w answer h = h.3.1
