-- What one more call makes of what was taken.
use Rattle.std.proofs.Common.{◌≡◌, ℕ, ◌+◌, ◌≤◌, Bool, true, false, List, [], ◌∷◌, ◌++◌, length, take, append-nil, refl, sym, ap, subst}
use Rattle.std.proofs.Common.{◌∙◌, ⊎_elim, arith, length-append}
use Rattle.std.specs.Prelude.{◌⊎◌, not, if◌then◌else◌, Option, Some, None, is_some, Ok, Err}
use Rattle.std.proofs.lemmas.List.{take-append-le}
use Rattle.std.proofs.lemmas.List.Elements.{filter-append}
use Rattle.std.proofs.Math.Seq.{take-length}
use Rattle.md5.specs.Md5.{md5}
use Rattle.svn_types.specs.Names.{Path}
use Rattle.svn_editor.specs.declared.call.Call.{Call}
use Rattle.svn_editor.specs.declared.fault.EditFault.{EditFault}
use Rattle.svn_editor.specs.Calls.{is_abort}
use Rattle.svn_editor.specs.declared.mode.Mode.{Mode}
use Rattle.svn_edit.specs.declared.pending.Pending.{Pending}
use Rattle.svn_edit.specs.Carrying.{CarriedOut, Carries}
use Rattle.law_copy.specs.Laws.{calls_are_applied_in_turn}
use Rattle.svn_model.specs.Nodes.{WorkingCopy, get_in}
use Rattle.svn_model.specs.Effects.{after, IsAccepted, AllAccepted}
use Rattle.svn_run.specs.UpdateTheorem.{Nodes}
use Rattle.svn_run.specs.Takes.{unaborted, Skips, Skipped, Accepted, Refused, Offered, IsCounted}
use Rattle.svn_run.proofs.Accepting.{accepted_before, accepted_last, accepted_next}

-- one call more is applied, unless it is an `AbortEdit`
unaborted-one : (c : Call) (b : Bool) → is_abort c ≡ b → unaborted (c ∷ []) ≡ (if not b then c ∷ [] else [])
unaborted-one c b is = ap (λ x. if not x then c ∷ [] else []) is

pub unaborted-inner : (calls : List Call) (c : Call) → is_abort c ≡ false → unaborted (calls ++ c ∷ []) ≡ unaborted calls ++ c ∷ []
unaborted-inner calls c inner = filter-append (λ x. not (is_abort x)) calls (c ∷ [])
    ∙ ap (λ l. unaborted calls ++ l) (unaborted-one c false inner)

pub unaborted-abort : (calls : List Call) (c : Call) → is_abort c ≡ true → unaborted (calls ++ c ∷ []) ≡ unaborted calls
unaborted-abort calls c abort = filter-append (λ x. not (is_abort x)) calls (c ∷ [])
    ∙ ap (λ l. unaborted calls ++ l) (unaborted-one c true abort) ∙ append-nil (unaborted calls)

abbrev no_number : Option ℕ
no_number = None

-- where no number was reported, all of the calls were applied
abbrev pub GoesOn : Mode → WorkingCopy → Pending → Nodes → List Call → Option ℕ → Type 0
GoesOn mode w0 edit nodes calls None = CarriedOut mode w0 edit nodes calls
GoesOn mode w0 edit nodes calls (Some n) = Unit {0}

-- these calls were applied, up to the first that was refused
pub record Holding (mode : Mode) (w0 : WorkingCopy) (edit : Pending) (nodes : Nodes) (calls : List Call) (number : Option ℕ)
    (accepted : ℕ) : Type 0 where
  pub counted : IsCounted number accepted (length calls)
  pub copy : (p : Path) → get_in nodes p ≡ after mode w0 (take accepted calls) p
  pub on : GoesOn mode w0 edit nodes calls number

-- where all are accepted, those before the last are
earlier : (mode : Mode) (w0 : WorkingCopy) (calls : List Call) (c : Call) → AllAccepted md5 mode w0 (unaborted (calls ++ c ∷ []))
    → AllAccepted md5 mode w0 (unaborted calls)
earlier mode w0 calls c h = by (is_abort c) refl
  where
    by : (b : Bool) → is_abort c ≡ b → AllAccepted md5 mode w0 (unaborted calls)
    by true q = subst (AllAccepted md5 mode w0) (unaborted-abort calls c q) h
    by false q = accepted_before mode [] w0 (unaborted calls) c (subst (AllAccepted md5 mode w0) (unaborted-inner calls c q) h)

module _ (mode : Mode) (w0 : WorkingCopy) where
  pub begins : (edit : Pending) (nodes : Nodes) → CarriedOut mode w0 edit nodes [] → Holding mode w0 edit nodes [] None 0
  begins edit nodes carried = record { counted = refl; copy = carried.copy; on = carried }

  pub count_within : (number : Option ℕ) (accepted all : ℕ) → IsCounted number accepted all → accepted ≤ all
  count_within None accepted all h = omega arith
  count_within (Some n) accepted all h = let lt = h.1 in omega arith

  -- ---- one call more

  accepts : (edit : Pending) (nodes : Nodes) (calls : List Call) (accepted : ℕ) (c : Call) (edit' : Pending) (nodes' : Nodes) (accepted' : ℕ)
      → Holding mode w0 edit nodes calls None accepted → Carries mode edit nodes c (Ok tt) edit' nodes'
      → IsAccepted md5 mode calls (after mode w0 calls) c → accepted' ≡ accepted + 1
      → Holding mode w0 edit' nodes' (calls ++ c ∷ []) None accepted'
  accepts edit nodes calls accepted c edit' nodes' accepted' h carries accept more =
      let carried = accepted_next mode w0 calls edit nodes c edit' nodes' carries h.on accept in
      let was = h.counted in
      let all : accepted' ≡ length (calls ++ c ∷ []) = omega (arith, length-append calls (c ∷ [])) in
      record {
        counted = all;
        copy = λ p. carried.copy p
            ∙ ap (λ l. after mode w0 l p) (sym (ap (λ n. take n (calls ++ c ∷ [])) all ∙ take-length (calls ++ c ∷ [])));
        on = carried;
      }

  refuses : (edit : Pending) (nodes : Nodes) (calls : List Call) (accepted : ℕ) (c : Call) (fault : EditFault) (edit' : Pending) (nodes' : Nodes)
      → Holding mode w0 edit nodes calls None accepted → Carries mode edit nodes c (Err fault) edit' nodes'
      → Holding mode w0 edit' nodes' (calls ++ c ∷ []) (Some (accepted + 1)) accepted
  refuses edit nodes calls accepted c fault edit' nodes' h carries =
      let was = h.counted in
      let le : accepted ≤ length calls = omega arith in
      record {
        counted = (refl, omega (arith, length-append calls (c ∷ [])));
        copy = λ p. ap (λ (n : Nodes). get_in n p) carries.refused ∙ h.copy p
            ∙ ap (λ l. after mode w0 l p) (sym (take-append-le accepted calls (c ∷ []) le));
        on = tt;
      }

  -- a call that isn't given leaves all as it is
  skips : (edit : Pending) (nodes : Nodes) (calls : List Call) (number : Option ℕ) (accepted : ℕ) (c : Call) → Skips c number
      → Holding mode w0 edit nodes (unaborted calls) number accepted
      → Holding mode w0 edit nodes (unaborted (calls ++ c ∷ [])) number accepted
  skips edit nodes calls number accepted c why h = by (is_abort c) refl number why h
    where
      by : (b : Bool) → is_abort c ≡ b → (number : Option ℕ) → Skips c number → Holding mode w0 edit nodes (unaborted calls) number accepted
          → Holding mode w0 edit nodes (unaborted (calls ++ c ∷ [])) number accepted
      by true q number why h = subst (λ l. Holding mode w0 edit nodes l number accepted) (sym (unaborted-abort calls c q)) h
      by false q None why h = absurd
          (⊎_elim (λ (t : is_abort c ≡ true). let e = sym q ∙ t in cc) (λ (t : is_some no_number ≡ true). absurd cc) why)
      by false q (Some n) why h =
          let le = count_within (Some n) accepted (length (unaborted calls)) h.counted in
          let lt = h.counted.1 in
          let longer : Holding mode w0 edit nodes (unaborted calls ++ c ∷ []) (Some n) accepted = record {
            counted = (h.counted.0, omega (arith, length-append (unaborted calls) (c ∷ [])));
            copy = λ p. h.copy p ∙ ap (λ l. after mode w0 l p) (sym (take-append-le accepted (unaborted calls) (c ∷ []) le));
            on = tt;
          } in
          subst (λ l. Holding mode w0 edit nodes l (Some n) accepted) (sym (unaborted-inner calls c q)) longer

  pub holds_next : calls_are_applied_in_turn → (calls : List Call) (c : Call) (number : Option ℕ) (accepted : ℕ) (edit : Pending) (nodes : Nodes)
      (number' : Option ℕ) (accepted' : ℕ) (edit' : Pending) (nodes' : Nodes)
      → Offered mode c number accepted edit nodes number' accepted' edit' nodes' → AllAccepted md5 mode w0 (unaborted (calls ++ c ∷ []))
      → (AllAccepted md5 mode w0 (unaborted calls) → Holding mode w0 edit nodes (unaborted calls) number accepted)
      → Holding mode w0 edit' nodes' (unaborted (calls ++ c ∷ [])) number' accepted'
  holds_next more calls c number accepted edit nodes number' accepted' edit' nodes' offered accept before =
      let h = before (earlier mode w0 calls c accept) in
      ⊎_elim
      (λ (t : Skipped c number accepted edit nodes number' accepted' edit' nodes').
      subst (λ (y : Option ℕ × ℕ × Pending × Nodes). Holding mode w0 y.2 y.3 (unaborted (calls ++ c ∷ [])) y.0 y.1)
      (λ i. (sym t.same_number i, sym t.same_count i, sym t.same_edit i, sym t.same_nodes i))
      (skips edit nodes calls number accepted c t.why h))
      (λ (u : Accepted mode c number accepted edit nodes number' accepted' edit' nodes'
      ⊎ Refused mode c number accepted edit nodes number' accepted' edit' nodes').
      ⊎_elim
      (λ (t : Accepted mode c number accepted edit nodes number' accepted' edit' nodes').
      subst (λ (y : List Call × Option ℕ). Holding mode w0 edit' nodes' y.0 y.1 accepted')
      (λ i. (sym (unaborted-inner calls c t.inner) i, sym t.none_told i))
      (accepts edit nodes (unaborted calls) accepted c edit' nodes' accepted'
      (subst (λ n. Holding mode w0 edit nodes (unaborted calls) n accepted) t.untold h) t.carried
      (accepted_last more mode w0 (unaborted calls) c (subst (AllAccepted md5 mode w0) (unaborted-inner calls c t.inner) accept)) t.one_more))
      (λ (t : Refused mode c number accepted edit nodes number' accepted' edit' nodes').
      subst (λ (y : List Call × Option ℕ × ℕ). Holding mode w0 edit' nodes' y.0 y.1 y.2)
      (λ i. (sym (unaborted-inner calls c t.inner) i, sym t.told i, sym t.same_count i))
      (refuses edit nodes (unaborted calls) accepted c t.fault edit' nodes'
      (subst (λ n. Holding mode w0 edit nodes (unaborted calls) n accepted) t.untold h) t.refused))
      u)
      offered

-- at most one more was accepted
pub within_next : (mode : Mode) (c : Call) (number : Option ℕ) (accepted : ℕ) (edit : Pending) (nodes : Nodes) (number' : Option ℕ) (accepted' : ℕ)
    (edit' : Pending) (nodes' : Nodes)
    → Offered mode c number accepted edit nodes number' accepted' edit' nodes' → accepted' ≤ accepted + 1
within_next mode c number accepted edit nodes number' accepted' edit' nodes' offered =
    ⊎_elim
    (λ (t : Skipped c number accepted edit nodes number' accepted' edit' nodes'). let same = t.same_count in omega arith)
    (λ (u : Accepted mode c number accepted edit nodes number' accepted' edit' nodes'
    ⊎ Refused mode c number accepted edit nodes number' accepted' edit' nodes').
    ⊎_elim
    (λ (t : Accepted mode c number accepted edit nodes number' accepted' edit' nodes'). let more = t.one_more in omega arith)
    (λ (t : Refused mode c number accepted edit nodes number' accepted' edit' nodes'). let same = t.same_count in omega arith)
    u)
    offered
