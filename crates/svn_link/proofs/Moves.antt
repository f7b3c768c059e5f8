-- Each move of the queue keeps its rule.
use Rattle.std.proofs.Common.{◌≡◌, ◌≢◌, ℕ, zero, suc, ◌+◌, ◌<◌, ◌^◌, true, false, List, [], ◌∷◌, ◌++◌, length, set, sym, refl, ap, ◌∙◌}
use Rattle.std.proofs.Common.{subst, ⊎_elim, append_assoc, arith, length-append}
use mathlib.Core.Option.{some, some-ne-none, some-injective}
use lib.ListN.{get_elem?}
use Rattle.crossbeam_channel.specs.Fifo.{Pushes, Pops, Forks, Merges, Learns}
use Rattle.std.proofs.lemmas.Bool.{false≢true}
use Rattle.svn_editor.specs.declared.call.Call.{Call}
use Rattle.svn_link.specs.declared.queue.Hand.{Hand}
use Rattle.svn_link.specs.Queue.{hand, sent_more, taken_more, IsTake, Fits, IsInOrder}
use Rattle.svn_link.proofs.Views.{each_set, at_end, was_there}

-- a hand that may do nothing fits anywhere
idle : (sender taker : ℕ) (sent taken s t : List Call) (pass : ℕ) → Fits sender taker sent taken pass (hand false false s t)
idle sender taker sent taken s t pass = record { sends = λ e. absurd (false≢true e); takes = λ e. absurd (false≢true e) }

-- making the queue
pub begins : IsInOrder [] (hand true true [] [] ∷ [])
begins = record { sender = 0; taker = 0; sent = []; taken = []; in_order = refl; few = omega arith; each = one }
  where
    one : (pass : ℕ) (h : Hand) → get_elem? (hand true true [] [] ∷ []) pass ≡ some h → Fits 0 0 [] [] pass h
    one zero h e = subst (Fits 0 0 [] [] 0) (some-injective _ _ e) (record { sends = λ _. (refl, refl); takes = λ _. (refl, refl) })
    one (suc j) h e = absurd (some-ne-none h (sym e))

-- a send
pub sends : (n pass : ℕ) (h : Hand) (c : Call) → h.sends ≡ true → length h.sent + 1 < 2 ^ 64
    → Pushes IsInOrder n pass h c (λ k. k ≡ sent_more h c)
sends n pass h c may room items hands _ rule at =
    let mine = rule.each pass h at in
    let known = mine.sends may in
    let sent = rule.sent ++ c ∷ [] in
    let few : length sent < 2 ^ 64 =
    let same = ap (λ (l : List Call). length l) known.1 in omega (arith, length-append rule.sent (c ∷ [])) in (
      sent_more h c,
      record {
        sender = rule.sender;
        taker = rule.taker;
        sent = sent;
        taken = rule.taken;
        in_order = ap (λ l. l ++ c ∷ []) rule.in_order ∙ append_assoc rule.taken items (c ∷ []);
        few = few;
        each = each_set (Fits rule.sender rule.taker sent rule.taken) hands pass (sent_more h c)
            (record { sends = λ _. (known.0, ap (λ l. l ++ c ∷ []) known.1); takes = mine.takes })
            (λ j k other e. record {
              sends = λ s. absurd (other (((rule.each j k e).sends s).0 ∙ sym known.0));
              takes = (rule.each j k e).takes;
            });
      },
      refl,
    )

-- a take
pub takes : (pass : ℕ) (h : Hand) → h.takes ≡ true → Pops IsInOrder pass h (λ c k. IsTake h c k)
takes pass h may c items hands rule at =
    let mine = rule.each pass h at in
    let known = mine.takes may in
    let taken = rule.taken ++ c ∷ [] in
    let order : rule.sent ≡ taken ++ items = rule.in_order ∙ sym (append_assoc rule.taken (c ∷ []) items) in
    let few : length (h.taken ++ c ∷ []) < 2 ^ 64 =
    let all = ap (λ (l : List Call). length l) order in
    let same = ap (λ (l : List Call). length l) known.1 in
    let bound = rule.few in
    omega (arith, length-append taken items, length-append rule.taken (c ∷ []), length-append h.taken (c ∷ [])) in (
      taken_more h c,
      record {
        sender = rule.sender;
        taker = rule.taker;
        sent = rule.sent;
        taken = taken;
        in_order = order;
        few = rule.few;
        each = each_set (Fits rule.sender rule.taker rule.sent taken) hands pass (taken_more h c)
            (record { sends = mine.sends; takes = λ _. (known.0, ap (λ l. l ++ c ∷ []) known.1) })
            (λ j k other e. record {
              sends = (rule.each j k e).sends;
              takes = λ t. absurd (other (((rule.each j k e).takes t).0 ∙ sym known.0));
            });
      },
      (refl, few),
    )

-- splitting the pass
pub splits : (pass : ℕ) (h : Hand) → h.sends ≡ true → h.takes ≡ true
    → Forks IsInOrder pass h (hand true false h.sent []) (hand false true [] h.taken)
splits pass h may_send may_take items hands rule at =
    let left = hand true false h.sent [] in
    let right = hand false true [] h.taken in
    let mine = rule.each pass h at in
    let sender = mine.sends may_send in
    let taker = mine.takes may_take in
    let Front : ℕ → Hand → Type 0 = λ j k. (k.sends ≡ true → (j ≡ rule.sender) × (k.sent ≡ rule.sent)) × (k.takes ≢ true) in
    let front = each_set Front hands pass left
    ((λ _. sender), false≢true)
    (λ j k other e. ((rule.each j k e).sends, λ t. other (((rule.each j k e).takes t).0 ∙ sym taker.0))) in
    record {
      sender = rule.sender;
      taker = length (set hands pass left);
      sent = rule.sent;
      taken = rule.taken;
      in_order = rule.in_order;
      few = rule.few;
      each = λ j k e. ⊎_elim
          (λ (was : get_elem? (set hands pass left) j ≡ some k). record {
            sends = (front j k was).0;
            takes = λ t. absurd ((front j k was).1 t);
          })
          (λ (new : (j ≡ length (set hands pass left)) × (right ≡ k)).
          record {
            sends = λ s. absurd (false≢true (ap (λ (y : Hand). y.sends) new.1 ∙ s));
            takes = λ _. (new.0, ap (λ (y : Hand). y.taken) (sym new.1) ∙ taker.1);
          })
          (at_end (set hands pass left) right k j e);
    }

-- joining the passes
pub joins : (pass : ℕ) (h : Hand) (other : ℕ) (k : Hand) → h.sends ≡ true → k.takes ≡ true
    → Merges IsInOrder pass h other k (hand true true h.sent k.taken) (hand false false [] [])
joins pass h other k may_send may_take items hands rule at apart there =
    let both = hand true true h.sent k.taken in
    let sender = (rule.each pass h at).sends may_send in
    let was = was_there hands pass other both k apart there in
    let taker = (rule.each other k was).takes may_take in
    let Rest : ℕ → Hand → Type 0 = λ j y. j ≢ other → Fits rule.sender pass rule.sent rule.taken j y in
    let rest = each_set Rest hands pass both
    (λ _. record { sends = λ _. sender; takes = λ _. (refl, taker.1) })
    (λ j y _ e away. record {
      sends = (rule.each j y e).sends;
      takes = λ t. absurd (away (((rule.each j y e).takes t).0 ∙ sym taker.0));
    }) in
    record {
      sender = rule.sender;
      taker = pass;
      sent = rule.sent;
      taken = rule.taken;
      in_order = rule.in_order;
      few = rule.few;
      each = each_set (Fits rule.sender pass rule.sent rule.taken) (set hands pass both) other (hand false false [] [])
          (idle rule.sender pass rule.sent rule.taken [] [] other)
          (λ j y away e. rest j y e away);
    }

-- what the joined pass learns of the queue
pub remains : (pass : ℕ) (h : Hand) → h.sends ≡ true → h.takes ≡ true → Learns IsInOrder pass h (λ items. h.sent ≡ h.taken ++ items)
remains pass h may_send may_take items hands rule at =
    let mine = rule.each pass h at in
    (mine.sends may_send).1 ∙ rule.in_order ∙ ap (λ l. l ++ items) (sym (mine.takes may_take).1)
