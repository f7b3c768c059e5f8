-- What is heard of bytes, item by item.
use Rattle.std.proofs.Common.{◌≡◌, ℕ, List, [], ◌∷◌, ◌++◌, Option, Some, None, Result, Ok, Err, refl, sym, ap, subst, ◌∙◌, append_assoc, append-nil}
use Rattle.std.specs.List.{cons_option}
use Rattle.svn_wire.specs.declared.fault.Stop.{Stop}
use Rattle.svn_wire.specs.declared.fault.Stop.TheVariants.{More, Bad}
use Rattle.svn_wire.specs.declared.fault.WireFault.{WireFault}
use Rattle.svn_wire.specs.declared.fault.WireFault.TheVariants as wire
use Rattle.svn_wire.specs.declared.token.Token.{Token}
use Rattle.svn_wire.specs.Reading.{Fails as WireFails}
use Rattle.svn_wire.specs.Streams.{Waiting, reads_now, TakesItem as TakesTokens}
use Rattle.svn_wire.specs.Sessions.{Heard, found, items_of, items_in, LeavesOff}
use Rattle.svn_wire.proofs.StreamItems.{next_leaves, leaves_nothing, leaves_more, leaves_now, none_now, bad_now}
use Rattle.svn_ask.specs.declared.fault.AskFault.{AskFault}
use Rattle.svn_ask.specs.declared.fault.AskFault.TheVariants as faults
use Rattle.svn_ask.specs.declared.fault.Reason.{Reason}
use Rattle.svn_ask.specs.declared.opening.Speaker.{Speaker}
use Rattle.svn_ask.specs.declared.question.Question.{Question}
use Rattle.svn_ask.specs.Reading.{Fails}
use Rattle.svn_ask.specs.Answers.{SaidValue}
use Rattle.svn_ask.specs.Asking.{State, taken}
use Rattle.svn_ask.specs.Talks.{Hears, TakesItem, OnRefused, Ends, Refuses, IsRefused}
use Rattle.svn_ask.specs.Courses.{Course, stays, before, on_taken, course, HearsAll, item_fault, FailsItem}
use Rattle.svn_ask.specs.Laws.{joined}
use Rattle.svn_ask.proofs.CourseLemmas.{course_more, hears_more}

-- a fault of an item
pub fails_item : {Y : Type 0} (fault : WireFault) (e : AskFault) (read : Result Y Stop) → WireFails fault read → item_fault fault ≡ Err e → FailsItem e read
fails_item (wire.Stopped More) e read h i = cc
fails_item (wire.Stopped (Bad malformed)) e read h i = subst (λ r. IsFailed r) i (malformed, refl, h)
  where
    IsFailed : Result (Unit {0}) AskFault → Type 0
    IsFailed (Ok x) = ⊥
    IsFailed (Err e) = FailsItem e read
fails_item wire.Memory e read h i = subst (λ r. IsFailed r) i tt
  where
    IsFailed : Result (Unit {0}) AskFault → Type 0
    IsFailed (Ok x) = ⊥
    IsFailed (Err e) = FailsItem e read

-- no item is whole
pub waits_for : {Y : Type 0} (fault : WireFault) (read : Result Y Stop) → WireFails fault read → item_fault fault ≡ Ok tt → read ≡ Err More
waits_for (wire.Stopped More) read h i = h
waits_for (wire.Stopped (Bad malformed)) read h i = cc
waits_for wire.Memory read h i = cc

-- ---- items were taken, and nothing was refused

pub record Goes {L : Type 0} (hears : L → Question → SaidValue → L → Type 0) (speaker : Speaker) (w : Waiting) (s : State) (l : L) (out : List ℕ)
    (w' : Waiting) (s' : State) (l' : L) (out' : List ℕ) : Type 0 where
  pub items : List Heard
  pub leaves : LeavesOff w items w'
  pub taken : (course speaker s items).fault ≡ None
  pub state : s' ≡ (course speaker s items).state
  pub written : out' ≡ out ++ (course speaker s items).written
  pub heard : HearsAll hears l (course speaker s items).heard l'

-- nothing yet
pub begins : {L : Type 0} (hears : L → Question → SaidValue → L → Type 0) (speaker : Speaker) (w : Waiting) (s : State) (l : L) (out : List ℕ)
    → Goes hears speaker w s l out w s l out
begins hears speaker w s l out = record {
  items = [];
  leaves = λ more. refl;
  taken = refl;
  state = refl;
  written = sym (append-nil out);
  heard = refl;
}

hears_one : {L : Type 0} (hears : L → Question → SaidValue → L → Type 0) (old new : L) (heard : Option (Question × SaidValue)) → Hears hears old heard new
    → HearsAll hears old (cons_option heard []) new
hears_one hears old new None h = h
hears_one hears old new (Some x) h = (new, h, refl)

module _ {L : Type 0} (hears : L → Question → SaidValue → L → Type 0) (speaker : Speaker) (w : Waiting) (s : State) (l : L) (out : List ℕ) where
  -- one item more
  pub goes_on : (w' w'' : Waiting) (s' s'' : State) (l' l'' : L) (out' out'' : List ℕ) (tokens : List Token)
      → Goes hears speaker w s l out w' s' l' out' → TakesTokens w' (Some tokens) w'' → TakesItem hears (taken speaker s' tokens) l' out' s'' l'' out''
      → Goes hears speaker w s l out w'' s'' l'' out''
  goes_on w' w'' s' s'' l' l'' out' out'' tokens g t x =
      let front = course speaker s g.items in
      let here : course speaker front.state (Ok tokens ∷ []) ≡ before x.item (stays x.item.state None) =
      ap (λ (a : State). course speaker a (Ok tokens ∷ [])) (sym g.state) ∙ ap (λ r. on_taken s' r (λ a. stays a None)) x.reads in
      let all : course speaker s (g.items ++ Ok tokens ∷ []) ≡ joined front (before x.item (stays x.item.state None)) =
      course_more speaker s g.items (Ok tokens ∷ []) g.taken ∙ ap (joined front) here in
      record {
        items = g.items ++ Ok tokens ∷ [];
        leaves = leaves_more w w' w'' g.items (Ok tokens ∷ []) g.leaves (next_leaves w' w'' tokens t.0 t.1);
        taken = ap (λ (c : Course). c.fault) all;
        state = x.state ∙ sym (ap (λ (c : Course). c.state) all);
        written = x.written ∙ ap (λ (b : List ℕ). b ++ x.item.written) g.written ∙ append_assoc out front.written x.item.written
            ∙ ap (λ (b : List ℕ). out ++ (front.written ++ b)) (sym (append-nil x.item.written))
            ∙ sym (ap (λ (c : Course). out ++ c.written) all);
        heard = subst (λ (heard : List (Question × SaidValue)). HearsAll hears l heard l'') (sym (ap (λ (c : Course). c.heard) all))
            (hears_more hears l l' l'' front.heard (cons_option x.item.heard []) g.heard (hears_one hears l' l'' x.item.heard x.heard));
      }

  -- ---- no item more is whole

  all_items : (w' : Waiting) (s' : State) (l' : L) (out' : List ℕ) (g : Goes hears speaker w s l out w' s' l' out') → reads_now w' ≡ Err More
      → items_in w ≡ g.items
  all_items w' s' l' out' g none =
      leaves_now w w' g.items g.leaves ∙ ap (λ (i : List Heard). g.items ++ i) (none_now w' none) ∙ append-nil g.items

  pub ends : (w' w'' : Waiting) (s' : State) (l' : L) (out' : List ℕ) → Goes hears speaker w s l out w' s' l' out' → TakesTokens w' None w''
      → Ends hears speaker w s l out w'' s' l' out'
  ends w' w'' s' l' out' g t =
      let all = all_items w' s' l' out' g t.0 in
      record {
        taken = rw all g.taken;
        state = rw all g.state;
        written = rw all g.written;
        heard = rw all g.heard;
        stream = subst (λ (i : List Heard). LeavesOff w i w'') (append-nil g.items ∙ sym all)
            (leaves_more w w' w'' g.items [] g.leaves (leaves_nothing w' w'' t.1));
      }

  -- ---- an item is refused

  refuses : (w' : Waiting) (s' : State) (l' : L) (out' : List ℕ) (reason : Reason) → Goes hears speaker w s l out w' s' l' out'
      → course speaker s' (items_in w') ≡ stays s' (Some reason) → Refuses hears speaker w s l l' reason
  refuses w' s' l' out' reason g here =
      let front = course speaker s g.items in
      let all : course speaker s (items_in w) ≡ joined front (stays s' (Some reason)) =
      ap (course speaker s) (leaves_now w w' g.items g.leaves)
      ∙ course_more speaker s g.items (items_in w') g.taken
      ∙ ap (λ (a : State). joined front (course speaker a (items_in w'))) (sym g.state)
      ∙ ap (joined front) here in
      record {
        fault = ap (λ (c : Course). c.fault) all;
        heard = subst (λ (heard : List (Question × SaidValue)). HearsAll hears l heard l')
            (sym (append-nil front.heard) ∙ sym (ap (λ (c : Course). c.heard) all)) g.heard;
      }

  -- it is malformed
  pub bad_item : (w' : Waiting) (s' : State) (l' : L) (out' : List ℕ) (e : AskFault) → Goes hears speaker w s l out w' s' l' out'
      → FailsItem e (reads_now w') → IsRefused hears speaker w s l l' e
  bad_item w' s' l' out' faults.Memory g h = tt
  bad_item w' s' l' out' (faults.Refused reason) g h =
      refuses w' s' l' out' reason g
      (ap (course speaker s') (bad_now w' h.0 h.2) ∙ ap (λ (r : Reason). stays s' (Some r)) (sym h.1))

  -- it is no answer
  pub bad_answer : (w' w'' : Waiting) (s' s'' : State) (l' l'' : L) (out' : List ℕ) (tokens : List Token) (e : AskFault)
      → Goes hears speaker w s l out w' s' l' out' → TakesTokens w' (Some tokens) w'' → Fails e (taken speaker s' tokens)
      → OnRefused {A = Unit {0}} (Err e) ((s'' ≡ s') × (l'' ≡ l')) → IsRefused hears speaker w s l l'' e
  bad_answer w' w'' s' s'' l' l'' out' tokens faults.Memory g t h kept = tt
  bad_answer w' w'' s' s'' l' l'' out' tokens (faults.Refused reason) g t h kept =
      subst (λ (k : L). Refuses hears speaker w s l k reason) (sym kept.1)
      (refuses w' s' l' out' reason g
      (ap (λ r. course speaker s' (found r (items_of w'.limits))) t.0
      ∙ ap (λ r. on_taken s' r (λ (a : State). course speaker a (items_of w'.limits w''.bytes))) h))
