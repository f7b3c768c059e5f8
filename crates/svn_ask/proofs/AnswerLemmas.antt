-- What is heard are the answers that the items have, in the order of the questions.
use Rattle.std.proofs.Common.{◌≡◌, ℕ, Bool, true, false, List, [], ◌∷◌, ◌++◌, length, map, Option, Some, None, Result, Ok, Err, true≢false, refl, sym, ap, subst, ◌∙◌, append_assoc, if◌then◌else◌}
use Rattle.std.specs.List.{cons_option}
use Rattle.svn_wire.specs.declared.token.Token.{Token}
use Rattle.svn_wire.specs.Sessions.{Heard}
use Rattle.svn_ask.specs.declared.fault.Reason.{Reason}
use Rattle.svn_ask.specs.declared.opening.Speaker.{Speaker}
use Rattle.svn_ask.specs.declared.opening.Step.{Step}
use Rattle.svn_ask.specs.declared.question.Question.{Question}
use Rattle.svn_ask.specs.Reading.{◌>>=◌}
use Rattle.svn_ask.specs.Answers.{SaidValue, answer_of}
use Rattle.svn_ask.specs.Openings.{no_mechanism, opened}
use Rattle.svn_ask.specs.Windows.{Queue, has_room, sent_len, len_of, bytes_of, after_bytes, asks, asked, passed}
use Rattle.svn_ask.specs.Asking.{State, Taken, is_opened, going_on, opening_on, before_answer, answered, taken}
use Rattle.svn_ask.specs.Courses.{on_taken, course}
use Rattle.svn_ask.specs.Laws.{said_of, after_opening, IsSaid, AnswersAreSaid}
use Rattle.svn_ask.proofs.ReadingLemmas.{bind_ok}

-- those that aren't answered
abbrev rest_of : Queue → List Question
rest_of w = w.sent ++ w.left

-- ---- asking changes no order

pub asks_order : (one : Bool) (sent left : List Question) → (asks one sent left).0.0 ++ (asks one sent left).0.1 ≡ sent ++ left
asks_order one sent [] = refl
asks_order one sent (q ∷ left) =
    by_room (has_room one (length sent) (sent_len sent) (len_of q)) (asks one (sent ++ q ∷ []) left) (asks_order one (sent ++ q ∷ []) left)
  where
    by_room : (room : Bool) (r : (List Question × List Question) × List ℕ) → r.0.0 ++ r.0.1 ≡ (sent ++ q ∷ []) ++ left
        → (if room then after_bytes (bytes_of q) r else ((sent, q ∷ left), [])).0.0 ++ (if room then after_bytes (bytes_of q) r else ((sent, q ∷ left), [])).0.1
        ≡ sent ++ q ∷ left
    by_room true r h = h ∙ append_assoc sent (q ∷ []) left
    by_room false r h = refl

asked_order : (b : Bool) (w : Queue) → rest_of (if b then asked w else (w, [])).0 ≡ rest_of w
asked_order true w = asks_order w.one_by_one w.sent w.left
asked_order false w = refl

-- ---- one item

-- the question that is answered, before the others
abbrev firsts : Option (Question × SaidValue) → List Question → List Question
firsts None qs = qs
firsts (Some x) qs = x.0 ∷ qs

-- the answers of these items, where those after the first have the others
pub record Steps (speaker : Speaker) (s : State) (tokens : List Token) (x : Taken) : Type 0 where
  order : firsts x.heard (rest_of x.state.queue) ≡ rest_of s.queue
  -- the item, where it isn't of the opening
  pub front : List Heard
  pub after : (items : List Heard) → after_opening speaker (is_opened s.step) s.step (Ok tokens ∷ items)
      ≡ front ++ after_opening speaker (is_opened x.state.step) x.state.step items
  pub closed : is_opened x.state.step ≡ false → x.state.is_next ≡ false
  said : (items : List Heard) (heard : List (Question × SaidValue))
      → said_of x.state.is_next (rest_of x.state.queue) (after_opening speaker (is_opened x.state.step) x.state.step items) ≡ Ok heard
      → said_of s.is_next (rest_of s.queue) (after_opening speaker (is_opened s.step) s.step (Ok tokens ∷ items)) ≡ Ok (cons_option x.heard heard)

in_opening : (speaker : Speaker) (s : State) (tokens : List Token) (y : Step × List ℕ) → is_opened s.step ≡ false → s.is_next ≡ false
    → opened speaker s.step tokens ≡ Ok y → Steps speaker s tokens (opening_on s.queue y)
in_opening speaker s tokens y closed next e =
    let order = asked_order (is_opened y.0) s.queue in
    record {
      order = order;
      front = [];
      after = λ items. rw (closed, e) refl;
      closed = λ h. refl;
      said = λ items heard h. rw (closed, next, e) (subst (λ (qs : List Question). said_of false qs (after_opening speaker (is_opened y.0) y.0 items) ≡ Ok heard) order h);
    }

is_before : (speaker : Speaker) (step : Step) (queue : Queue) (q : Question) (sent : List Question) (tokens : List Token) (none : ℕ)
    → is_opened step ≡ true → queue.sent ≡ q ∷ sent → no_mechanism tokens ≡ Ok none
    → Steps speaker (record { step = step; is_next = false; queue = queue }) tokens (before_answer step queue none)
is_before speaker step queue q sent tokens none is_open parts e = record {
  order = refl;
  front = Ok tokens ∷ [];
  after = λ items. rw is_open refl;
  closed = λ h. absurd (true≢false (sym is_open ∙ h));
  said = λ items heard. rw (is_open, parts, e) (λ h. h);
}

is_answer : (speaker : Speaker) (step : Step) (queue : Queue) (q : Question) (sent : List Question) (tokens : List Token) (value : SaidValue)
    → is_opened step ≡ true → queue.sent ≡ q ∷ sent → answer_of q.wanted q.rev tokens ≡ Ok value
    → Steps speaker (record { step = step; is_next = true; queue = queue }) tokens (going_on step (Some (q, value)) [] (asked (passed queue sent)))
is_answer speaker step queue q sent tokens value is_open parts e =
    let order : rest_of (asked (passed queue sent)).0 ≡ sent ++ queue.left = asks_order queue.one_by_one sent queue.left in
    record {
      order = ap (λ (qs : List Question). q ∷ qs) order ∙ ap (λ (qs : List Question). qs ++ queue.left) (sym parts);
      front = Ok tokens ∷ [];
      after = λ items. rw is_open refl;
      closed = λ h. refl;
      said = λ items heard h.
          let all : said_of false (sent ++ queue.left) items ≡ Ok heard =
          ap (λ (qs : List Question). said_of false qs items) (sym order)
          ∙ ap (λ (b : Bool). said_of false (rest_of (asked (passed queue sent)).0) (after_opening speaker b step items)) (sym is_open) ∙ h in
          rw (is_open, parts, e, all) refl;
    }

in_answers : (speaker : Speaker) (step : Step) (is_next : Bool) (queue : Queue) (sent : List Question) (tokens : List Token) (x : Taken)
    → is_opened step ≡ true → queue.sent ≡ sent → answered step is_next queue sent tokens ≡ Ok x
    → Steps speaker (record { step = step; is_next = is_next; queue = queue }) tokens x
in_answers speaker step is_next queue [] tokens x is_open parts h = cc
in_answers speaker step false queue (q ∷ sent) tokens x is_open parts h =
    let e = bind_ok (no_mechanism tokens) (λ none. Ok (before_answer step queue none)) x h in
    subst (λ r. IsStep r) e.2 (is_before speaker step queue q sent tokens e.0 is_open parts e.1)
  where
    IsStep : Result Taken Reason → Type 0
    IsStep (Ok y) = Steps speaker (record { step = step; is_next = false; queue = queue }) tokens y
    IsStep (Err reason) = ⊥
in_answers speaker step true queue (q ∷ sent) tokens x is_open parts h =
    let e = bind_ok (answer_of q.wanted q.rev tokens) (λ said. Ok (going_on step (Some (q, said)) [] (asked (passed queue sent)))) x h in
    subst (λ r. IsStep r) e.2 (is_answer speaker step queue q sent tokens e.0 is_open parts e.1)
  where
    IsStep : Result Taken Reason → Type 0
    IsStep (Ok y) = Steps speaker (record { step = step; is_next = true; queue = queue }) tokens y
    IsStep (Err reason) = ⊥

pub one_step : (speaker : Speaker) (s : State) (tokens : List Token) (x : Taken) → (is_opened s.step ≡ false → s.is_next ≡ false) → taken speaker s tokens ≡ Ok x
    → Steps speaker s tokens x
one_step speaker s tokens x closed h = by_open (is_opened s.step) refl h
  where
    IsStep : Result Taken Reason → Type 0
    IsStep (Ok y) = Steps speaker s tokens y
    IsStep (Err reason) = ⊥

    by_open : (b : Bool) → is_opened s.step ≡ b
        → (if b then answered s.step s.is_next s.queue s.queue.sent tokens else opened speaker s.step tokens >>= λ y. Ok (opening_on s.queue y)) ≡ Ok x
        → Steps speaker s tokens x
    by_open true e h = in_answers speaker s.step s.is_next s.queue s.queue.sent tokens x e refl h
    by_open false e h =
        let y = bind_ok (opened speaker s.step tokens) (λ y. Ok (opening_on s.queue y)) x h in
        subst (λ r. IsStep r) y.2 (in_opening speaker s tokens y.0 e (closed e) y.1)

-- ---- all items

order_more : (heard : Option (Question × SaidValue)) (more : List (Question × SaidValue)) (end next all : List Question)
    → map (λ x. x.0) more ++ end ≡ next → firsts heard next ≡ all → map (λ x. x.0) (cons_option heard more) ++ end ≡ all
order_more None more end next all h i = h ∙ i
order_more (Some x) more end next all h i = ap (λ (qs : List Question). x.0 ∷ qs) h ∙ i

none_left : (speaker : Speaker) (b : Bool) (step : Step) → after_opening speaker b step [] ≡ []
none_left speaker true step = refl
none_left speaker false step = refl

pub answers_are_said : AnswersAreSaid
answers_are_said speaker s [] closed = record {
  order = refl;
  answers = λ h. ap (said_of s.is_next (rest_of s.queue)) (none_left speaker (is_opened s.step) s.step);
}
answers_are_said speaker s (Err malformed ∷ items) closed = record { order = refl; answers = λ h. cc }
answers_are_said speaker s (Ok tokens ∷ items) closed = by_read (λ t. answers_are_said speaker t items) (taken speaker s tokens) refl
  where
    by_read : ((t : State) → (is_opened t.step ≡ false → t.is_next ≡ false) → IsSaid speaker t items (course speaker t items))
        → (read : Result Taken Reason) → taken speaker s tokens ≡ read
        → IsSaid speaker s (Ok tokens ∷ items) (on_taken s read (λ t. course speaker t items))
    by_read further (Err reason) e = record { order = refl; answers = λ h. cc }
    by_read further (Ok x) e =
        let step = one_step speaker s tokens x closed e in
        let more = further x.state step.closed in
        let c = course speaker x.state items in
        record {
          order = order_more x.heard c.heard (rest_of c.state.queue) (rest_of x.state.queue) (rest_of s.queue) more.order step.order;
          answers = λ h. step.said items c.heard (more.answers h);
        }
