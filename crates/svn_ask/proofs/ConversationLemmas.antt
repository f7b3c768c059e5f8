-- Lists of questions over one connection, one after the other.
use Rattle.std.proofs.Common.{◌≡◌, ℕ, ◌+◌, Bool, true, false, ◌&&◌, not, List, [], ◌∷◌, ◌++◌, length, map, None, Result, Ok, Err, true≢false, refl, sym, ap, subst, ◌∙◌, append_assoc, append-nil, arith}
use Rattle.std.proofs.lemmas.Bool.{eqb-true}
use Rattle.std.proofs.lemmas.List.{map-append}
use Rattle.svn_wire.specs.declared.item.Limits.{Limits}
use Rattle.svn_wire.specs.Streams.{fresh, with_bytes}
use Rattle.svn_wire.specs.Sessions.{Heard, items_of, items_in, LeavesOff}
use Rattle.svn_wire.proofs.StreamItems.{fresh_items, leaves_more, leaves_later}
use Rattle.svn_ask.specs.declared.fault.Reason.{Reason}
use Rattle.svn_ask.specs.declared.opening.Speaker.{Speaker}
use Rattle.svn_ask.specs.declared.opening.Step.TheVariants.{Greeting}
use Rattle.svn_ask.specs.declared.question.Question.{Question}
use Rattle.svn_ask.specs.Reading.{◌>>=◌}
use Rattle.svn_ask.specs.Answers.{SaidValue, answer_of}
use Rattle.svn_ask.specs.Openings.{no_mechanism}
use Rattle.svn_ask.specs.Windows.{Queue, asked, listed, all_answered}
use Rattle.svn_ask.specs.Asking.{State, Taken, is_opened, taken}
use Rattle.svn_ask.specs.Courses.{Connection, state_of, started, course, comes_of, on_taken, is_settled}
use Rattle.svn_ask.specs.Laws.{IsAfter, said_of, after_opening, IsConversation, ConversationsGoOn}
use Rattle.svn_ask.proofs.ReadingLemmas.{bind_ok}
use Rattle.svn_ask.proofs.AnswerLemmas.{one_step, answers_are_said, asks_order}

-- ---- answers to more questions

abbrev prepended : List (Question × SaidValue) → Result (List (Question × SaidValue)) Reason → Result (List (Question × SaidValue)) Reason
prepended heard read = read >>= λ more. Ok (heard ++ more)

prepended_more : (x : Question × SaidValue) (heard : List (Question × SaidValue)) (read : Result (List (Question × SaidValue)) Reason)
    → (prepended heard read >>= λ more. Ok (x ∷ more)) ≡ prepended (x ∷ heard) read
prepended_more x heard (Ok more) = refl
prepended_more x heard (Err e) = refl

prepended_none : (read : Result (List (Question × SaidValue)) Reason) → read ≡ prepended [] read
prepended_none (Ok more) = refl
prepended_none (Err e) = refl

heard_in : List (Question × SaidValue) → Result (List (Question × SaidValue)) Reason → List (Question × SaidValue)
heard_in d (Ok heard) = heard
heard_in d (Err e) = d

same_heard : (a b : List (Question × SaidValue)) → ◌≡◌ {A = Result (List (Question × SaidValue)) Reason} (Ok a) (Ok b) → a ≡ b
unfolding heard_in
same_heard a b h = ap (heard_in b) h

none_first : (q : Question) (qs : List Question) → [] ≡ q ∷ qs → ⊥
none_first q qs h = absurd (omega (arith, ap length h))

rest_same : (x y : Question) (xs ys : List Question) → x ∷ xs ≡ y ∷ ys → xs ≡ ys
rest_same x y xs ys h = cc

-- all of the first questions are answered by these items: so the answers to others are in what is after them
pub said_more : (items : List Heard) (is_next : Bool) (questions others : List Question) (more : List Heard) (heard : List (Question × SaidValue))
    → (is_next ≡ true → [] ≡ questions → ⊥) → said_of is_next questions items ≡ Ok heard → map (λ x. x.0) heard ≡ questions
    → said_of is_next (questions ++ others) (items ++ more) ≡ prepended heard (said_of false others more)
said_more [] true questions others more heard some h all =
    absurd (some refl (ap (λ (l : List (Question × SaidValue)). map (λ x. x.0) l) (same_heard [] heard h) ∙ all))
said_more [] false [] others more heard some h all =
    prepended_none (said_of false others more) ∙ ap (λ (l : List (Question × SaidValue)). prepended l (said_of false others more)) (same_heard [] heard h)
said_more [] false (q ∷ questions) others more heard some h all =
    absurd (none_first q questions (ap (λ (l : List (Question × SaidValue)). map (λ x. x.0) l) (same_heard [] heard h) ∙ all))
said_more (Err malformed ∷ items) is_next questions others more heard some h all = cc
said_more (Ok tokens ∷ items) is_next [] others more heard some h all = cc
said_more (Ok tokens ∷ items) false (q ∷ questions) others more heard some h all =
    let e = bind_ok (no_mechanism tokens) (λ none. said_of true (q ∷ questions) items) heard h in
    ap (λ r. r >>= λ none. said_of true (q ∷ (questions ++ others)) (items ++ more)) e.1
    ∙ said_more items true (q ∷ questions) others more heard (λ _. none_first q questions) e.2 all
said_more (Ok tokens ∷ items) true (q ∷ questions) others more heard some h all =
    let e = bind_ok (answer_of q.wanted q.rev tokens) (λ said. said_of false questions items >>= λ l. Ok ((q, said) ∷ l)) heard h in
    let f = bind_ok (said_of false questions items) (λ l. Ok ((q, e.0) ∷ l)) heard e.2 in
    let heard_is : (q, e.0) ∷ f.0 ≡ heard = same_heard ((q, e.0) ∷ f.0) heard f.2 in
    let rest : map (λ (x : Question × SaidValue). x.0) f.0 ≡ questions =
    rest_same q q (map (λ x. x.0) f.0) questions (ap (λ (l : List (Question × SaidValue)). map (λ x. x.0) l) heard_is ∙ all) in
    ap (λ r. r >>= λ said. said_of false (questions ++ others) (items ++ more) >>= λ l. Ok ((q, said) ∷ l)) e.1
    ∙ ap (λ r. r >>= λ l. Ok ((q, e.0) ∷ l)) (said_more items false questions others more f.0 (λ no. absurd (true≢false (sym no))) f.1 rest)
    ∙ prepended_more (q, e.0) f.0 (said_of false others more)
    ∙ ap (λ (l : List (Question × SaidValue)). prepended l (said_of false others more)) heard_is

-- ---- the opening

-- the connection is open after these items: so what is after the opening goes on with what comes later
pub opened_within : (speaker : Speaker) (items : List Heard) (s : State) (more : List Heard) → (is_opened s.step ≡ false → s.is_next ≡ false)
    → (course speaker s items).fault ≡ None → is_opened (course speaker s items).state.step ≡ true
    → after_opening speaker (is_opened s.step) s.step (items ++ more) ≡ after_opening speaker (is_opened s.step) s.step items ++ more
opened_within speaker [] s more closed none is_open =
    ap (λ b. after_opening speaker b s.step more) is_open
    ∙ ap (λ b. after_opening speaker b s.step [] ++ more) (sym is_open)
opened_within speaker (Err malformed ∷ items) s more closed none is_open = cc
opened_within speaker (Ok tokens ∷ items) s more closed none is_open =
    by_read (λ t. opened_within speaker items t more) (taken speaker s tokens) refl none is_open
  where
    by_read : ((t : State) → (is_opened t.step ≡ false → t.is_next ≡ false) → (course speaker t items).fault ≡ None
        → is_opened (course speaker t items).state.step ≡ true
        → after_opening speaker (is_opened t.step) t.step (items ++ more) ≡ after_opening speaker (is_opened t.step) t.step items ++ more)
        → (read : Result Taken Reason) → taken speaker s tokens ≡ read → (on_taken s read (λ t. course speaker t items)).fault ≡ None
        → is_opened (on_taken s read (λ t. course speaker t items)).state.step ≡ true
        → after_opening speaker (is_opened s.step) s.step (Ok tokens ∷ (items ++ more))
        ≡ after_opening speaker (is_opened s.step) s.step (Ok tokens ∷ items) ++ more
    by_read further (Err reason) e none is_open = cc
    by_read further (Ok x) e none is_open =
        let step = one_step speaker s tokens x closed e in
        step.after (items ++ more)
        ∙ ap (λ (l : List Heard). step.front ++ l) (further x.state step.closed none is_open)
        ∙ sym (append_assoc step.front (after_opening speaker (is_opened x.state.step) x.state.step items) more)
        ∙ ap (λ (l : List Heard). l ++ more) (sym (step.after items))

-- ---- lists

both : (a b : Bool) → (a && b) ≡ true → (a ≡ true) × (b ≡ true)
both true true h = (refl, refl)
both true false h = cc
both false b h = cc

nothing_left : (queue : Queue) → all_answered queue ≡ true → queue.sent ++ queue.left ≡ []
nothing_left queue h = by queue.sent queue.left (eqb-true (length queue.sent + length queue.left) 0 h)
  where
    by : (sent left : List Question) → length sent + length left ≡ 0 → sent ++ left ≡ []
    by [] [] h = refl
    by [] (q ∷ left) h = absurd (omega (arith, h))
    by (q ∷ sent) left h = absurd (omega (arith, h))

-- what was asked is what was answered
all_heard : (heard : List (Question × SaidValue)) (s : State) (c : Connection) (queue : Queue) (questions : List Question) → state_of c queue ≡ s
    → all_answered queue ≡ true → map (λ x. x.0) heard ++ (s.queue.sent ++ s.queue.left) ≡ questions → map (λ x. x.0) heard ≡ questions
all_heard heard s c queue questions same done order =
    sym (append-nil (map (λ x. x.0) heard))
    ∙ ap (λ (l : List Question). map (λ x. x.0) heard ++ l)
    (sym (nothing_left queue done) ∙ ap (λ (t : State). t.queue.sent ++ t.queue.left) same)
    ∙ order

first_list : (limits : Limits) (speaker : Speaker) (one_by_one : Bool) (questions : List Question) (bytes : List ℕ) (c : Connection) (queue : Queue)
    → IsAfter (started limits speaker) (listed one_by_one questions) bytes c queue → is_settled c queue ≡ true
    → IsConversation limits speaker questions bytes (comes_of (started limits speaker) (listed one_by_one questions) bytes).heard c
first_list limits speaker one questions bytes c queue h settled =
    let s = state_of (started limits speaker) (listed one questions) in
    let w = with_bytes (fresh limits []) bytes in
    let items = fresh_items limits bytes in
    let parts = both (is_opened c.step) (not c.is_next && all_answered queue) settled in
    let done = (both (not c.is_next) (all_answered queue) parts.1).1 in
    let said = answers_are_said speaker s (items_in w) (λ _. refl) in
    let is_open : is_opened (course speaker s (items_in w)).state.step ≡ true =
    ap (λ (t : State). is_opened t.step) (sym h.state) ∙ parts.0 in
    record {
      spoken = h.speaker;
      all = all_heard (course speaker s (items_in w)).heard (course speaker s (items_in w)).state c queue questions h.state done said.order;
      answers = ap (λ (l : List Heard). said_of false questions (after_opening speaker false Greeting l)) (sym items) ∙ said.answers h.taken;
      opened = λ more. subst (λ (l : List Heard). after_opening speaker false Greeting (l ++ more) ≡ after_opening speaker false Greeting l ++ more) items
          (opened_within speaker (items_in w) s more (λ _. refl) h.taken is_open);
      stream = subst (λ (l : List Heard). LeavesOff w l c.stream) items h.stream;
    }

further_list : (limits : Limits) (speaker : Speaker) (questions : List Question) (bytes : List ℕ) (heard : List (Question × SaidValue)) (c : Connection)
    (one_by_one : Bool) (others : List Question) (more : List ℕ) (d : Connection) (queue : Queue)
    → IsConversation limits speaker questions bytes heard c → is_opened c.step ≡ true → c.is_next ≡ false
    → IsAfter c (asked (listed one_by_one others)).0 more d queue → is_settled d queue ≡ true
    → IsConversation limits speaker (questions ++ others) (bytes ++ more) (heard ++ (comes_of c (asked (listed one_by_one others)).0 more).heard) d
further_list limits speaker questions bytes heard c one others more d queue k is_open next h settled =
    let list = (asked (listed one others)).0 in
    let s = state_of c list in
    let items = items_of limits bytes in
    let later = items_in (with_bytes c.stream more) in
    let after = after_opening speaker false Greeting in
    let new = (comes_of c list more).heard in
    let done = (both (not d.is_next) (all_answered queue) (both (is_opened d.step) (not d.is_next && all_answered queue) settled).1).1 in
    let order : list.sent ++ list.left ≡ others = asks_order one [] others in
    let said = answers_are_said c.speaker s later (λ closed. absurd (true≢false (sym is_open ∙ closed))) in
    let all_items : items_of limits (bytes ++ more) ≡ items ++ later = sym (fresh_items limits (bytes ++ more)) ∙ k.stream more in
    let others_said : said_of false others later ≡ Ok new =
    ap (λ (qs : List Question). said_of false qs later) (sym order)
    ∙ ap (λ b. said_of b (list.sent ++ list.left) later) (sym next)
    ∙ ap (λ b. said_of c.is_next (list.sent ++ list.left) (after_opening c.speaker b c.step later)) (sym is_open)
    ∙ said.answers h.taken in
    record {
      spoken = h.speaker ∙ k.spoken;
      all = map-append (λ (x : Question × SaidValue). x.0) heard new
          ∙ ap (λ (l : List Question). l ++ map (λ x. x.0) new) k.all
          ∙ ap (λ (l : List Question). questions ++ l) (all_heard new (comes_of c list more).state d queue others h.state done (said.order ∙ order));
      answers = ap (λ (l : List Heard). said_of false (questions ++ others) (after l)) all_items
          ∙ ap (λ (l : List Heard). said_of false (questions ++ others) l) (k.opened later)
          ∙ said_more (after items) false questions others later heard (λ no. absurd (true≢false (sym no))) k.answers k.all
          ∙ ap (prepended heard) others_said;
      opened = λ end.
          ap (λ (l : List Heard). after (l ++ end)) all_items
          ∙ ap after (append_assoc items later end)
          ∙ k.opened (later ++ end)
          ∙ sym (append_assoc (after items) later end)
          ∙ ap (λ (l : List Heard). l ++ end) (sym (k.opened later))
          ∙ ap (λ (l : List Heard). after l ++ end) (sym all_items);
      stream = subst (λ (l : List Heard). LeavesOff (fresh limits (bytes ++ more)) l d.stream) (sym all_items)
          (leaves_more (with_bytes (fresh limits bytes) more) (with_bytes c.stream more) d.stream items later
          (leaves_later (fresh limits bytes) c.stream items more k.stream) h.stream);
    }

pub conversations_go_on : ConversationsGoOn
conversations_go_on = record { first = first_list; further = further_list }
