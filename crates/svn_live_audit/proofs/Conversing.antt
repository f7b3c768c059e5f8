-- Bytes that come on a connection, piece by piece, and the answers in them.
use Rattle.std.proofs.Common.{◌≡◌, ℕ, zero, suc, ◌+◌, Bool, true, false, List, [], ◌∷◌, ◌++◌, length, map, Option, Some, None, Ok, true≢false, cond, refl, sym, ap, subst, ◌∙◌, append-nil, append_assoc, length-append, arith}
use Rattle.std.specs.Prelude.{◌&&◌, ◌||◌, not, filter, filter_map, nat_eq, IfOk, Result, Err}
use Rattle.std.specs.List.{cons_option}
use Rattle.std.specs.Io.KnownBytes.{Consumes}
use Rattle.std.proofs.KnownBytes.{Consumes-nil, Consumes-trans}
use Rattle.std.proofs.lemmas.Bool.Decides.{nat_tests}
use Rattle.std.proofs.lemmas.List.{length-map}
use Rattle.svn_types.specs.Names.{Path}
use Rattle.svn_wire.specs.Streams.{Waiting, with_bytes, is_between}
use Rattle.svn_wire.specs.Sessions.{Heard, LeavesOff, items_in}
use Rattle.svn_model.specs.declared.base_node.BaseNode.{BaseNode}
use Rattle.svn_model.specs.declared.base_node.BaseNode.TheVariants.{File as FileNode, Dir as DirNode, NotPresent}
use Rattle.svn_model.specs.Nodes.{WorkingCopy, get_in}
use Rattle.svn_audit.specs.declared.reason.Reason.{Reason}
use Rattle.svn_audit.specs.declared.reason.Untrue.{Untrue}
use Rattle.svn_ask.specs.declared.opening.Speaker.{Speaker}
use Rattle.svn_ask.specs.declared.question.Question.{Question}
use Rattle.svn_ask.specs.Answers.{SaidValue}
use Rattle.svn_ask.specs.declared.fault.Reason.{Reason as Refusal}
use Rattle.svn_ask.specs.declared.fault.Reason.TheVariants.{HalfItem, Ended}
use Rattle.svn_ask.specs.Windows.{Queue, all_answered, asks, asked, after_bytes, bytes_of, has_room, sent_len, len_of}
use Rattle.svn_ask.specs.Asking.{State, is_opened, asked_at}
use Rattle.svn_ask.specs.Courses.{Connection, Course, state_of, stays, course, comes_of, end_fault, refused, HearsAll}
use Rattle.svn_ask.specs.Laws.{IsAfter, joined, said_of, after_opening}
use Rattle.svn_ask.proofs.CourseLemmas.{pieces_join, hears_more}
use Rattle.svn_ask.proofs.AnswerLemmas.{answers_are_said}
use Rattle.svn_live_audit.specs.declared.finding.Finding.{Finding}
use Rattle.svn_live_audit.specs.declared.places.Place.{Place}
use Rattle.svn_live_audit.specs.declared.nodes.NodeHearer.{NodeHearer}
use Rattle.svn_live_audit.specs.declared.kinds.KindHearer.{KindHearer}
use Rattle.svn_live_audit.specs.Verdicts.{asks_about, is_asked}
use Rattle.svn_live_audit.specs.Rounds.{question_of, question_value, questions, questions_again, round_on, rounds, first_round, kinds_after, no_kinds, settled, IsLiveVerdict}
use Rattle.svn_live_audit.specs.Places.{place_value, round_of, kinds_of, node_hears, kind_hears}
use Rattle.svn_live_audit.specs.Conversations.{is_none, IsReady, Answers, Hears, Converses, Spoke, IsLiveAudit, IsFirstRound, IsSecondRound, Audits, values}
use Rattle.svn_live_audit.proofs.Rounds.{none_some, rounds_hold}

-- ---- pieces

nothing_more : (w : Waiting) → with_bytes w [] ≡ w
nothing_more w =
    ap (λ (l : List ℕ). record { limits = w.limits; tokens = w.tokens; room = w.room; level = w.level; bytes = l }) (append-nil w.bytes)

-- nothing came
is_after_none : (c : Connection) (w : Queue) → items_in c.stream ≡ [] → (comes_of c w [] ≡ stays (state_of c w) None) × IsAfter c w [] c w
is_after_none c w drained =
    let none : items_in (with_bytes c.stream []) ≡ [] = ap items_in (nothing_more c.stream) ∙ drained in
    let comes : comes_of c w [] ≡ stays (state_of c w) None = ap (course c.speaker (state_of c w)) none in (
      comes,
      record {
        speaker = refl;
        taken = ap (λ (x : Course). x.fault) comes;
        state = sym (ap (λ (x : Course). x.state) comes);
        stream = subst (λ (l : List Heard). LeavesOff (with_bytes c.stream []) l c.stream) (sym none)
            (λ more. ap (λ (v : Waiting). items_in (with_bytes v more)) (nothing_more c.stream));
      },
    )

same_end : {A : Type 0} (xs ys : List A) → xs ≡ xs ++ ys → ys ≡ []
same_end xs [] e = refl
same_end xs (y ∷ ys) e = absurd (omega (arith, ap length e ∙ length-append xs (y ∷ ys)))

-- all items that came were taken
is_drained : (c d : Connection) (came : List ℕ)
    → LeavesOff (with_bytes c.stream came) (items_in (with_bytes c.stream came)) d.stream → items_in d.stream ≡ []
is_drained c d came leaves =
    let items = items_in (with_bytes c.stream came) in
    let e : items ≡ items ++ items_in (with_bytes d.stream []) = sym (ap items_in (nothing_more (with_bytes c.stream came))) ∙ leaves [] in
    sym (ap items_in (nothing_more d.stream)) ∙ same_end items (items_in (with_bytes d.stream [])) e

-- asking changes no order
asks_order : (one : Bool) (sent left : List Question) → (asks one sent left).0.0 ++ (asks one sent left).0.1 ≡ sent ++ left
asks_order one sent [] = refl
asks_order one sent (q ∷ left) =
    by (has_room one (length sent) (sent_len sent) (len_of q)) (asks one (sent ++ q ∷ []) left) (asks_order one (sent ++ q ∷ []) left)
  where
    by : (room : Bool) (r : (List Question × List Question) × List ℕ) → r.0.0 ++ r.0.1 ≡ (sent ++ q ∷ []) ++ left
        → (cond room (after_bytes (bytes_of q) r) ((sent, q ∷ left), [])).0.0 ++ (cond room (after_bytes (bytes_of q) r) ((sent, q ∷ left), [])).0.1
        ≡ sent ++ q ∷ left
    by true r h = h ∙ append_assoc sent (q ∷ []) left
    by false r h = refl

asked_order : (b : Bool) (w : Queue) → (cond b (asked w) (w, [])).0.sent ++ (cond b (asked w) (w, [])).0.left ≡ w.sent ++ w.left
asked_order true w = asks_order w.one_by_one w.sent w.left
asked_order false w = refl

-- the answers may end only on a connection that is open
is_open_at : (c : Connection) (w : Queue) → end_fault c w ≡ None → is_opened c.step ≡ true
is_open_at c w h = by (is_between c.stream) (is_opened c.step) (not c.is_next) (all_answered w) h
  where
    by : (a b n d : Bool) → cond (not a) (Some HalfItem) (cond (b && (n && d)) None (Some Ended)) ≡ None → b ≡ true
    by a true n d h = refl
    by false false n d h = absurd (none_some (sym h))
    by true false n d h = absurd (none_some (sym h))

none_in : {A : Type 0} (xs : List A) → is_none xs ≡ true → xs ≡ []
none_in [] e = refl
none_in (x ∷ xs) e = absurd (true≢false (sym e))

both_true : (a b : Bool) → (a && b) ≡ true → (a ≡ true) × (b ≡ true)
both_true true b e = (refl, e)
both_true false b e = absurd (true≢false (sym e))

or_not : (a b : Bool) → (a || not b) ≡ true → a ≡ false → b ≡ false
or_not true b e h = absurd (true≢false h)
or_not false true e h = absurd (true≢false (sym e))
or_not false false e h = refl

pub drained_of : (c : Connection) → IsReady c → items_in c.stream ≡ []
drained_of c ready = none_in (items_in c.stream) (both_true (is_none (items_in c.stream)) (is_opened c.step || not c.is_next) ready).0

pub closed_of : (c : Connection) → IsReady c → is_opened c.step ≡ false → c.is_next ≡ false
closed_of c ready = or_not (is_opened c.step) c.is_next (both_true (is_none (items_in c.stream)) (is_opened c.step || not c.is_next) ready).1

ready_by : (c : Connection) → items_in c.stream ≡ [] → is_opened c.step ≡ true → IsReady c
ready_by c drained is_open = rw (drained, is_open) refl

pub not_refused : (o : Option Refusal) → Ok tt ≡ refused o → o ≡ None
not_refused None e = refl
not_refused (Some reason) e = cc

-- what came so far of a conversation
module _ {R : Type 0} (remaining : R → Option (List ℕ)) {L : Type 0} (hears : L → Question → SaidValue → L → Type 0) where
  pub none_came : (input : R) (c : Connection) (w : Queue) (hearer : L) → IsReady c → Hears remaining hears input c w hearer input c w hearer
  none_came input c w hearer ready =
      let none = is_after_none c w (drained_of c ready) in
      record {
        came = [];
        read = Consumes-nil (remaining input);
        after = none.1;
        heard = subst (λ (x : Course). HearsAll hears hearer x.heard hearer) (sym none.0) refl;
      }

  pub more_came : (i j k : R) (c d e : Connection) (u v w : Queue) (x y z : L) → Hears remaining hears i c u x j d v y
      → Hears remaining hears j d v y k e w z → Hears remaining hears i c u x k e w z
  more_came i j k c d e u v w x y z first more =
      let joins = pieces_join c d e u v w first.came more.came first.after more.after in
      record {
        came = first.came ++ more.came;
        read = Consumes-trans (remaining i) (remaining j) (remaining k) first.came more.came first.read more.read;
        after = joins.after;
        heard = subst (λ (t : Course). HearsAll hears x t.heard z) (sym joins.course)
            (hears_more hears x y z (comes_of c u first.came).heard (comes_of d v more.came).heard first.heard more.heard);
      }

  none_of : (xs ys : List Question) → nat_eq (length xs + length ys) 0 ≡ true → xs ++ ys ≡ []
  none_of [] [] e = refl
  none_of [] (y ∷ ys) e = grind (arith, nat_tests)
  none_of (x ∷ xs) ys e = grind (arith, nat_tests)

  -- all is answered
  pub all_came : (i j : R) (c d : Connection) (u v w : Queue) (x y : L) → IsReady c → (asked_at c.step u).0 ≡ v → Hears remaining hears i c v x j d w y
      → all_answered w ≡ true → end_fault d w ≡ None → Converses remaining hears i c (u.sent ++ u.left) x j d y
  all_came i j c d u v w x y ready asks all done ended =
      let course_is = comes_of c v all.came in
      let items = items_in (with_bytes c.stream all.came) in
      let said = answers_are_said c.speaker (state_of c v) items (closed_of c ready) in
      let none : course_is.state.queue.sent ++ course_is.state.queue.left ≡ [] =
      ap (λ (s : State). s.queue.sent ++ s.queue.left) (sym all.after.state) ∙ none_of w.sent w.left done in
      let same : v.sent ++ v.left ≡ u.sent ++ u.left =
      ap (λ (t : Queue). t.sent ++ t.left) (sym asks) ∙ asked_order (is_opened c.step) u in
      let questions : map (λ (t : Question × SaidValue). t.0) course_is.heard ≡ v.sent ++ v.left =
      sym (append-nil (map (λ (t : Question × SaidValue). t.0) course_is.heard))
      ∙ ap (λ l. map (λ (t : Question × SaidValue). t.0) course_is.heard ++ l) (sym none) ∙ said.order in
      record {
        came = all.came;
        read = all.read;
        answered = course_is.heard;
        answers = record {
          order = questions ∙ same;
          answers =
              ap (λ qs. said_of c.is_next qs (after_opening c.speaker (is_opened c.step) c.step items)) (sym same) ∙ said.answers all.after.taken;
          speaker = all.after.speaker;
          stream = all.after.stream;
        };
        heard = all.heard;
        ready = ready_by d (is_drained c d all.came all.after.stream) (is_open_at d w ended);
      }

-- ---- rounds

pub rounds_heard : (w : WorkingCopy) (old new : NodeHearer) (heard : List (Question × SaidValue)) → get_in old.copy.now ≡ w
    → HearsAll node_hears old heard new → rounds w (round_of old) (values heard) ≡ round_of new
rounds_heard w old new [] same h = sym (ap round_of h)
rounds_heard w old new (x ∷ heard) same h =
    let mid = h.0 in
    ap (λ r. rounds w r (values heard)) (ap (λ v. round_on v (round_of old) x.1) (sym same) ∙ sym h.1.0)
    ∙ rounds_heard w mid new heard (ap (λ c. get_in c.now) h.1.1 ∙ same) h.2

pub kinds_heard : (old new : KindHearer) (heard : List (Question × SaidValue)) → HearsAll kind_hears old heard new
    → kinds_after (kinds_of old) (values heard) ≡ kinds_of new
kinds_heard old new [] h = sym (ap kinds_of h)
kinds_heard old new (x ∷ heard) h = ap (λ k. kinds_after k (values heard)) (sym h.1) ∙ kinds_heard h.0 new heard h.2

-- ---- questions

of_places : (places : List Place) → filter_map (λ p. question_of p.node.now) places ≡ questions (map place_value places)
of_places [] = refl
of_places (p ∷ places) = ap (cons_option (question_of p.node.now)) (of_places places)

unasked : (node : BaseNode) → asks_about node ≡ false → question_of node ≡ None
unasked NotPresent e = refl
unasked (FileNode r q text props) e = absurd (true≢false e)
unasked (DirNode r q complete props) e = absurd (true≢false e)

of_asked : (nodes : List (Path × BaseNode)) → questions (filter is_asked nodes) ≡ questions nodes
of_asked [] = refl
of_asked (e ∷ nodes) = by (is_asked e) refl (of_asked nodes)
  where
    by : (b : Bool) → is_asked e ≡ b → questions (filter is_asked nodes) ≡ questions nodes
        → questions (cond b (e ∷ filter is_asked nodes) (filter is_asked nodes)) ≡ questions (e ∷ nodes)
    by true is later = ap (cons_option (question_of e.1)) later
    by false is later = later ∙ sym (ap (λ o. cons_option o (questions nodes)) (unasked e.1 is))

pub are_asked : (places : List Place) (nodes : List (Path × BaseNode)) → map place_value places ≡ filter is_asked nodes
    → filter_map (λ p. question_of p.node.now) places ≡ questions nodes
are_asked places nodes same = of_places places ∙ ap questions same ∙ of_asked nodes

some_same : {A : Type 0} {x y : A} → Some x ≡ Some y → x ≡ y
some_same {x = x} e = ap (or x) e
  where
    or : {A : Type 0} → A → Option A → A
    or d None = d
    or d (Some z) = z

-- ---- the audit

module _ {R : Type 0} (remaining : R → Option (List ℕ)) where
  pub audits : (i j k : R) (a b c : Option Connection) (w : WorkingCopy) (nodes : List (Path × BaseNode)) (findings : List Finding)
      (reasons : List Reason) (untrue : List Untrue) → IsFirstRound remaining i a w nodes j b findings → IsSecondRound remaining j b findings k c reasons
      → untrue ≡ settled findings reasons → Audits remaining i a w nodes k c untrue
  audits i j k a b c w nodes findings reasons untrue one two is =
      let same : two.before ≡ one.now = some_same (sym two.is_open ∙ one.stays) in
      let count : length (questions_again findings) ≡ length (values two.answered) =
      ap length (sym two.are_questions) ∙ length-map two.asked question_value
      ∙ ap length (sym two.answers.order) ∙ length-map two.answered (λ (x : Question × SaidValue). x.0)
      ∙ sym (length-map two.answered (λ (x : Question × SaidValue). x.1)) in
      let v : IsLiveVerdict w nodes (values one.answered) (values two.answered) untrue =
      subst (IsLiveVerdict w nodes (values one.answered) (values two.answered)) (sym is)
      (rounds_hold w nodes (values one.answered) (values two.answered) findings reasons one.found two.why count) in
      record {
        before = one.before;
        is_open = one.is_open;
        now = two.now;
        stays = two.stays;
        came = one.came ++ two.came;
        read = Consumes-trans (remaining i) (remaining j) (remaining k) one.came two.came one.read two.read;
        audit = record {
          first_questions = one.asked;
          are_questions = one.are_questions;
          first_came = one.came;
          mid = one.now;
          first = one.answered;
          answers = one.answers;
          findings = findings;
          second_questions = two.asked;
          are_again = two.are_questions;
          second_came = two.came;
          second = two.answered;
          answers_again = subst (λ m. Answers m two.asked two.came two.now two.answered) same two.answers;
          all_came = refl;
          verdict = v;
        };
      }

-- what a hearer of the nodes found, once all is answered
pub first_round_is : {R X E : Type 0} (remaining : R → Option (List ℕ)) (i j : R) (a b : Option Connection) (w : WorkingCopy)
    (nodes : List (Path × BaseNode)) (qs : List Question) (old new : NodeHearer) (items : X → List Finding) (r : Result X E)
    → get_in old.copy.now ≡ w → round_of old ≡ first_round (filter is_asked nodes) → map question_value qs ≡ questions nodes
    → Spoke remaining node_hears i a qs old j b new
    → IfOk r (λ x. round_of new ≡ record { left = []; findings = items x; suits = true })
    → IfOk r (λ x. IsFirstRound remaining i a w nodes j b (items x))
first_round_is remaining i j a b w nodes qs old new items (Err e) copy begins asks spoke found = found
first_round_is remaining i j a b w nodes qs old new items (Ok x) copy begins asks spoke found = record {
  before = spoke.before;
  is_open = spoke.is_open;
  now = spoke.now;
  stays = spoke.stays;
  came = spoke.spoke.came;
  read = spoke.spoke.read;
  asked = qs;
  are_questions = asks;
  answered = spoke.spoke.answered;
  answers = spoke.spoke.answers;
  found =
      ap (λ r. rounds w r (values spoke.spoke.answered)) (sym begins)
      ∙ rounds_heard w old new spoke.spoke.answered copy spoke.spoke.heard ∙ found;
}

pub second_round_is : {R X E : Type 0} (remaining : R → Option (List ℕ)) (i j : R) (a b : Option Connection) (findings : List Finding)
    (qs : List Question) (old new : KindHearer) (items : X → List Reason) (r : Result X E)
    → kinds_of old ≡ no_kinds → map question_value qs ≡ questions_again findings → Spoke remaining kind_hears i a qs old j b new
    → IfOk r (λ x. kinds_of new ≡ record { reasons = items x; suits = true })
    → IfOk r (λ x. IsSecondRound remaining i a findings j b (items x))
second_round_is remaining i j a b findings qs old new items (Err e) begins asks spoke why = why
second_round_is remaining i j a b findings qs old new items (Ok x) begins asks spoke why = record {
  before = spoke.before;
  is_open = spoke.is_open;
  now = spoke.now;
  stays = spoke.stays;
  came = spoke.spoke.came;
  read = spoke.spoke.read;
  asked = qs;
  are_questions = asks;
  answered = spoke.spoke.answered;
  answers = spoke.spoke.answers;
  why =
      ap (λ k. kinds_after k (values spoke.spoke.answered)) (sym begins)
      ∙ kinds_heard old new spoke.spoke.answered spoke.spoke.heard ∙ why;
}
