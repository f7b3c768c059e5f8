-- What comes of items, one after the other.
use Rattle.std.proofs.Common.{◌≡◌, ℕ, List, [], ◌∷◌, ◌++◌, Option, Some, None, Result, Ok, Err, refl, sym, ap, subst, ◌∙◌, append_assoc}
use Rattle.std.specs.List.{cons_option}
use Rattle.svn_wire.specs.Streams.{Waiting, with_bytes}
use Rattle.svn_wire.specs.Sessions.{Heard, items_in, LeavesOff}
use Rattle.svn_wire.proofs.StreamItems.{leaves_more, leaves_later}
use Rattle.svn_ask.specs.declared.fault.Reason.{Reason}
use Rattle.svn_ask.specs.declared.opening.Speaker.{Speaker}
use Rattle.svn_ask.specs.declared.question.Question.{Question}
use Rattle.svn_ask.specs.Answers.{SaidValue}
use Rattle.svn_ask.specs.Asking.{State, Taken, taken}
use Rattle.svn_ask.specs.Courses.{Course, state_of, before, on_taken, course, comes_of, HearsAll}
use Rattle.svn_ask.specs.Laws.{joined, PiecesJoin}

cons_more : {A : Type 0} (x : Option A) (xs ys : List A) → cons_option x (xs ++ ys) ≡ cons_option x xs ++ ys
cons_more None xs ys = refl
cons_more (Some x) xs ys = refl

before_joined : (x : Taken) (c d : Course) → before x (joined c d) ≡ joined (before x c) d
before_joined x c d =
    ap (λ (w : List ℕ). record { state = d.state; written = w; heard = cons_option x.heard (c.heard ++ d.heard); fault = d.fault })
    (sym (append_assoc x.written c.written d.written))
    ∙ ap (λ (h : List (Question × SaidValue)). record { state = d.state; written = (x.written ++ c.written) ++ d.written; heard = h; fault = d.fault })
    (cons_more x.heard c.heard d.heard)

-- what was taken, where nothing was refused
pub none_refused : (s : State) (read : Result Taken Reason) (more : State → Course) → (on_taken s read more).fault ≡ None
    → (x : Taken) × (read ≡ Ok x) × ((more x.state).fault ≡ None)
none_refused s (Ok x) more h = (x, refl, h)
none_refused s (Err reason) more h = cc

-- what comes of items, and of more after them
pub course_more : (speaker : Speaker) (s : State) (first more : List Heard) → (course speaker s first).fault ≡ None
    → course speaker s (first ++ more) ≡ joined (course speaker s first) (course speaker (course speaker s first).state more)
course_more speaker s [] more h = refl
course_more speaker s (Err malformed ∷ first) more h = cc
course_more speaker s (Ok tokens ∷ first) more h = by_read (λ t. course_more speaker t first more) (taken speaker s tokens) h
  where
    by_read : ((t : State) → (course speaker t first).fault ≡ None
        → course speaker t (first ++ more) ≡ joined (course speaker t first) (course speaker (course speaker t first).state more))
        → (read : Result Taken Reason) → (on_taken s read (λ t. course speaker t first)).fault ≡ None
        → on_taken s read (λ t. course speaker t (first ++ more))
        ≡ joined (on_taken s read (λ t. course speaker t first)) (course speaker (on_taken s read (λ t. course speaker t first)).state more)
    by_read further (Err reason) h = cc
    by_read further (Ok x) h =
        ap (before x) (further x.state h)
        ∙ before_joined x (course speaker x.state first) (course speaker (course speaker x.state first).state more)

-- ---- pieces

pub pieces_join : PiecesJoin
pieces_join a b c queue queue' queue'' first more h i =
    let items = items_in (with_bytes a.stream first) in
    let later = items_in (with_bytes b.stream more) in
    let bytes : with_bytes a.stream (first ++ more) ≡ with_bytes (with_bytes a.stream first) more =
    ap (λ (l : List ℕ). record { limits = a.stream.limits; tokens = a.stream.tokens; room = a.stream.room; level = a.stream.level; bytes = l })
    (sym (append_assoc a.stream.bytes first more)) in
    let all : items_in (with_bytes a.stream (first ++ more)) ≡ items ++ later = ap items_in bytes ∙ h.stream more in
    let from_there : course a.speaker (comes_of a queue first).state later ≡ comes_of b queue' more =
    ap (λ (s : State). course a.speaker s later) (sym h.state) ∙ ap (λ (p : Speaker). course p (state_of b queue') later) (sym h.speaker) in
    let whole : comes_of a queue (first ++ more) ≡ joined (comes_of a queue first) (comes_of b queue' more) =
    ap (course a.speaker (state_of a queue)) all
    ∙ course_more a.speaker (state_of a queue) items later h.taken
    ∙ ap (joined (comes_of a queue first)) from_there in
    let leaves : LeavesOff (with_bytes (with_bytes a.stream first) more) (items ++ later) c.stream =
    leaves_more (with_bytes (with_bytes a.stream first) more) (with_bytes b.stream more) c.stream items later
    (leaves_later (with_bytes a.stream first) b.stream items more h.stream) i.stream in
    record {
      course = whole;
      after = record {
        speaker = i.speaker ∙ h.speaker;
        taken = ap (λ (d : Course). d.fault) whole ∙ i.taken;
        state = i.state ∙ sym (ap (λ (d : Course). d.state) whole);
        stream = subst (λ (w : Waiting). LeavesOff w (items_in (with_bytes a.stream (first ++ more))) c.stream) (sym bytes)
            (subst (λ (l : List Heard). LeavesOff (with_bytes (with_bytes a.stream first) more) l c.stream) (sym all) leaves);
      };
    }

-- ---- a hearer

pub hears_more : {L : Type 0} (hears : L → Question → SaidValue → L → Type 0) (old mid new : L) (first more : List (Question × SaidValue))
    → HearsAll hears old first mid → HearsAll hears mid more new → HearsAll hears old (first ++ more) new
hears_more {L = L} hears old mid new [] more h i = subst (λ (l : L). HearsAll hears l more new) h i
hears_more hears old mid new (x ∷ first) more h i = (h.0, h.1, hears_more hears h.0 mid new first more h.2 i)
