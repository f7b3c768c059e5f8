-- How many questions are open at once.
--     Queue      how many of a list's questions are answered, those that are open, and those that aren't asked yet, in their order
--     asked queue      what it is once all are asked for which there is room, and what is written for that
--     listed one_by_one questions      none of them is asked yet
--     is_within questions      their commands have at most 32,768 bytes, or there is one alone
use Rattle.std.specs.Prelude.{ℕ, ◌+◌, ◌≤◌, ◌≡◌, Bool, true, ◌&&◌, ◌||◌, not, List, [], ◌∷◌, ◌++◌, length, take, nat_eq, nat_le, Option, Some, None, if◌then◌else◌}
use Rattle.std.specs.List.{sum_by}
use Rattle.svn_wire.specs.Writing.{printed}
use Rattle.svn_ask.specs.declared.question.Question.{Question}
use Rattle.svn_ask.specs.Questions.{question, question_len}

pub record Queue : Type 0 where
  -- whether one question at most is open
  pub one_by_one : Bool
  pub answered : ℕ
  pub sent : List Question
  pub left : List Question

abbrev pub listed : Bool → List Question → Queue
listed one_by_one questions = record { one_by_one = one_by_one; answered = 0; sent = []; left = questions }

abbrev pub bytes_of : Question → List ℕ
bytes_of q = printed (question q.wanted q.rev q.path.now)

abbrev pub len_of : Question → ℕ
len_of q = question_len q.wanted q.rev q.path.now

abbrev pub sent_len : List Question → ℕ
sent_len sent = sum_by len_of sent

-- the most bytes of commands that are open: a pipe or a socket holds as many, so a client that writes them never waits for the server
abbrev pub most_sent : ℕ
most_sent = 32768

abbrev pub is_within : List Question → Bool
is_within sent = nat_le (length sent) 1 || nat_le (sent_len sent) most_sent

-- Whether a command of that many bytes may be written, where so many are open, of so many bytes: one that is longer than what may be open is asked
-- where no other is.
abbrev pub has_room : Bool → ℕ → ℕ → ℕ → Bool
has_room one_by_one count bytes len = nat_eq count 0 || (not one_by_one && nat_le (bytes + len) most_sent)

abbrev pub after_bytes : List ℕ → (List Question × List Question) × List ℕ → (List Question × List Question) × List ℕ
after_bytes bytes r = (r.0, bytes ++ r.1)

-- those that are open then, those that aren't asked, and what is written
abbrev pub asks : Bool → List Question → List Question → (List Question × List Question) × List ℕ
asks one_by_one sent [] = ((sent, []), [])
asks one_by_one sent (q ∷ left) =
    if has_room one_by_one (length sent) (sent_len sent) (len_of q) then after_bytes (bytes_of q) (asks one_by_one (sent ++ q ∷ []) left)
    else ((sent, q ∷ left), [])

abbrev pub with_asked : Queue → (List Question × List Question) × List ℕ → Queue × List ℕ
with_asked w r = (record { one_by_one = w.one_by_one; answered = w.answered; sent = r.0.0; left = r.0.1 }, r.1)

abbrev pub asked : Queue → Queue × List ℕ
asked w = with_asked w (asks w.one_by_one w.sent w.left)

-- the first question that is open is answered
abbrev pub passed : Queue → List Question → Queue
passed w sent = record { one_by_one = w.one_by_one; answered = w.answered + 1; sent = sent; left = w.left }

abbrev pub all_answered : Queue → Bool
all_answered w = nat_eq (length w.sent + length w.left) 0

-- of questions that aren't answered the first are open, and so many bytes are theirs
pub record IsWindow (total : ℕ) (unanswered : List Question) (count bytes : ℕ) : Type 0 where
  pub few : length unanswered ≤ total
  pub among : count ≤ length unanswered
  pub counted : bytes ≡ sent_len (take count unanswered)
  pub bounded : is_within (take count unanswered) ≡ true

abbrev pub first_of : List Question → Option Question
first_of [] = None
first_of (q ∷ sent) = Some q

-- without the first question that is open, where one is
abbrev pub without_first : Queue → List Question → Queue
without_first w [] = w
without_first w (q ∷ sent) = passed w sent
