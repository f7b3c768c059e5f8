-- What is written part by part as a client is let in, and as its failure is sent back.
use Rattle.std.proofs.Common.{◌≡◌, ℕ, Bool, true, false, true≢false, List, [], ◌++◌, append_assoc, codes, sym, MatchBool}
use Rattle.svn_wire.specs.Writing.{number_bytes, text_bytes}
use Rattle.svn_replies.specs.declared.served.Served.{Served}
use Rattle.svn_replies.specs.declared.session.Session.{Session}
use Rattle.svn_replies.specs.Answers.{success, failure}
use Rattle.svn_served.specs.Connection.{mechanisms, admission, sent_back}

-- one of two facts, by a test
pub chosen : (b : Bool) (P Q : Type 0) → b ≡ true → P → MatchBool b P Q
chosen true P Q is p = p
chosen false P Q is p = absurd (true≢false (sym is))

pub other : (b : Bool) (P Q : Type 0) → b ≡ false → Q → MatchBool b P Q
other true P Q is q = absurd (true≢false is)
other false P Q is q = q

-- ---- what is written part by part

three_parts : (out a b c : List ℕ) → ((out ++ a) ++ b) ++ c ≡ out ++ (a ++ (b ++ c))
three_parts out a b c = simp append_assoc

five_parts : (out a b c d e : List ℕ) → ((((out ++ a) ++ b) ++ c) ++ d) ++ e ≡ out ++ (a ++ (b ++ (c ++ (d ++ e))))
five_parts out a b c d e = simp append_assoc

all_parts : (out a b c d e f g : List ℕ)
    → ((((((out ++ a) ++ b) ++ c) ++ d) ++ e) ++ f) ++ g ≡ out ++ (a ++ (b ++ ((c ++ (d ++ (e ++ f))) ++ g)))
all_parts out a b c d e f g = simp append_assoc

pub offered : (uuid text out a b : List ℕ) → text ≡ uuid → a ≡ out ++ codes "( success ( ( ANONYMOUS EXTERNAL ) " → b ≡ a ++ text_bytes text
    → b ++ codes ") ) " ≡ out ++ mechanisms uuid
offered uuid text out a b same p q =
    rw (q, p, same) (three_parts out (codes "( success ( ( ANONYMOUS EXTERNAL ) ") (text_bytes uuid) (codes ") ) "))

pub admitted : (s : Served) (session : Session) (uuid url out a b c d e f : List ℕ) → uuid ≡ s.uuid → url ≡ session.url → a ≡ out ++ success []
    → b ≡ a ++ codes "( success ( " → c ≡ b ++ text_bytes uuid → d ≡ c ++ text_bytes url → e ≡ d ++ codes "( " → f ≡ e ++ codes ") "
    → f ++ codes ") ) " ≡ out ++ admission s session
unfolding success
admitted s session uuid url out a b c d e f is_uuid is_url p q r t u v =
    rw (v, u, t, r, q, p, is_uuid, is_url)
    (all_parts out (success []) (codes "( success ( ") (text_bytes s.uuid) (text_bytes session.url) (codes "( ") (codes ") ") (codes ") ) "))

pub sent_parts : (code : ℕ) (message out a b c d : List ℕ) → a ≡ out ++ codes "( abort-edit ( ) ) " → b ≡ a ++ codes "( failure ( ( "
    → c ≡ b ++ number_bytes code → d ≡ c ++ text_bytes message → d ++ codes "0: 0 ) ) ) " ≡ out ++ sent_back code message
unfolding failure
sent_parts code message out a b c d p q r t =
    rw (t, r, q, p)
    (five_parts out (codes "( abort-edit ( ) ) ") (codes "( failure ( ( ") (number_bytes code) (text_bytes message) (codes "0: 0 ) ) ) "))
