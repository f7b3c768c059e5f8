-- Answers one after another.
use Rattle.std.proofs.Common.{◌≡◌, ℕ, zero, suc, ◌+◌, ◌<◌, Option, List, [], ◌∷◌, ◌++◌, length, take, get_or, map, refl, sym, ap, subst, ◌∙◌, append-nil, add-one, arith, Bor}
use Rattle.std.specs.List.{AllByRecursion}
use Rattle.std.specs.Option.{option_copied}
use Rattle.std.proofs.lemmas.List.{map-append}
use Rattle.std.proofs.lemmas.List.Concat.{flat_map-append}
use Rattle.svn_wcdb.specs.declared.depth.Takes.TheVariants.{Sparse}
use Rattle.svn_answers.specs.declared.verdict.Verdict.{Verdict}
use Rattle.svn_answers.specs.declared.verdict.Verdict.TheVariants.{True, Untrue, Refused}
use Rattle.svn_answers.specs.Verdicts.{worse, worst}
use Rattle.svn_answers.specs.Notices.{Heard}
use Rattle.svn_answers.specs.Answers.{Answer, Compared, Opens, Stayed, IsAnswer, Answered, Checks, answer_text, notices_of, verdict_of}
use Rattle.svn_answers.specs.declared.live.Connected.{Connected}
use Rattle.svn_answers.specs.LiveAnswers.{IsLiveAnswer, AreLiveAnswers, LiveChecks}

-- ---- verdicts

worse_assoc : (u v w : Verdict) → worse (worse u v) w ≡ worse u (worse v w)
worse_assoc True v w = refl
worse_assoc Untrue True w = refl
worse_assoc Untrue Untrue True = refl
worse_assoc Untrue Untrue Untrue = refl
worse_assoc Untrue Untrue Refused = refl
worse_assoc Untrue Refused w = refl
worse_assoc Refused v w = refl

worse_true : (v : Verdict) → worse v True ≡ v
worse_true True = refl
worse_true Untrue = refl
worse_true Refused = refl

worst_more : (vs : List Verdict) (w : Verdict) → worst (vs ++ w ∷ []) ≡ worse (worst vs) w
worst_more [] w = worse_true w
worst_more (v ∷ vs) w = ap (worse v) (worst_more vs w) ∙ sym (worse_assoc v (worst vs) w)

-- ---- answers

each_more : {X : Type 0} (P : X → Type 0) (xs : List X) (x : X) → AllByRecursion P xs → P x → AllByRecursion P (xs ++ x ∷ [])
each_more P [] x all one = (one, tt)
each_more P (y ∷ ys) x all one = (all.0, each_more P ys x all.1 one)

none_answered : (F : Type 0) → Answered F [] [] True [] []
none_answered F = record {
  in_order = refl;
  lines = refl;
  notices = refl;
  worst_of_all = refl;
}

-- one more word is answered
one_answered : {F : Type 0} (words : List (List ℕ)) (answers : List (List ℕ × Answer F)) (word : List ℕ) (v w : Verdict) (text : List ℕ)
    (heard : Heard F) (a : Answer F) → Answered F words answers v text heard → w ≡ verdict_of a
    → Answered F (words ++ word ∷ []) (answers ++ (word, a) ∷ []) (worse v w) (text ++ answer_text word a) (heard ++ notices_of word a)
one_answered {F} words answers word v w text heard a before is =
    let e : List ℕ × Answer F = (word, a) in
    let same : answer_text word a ≡ answer_text word a ++ [] = sym (append-nil (answer_text word a)) in
    let same_notices : notices_of word a ≡ notices_of word a ++ [] = sym (append-nil (notices_of word a)) in
    record {
      in_order = map-append (λ (b : List ℕ × Answer F). b.0) answers (e ∷ []) ∙ ap (λ (l : List (List ℕ)). l ++ word ∷ []) before.in_order;
      lines =
          (λ i. before.lines i ++ same i)
          ∙ sym (flat_map-append (λ (b : List ℕ × Answer F). answer_text b.0 b.1) answers (e ∷ []));
      notices =
          (λ i. before.notices i ++ same_notices i)
          ∙ sym (flat_map-append (λ (b : List ℕ × Answer F). notices_of b.0 b.1) answers (e ∷ []));
      worst_of_all =
          (λ i. worse (before.worst_of_all i) (is i))
          ∙ sym (worst_more (map (λ (b : List ℕ × Answer F). verdict_of b.1) answers) (verdict_of a))
          ∙ ap worst (sym (map-append (λ (b : List ℕ × Answer F). verdict_of b.1) answers (e ∷ [])));
    }

-- ---- the words, one by one

words_next : (names : List (Bor (List ℕ))) (i : ℕ) (d : Bor (List ℕ)) → i < length names
    → map (λ (n : Bor (List ℕ)). n.now) (take i names) ++ (get_or names i d).now ∷ [] ≡ map (λ (n : Bor (List ℕ)). n.now) (take (suc i) names)
words_next [] i d within = absurd (omega (arith, within))
words_next (n ∷ names) zero d within = refl
words_next (n ∷ names) (suc i) d within = ap (λ (l : List (List ℕ)). n.now ∷ l) (words_next names i d (omega (arith, within)))

pub word_answered : {F : Type 0} (names : List (Bor (List ℕ))) (i : ℕ) (d : Bor (List ℕ)) (answers : List (List ℕ × Answer F)) (v w new : Verdict)
    (text : List ℕ) (heard : Heard F) (a : Answer F) → i < length names
    → Answered F (map (λ (n : Bor (List ℕ)). n.now) (take i names)) answers v text heard → w ≡ verdict_of a → new ≡ worse v w
    → Answered F (map (λ (n : Bor (List ℕ)). n.now) (take (i + 1) names)) (answers ++ ((get_or names i d).now, a) ∷ []) new
    (text ++ answer_text (get_or names i d).now a) (heard ++ notices_of (get_or names i d).now a)
word_answered {F} names i d answers v w new text heard a within before is worst_of_two =
    let name : List ℕ = (get_or names i d).now in
    let words : map (λ (n : Bor (List ℕ)). n.now) (take i names) ++ name ∷ [] ≡ map (λ (n : Bor (List ℕ)). n.now) (take (i + 1) names) =
    words_next names i d within ∙ ap (λ (k : ℕ). map (λ (n : Bor (List ℕ)). n.now) (take k names)) (sym (add-one i)) in
    let all : List (List ℕ × Answer F) = answers ++ (name, a) ∷ [] in
    let lines : List ℕ = text ++ answer_text name a in
    let notices : Heard F = heard ++ notices_of name a in
    subst (λ (l : List (List ℕ)). Answered F l all new lines notices) words
    (subst (λ (x : Verdict). Answered F (map (λ (n : Bor (List ℕ)). n.now) (take i names) ++ name ∷ []) all x lines notices) (sym worst_of_two)
    (one_answered (map (λ (n : Bor (List ℕ)). n.now) (take i names)) answers name v w text heard a before is))

-- ---- by a history

pub none_yet : (F : Type 0) (opens : Opens) (stayed : Stayed) (compared : Compared) → Checks F opens stayed compared [] True [] []
none_yet F opens stayed compared = record { answers = []; answered = none_answered F; each = tt }

pub next_word : {F : Type 0} (opens : Opens) (stayed : Stayed) (compared : Compared) (names : List (Bor (List ℕ))) (i : ℕ) (d : Bor (List ℕ))
    (v w new : Verdict) (text : List ℕ) (heard : Heard F) (a : Answer F) → i < length names
    → Checks F opens stayed compared (map (λ (n : Bor (List ℕ)). n.now) (take i names)) v text heard
    → IsAnswer Sparse opens stayed compared (get_or names i d).now a → w ≡ verdict_of a → new ≡ worse v w
    → Checks F opens stayed compared (map (λ (n : Bor (List ℕ)). n.now) (take (i + 1) names)) new (text ++ answer_text (get_or names i d).now a)
    (heard ++ notices_of (get_or names i d).now a)
next_word {F} opens stayed compared names i d v w new text heard a within before one is worst_of_two = record {
  answers = before.answers ++ ((get_or names i d).now, a) ∷ [];
  answered = word_answered names i d before.answers v w new text heard a within before.answered is worst_of_two;
  each =
      each_more (λ (b : List ℕ × Answer F). IsAnswer Sparse opens stayed compared b.0 b.1) before.answers ((get_or names i d).now, a) before.each one;
}

-- ---- by a server

module _ {F I O : Type 0} (remaining : I → Option (List ℕ)) (opens : Opens) (stayed : Stayed) (url : Option (List ℕ)) where
  pub none_asked : (line : Option (Connected I O)) → LiveChecks remaining F opens stayed url [] True [] [] line line
  none_asked line = record { answers = []; answered = none_answered F; each = refl }

  asked_more : (answers : List (List ℕ × Answer F)) (a : List ℕ × Answer F) (old mid new : Option (Connected I O))
      → AreLiveAnswers remaining F opens stayed url answers old mid → IsLiveAnswer remaining F opens stayed url a.0 a.1 mid new
      → AreLiveAnswers remaining F opens stayed url (answers ++ a ∷ []) old new
  asked_more [] a old mid new same one =
      (new, subst (λ (l : Option (Connected I O)). IsLiveAnswer remaining F opens stayed url a.0 a.1 l new) same one, refl)
  asked_more (b ∷ answers) a old mid new each one = (each.0, each.1, asked_more answers a each.0 mid new each.2 one)

  pub next_asked : (names : List (Bor (List ℕ))) (i : ℕ) (d : Bor (List ℕ)) (v w worst_then : Verdict) (text : List ℕ) (heard : Heard F)
      (a : Answer F) (old mid new : Option (Connected I O)) → i < length names
      → LiveChecks remaining F opens stayed url (map (λ (n : Bor (List ℕ)). n.now) (take i names)) v text heard old mid
      → IsLiveAnswer remaining F opens stayed url (get_or names i d).now a mid new → w ≡ verdict_of a → worst_then ≡ worse v w
      → LiveChecks remaining F opens stayed url (map (λ (n : Bor (List ℕ)). n.now) (take (i + 1) names)) worst_then
      (text ++ answer_text (get_or names i d).now a) (heard ++ notices_of (get_or names i d).now a) old new
  next_asked names i d v w worst_then text heard a old mid new within before one is worst_of_two = record {
    answers = before.answers ++ ((get_or names i d).now, a) ∷ [];
    answered = word_answered names i d before.answers v w worst_then text heard a within before.answered is worst_of_two;
    each = asked_more before.answers ((get_or names i d).now, a) old mid new before.each one;
  }

-- the same copies, asked for at the same URL
pub same_asked : {X F I O : Type 0} (remaining : I → Option (List ℕ)) (opens : X → Opens) (stayed : X → Stayed) (copies copies' : X)
    (url url' : Option (Bor (List ℕ))) (name : List ℕ) (a : Answer F) (old new : Option (Connected I O)) → copies ≡ copies' → url ≡ url'
    → IsLiveAnswer remaining F (opens copies) (stayed copies) (option_copied url) name a old new
    → IsLiveAnswer remaining F (opens copies') (stayed copies') (option_copied url') name a old new
same_asked {X} {F} remaining opens stayed copies copies' url url' name a old new same same_url answer =
    subst (λ (u : Option (Bor (List ℕ))). IsLiveAnswer remaining F (opens copies') (stayed copies') (option_copied u) name a old new) same_url
    (subst (λ (x : X). IsLiveAnswer remaining F (opens x) (stayed x) (option_copied url) name a old new) same answer)
