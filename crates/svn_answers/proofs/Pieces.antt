-- Bytes that are read piece by piece, and compared.
use Rattle.std.proofs.Common.{◌≡◌, ◌≢◌, ◌∙◌, ℕ, ◌<◌, ◌≤◌, ◌+◌, List, [], ◌∷◌, ◌++◌, refl, sym, ap, subst, length, take, drop, arith, true, false, Bool, zero, suc, Option, Some, None, Result, Ok, Err}
use Rattle.std.specs.Prelude.{IfSome, bytes_eq, nat_eq}
use Rattle.std.specs.Bool.{Decides}
use Rattle.std.specs.Io.KnownBytes.{Consumes, Keeps, IsAtEnd, ReadConsumes}
use Rattle.std.proofs.KnownBytes.{Consumes-kept, Consumes-trans}
use Rattle.std.proofs.lemmas.Bool.{false≢true}
use Rattle.std.proofs.lemmas.Bool.Decides.{same_from_decides}
use Rattle.std.proofs.lemmas.List.{append_assoc, append-nil, append_cancel_left, length-append}
use Rattle.std.proofs.lemmas.Slice.Eq.{bytes_eq-Decides}
use Rattle.svn_answers.specs.Working.{AreCompared, IsAtItsEnd, IsNext}

pub came : {E : Type 0} (mid new : Option (List ℕ)) (r : Result ℕ E) (n : ℕ) (buf : List ℕ) → ReadConsumes mid new r buf → r ≡ Ok n
    → Consumes mid new (take n buf) × (n ≡ 0 → 0 < length buf → IsAtEnd new)
came mid new r n buf h is = subst (λ x. ReadConsumes mid new x buf) is h

pub failed : {E : Type 0} (old mid new : Option (List ℕ)) (r : Result ℕ E) (e : E) (done buf : List ℕ) → Consumes old mid done
    → ReadConsumes mid new r buf → r ≡ Err e → Consumes old new done
failed old mid new r e done buf taken h is = Consumes-kept old mid new done taken (subst (λ x. ReadConsumes mid new x buf) is h)

no_more : (rest more : List ℕ) → 0 < length rest → [] ≡ rest ++ more → ⊥
no_more rest more some none =
    omega (arith, ap (λ (l : List ℕ). length l) none ∙ length-append rest more, some)

-- no byte came, and some are wanted
pub none_left : (old mid new : Option (List ℕ)) (wanted done rest : List ℕ) → wanted ≡ done ++ rest → 0 < length rest → Consumes old mid done
    → Consumes mid new [] → IsAtEnd new → IsNext old new wanted false
none_left None mid new wanted done rest all some taken none end = tt
none_left (Some xs) None new wanted done rest all some taken none end = absurd taken
none_left (Some xs) (Some ys) None wanted done rest all some taken none end = absurd none
none_left (Some xs) (Some ys) (Some zs) wanted done rest all some taken none end = λ more is.
    let same : done ++ ys ≡ done ++ (rest ++ more) =
    sym taken ∙ is ∙ ap (λ (l : List ℕ). l ++ more) all ∙ append_assoc done rest more in
    no_more rest more some (sym (none ∙ end) ∙ append_cancel_left done ys (rest ++ more) same)

take_front : (front rest : List ℕ) → take (length front) (front ++ rest) ≡ front
take_front [] rest = refl
take_front (x ∷ front) rest = ap (λ (l : List ℕ). x ∷ l) (take_front front rest)

pub take_within : (n : ℕ) (rest more : List ℕ) → n ≤ length rest → take n (rest ++ more) ≡ take n rest
take_within zero rest more within = refl
take_within (suc n) [] more within = absurd (omega (arith, within))
take_within (suc n) (x ∷ rest) more within = ap (λ (l : List ℕ). x ∷ l) (take_within n rest more (omega (arith, within)))

-- others than the wanted ones came
pub others_came : (old mid new : Option (List ℕ)) (wanted done rest piece : List ℕ) → wanted ≡ done ++ rest → length piece ≤ length rest
    → bytes_eq (take (length piece) rest) piece ≡ false → Consumes old mid done → Consumes mid new piece → IsNext old new wanted false
others_came None mid new wanted done rest piece all within differ taken more_taken = tt
others_came (Some xs) None new wanted done rest piece all within differ taken more_taken = absurd taken
others_came (Some xs) (Some ys) None wanted done rest piece all within differ taken more_taken = absurd more_taken
others_came (Some xs) (Some ys) (Some zs) wanted done rest piece all within differ taken more_taken = λ more is.
    let same : done ++ ys ≡ done ++ (rest ++ more) =
    sym taken ∙ is ∙ ap (λ (l : List ℕ). l ++ more) all ∙ append_assoc done rest more in
    let left : piece ++ zs ≡ rest ++ more = sym more_taken ∙ append_cancel_left done ys (rest ++ more) same in
    let front : take (length piece) rest ≡ piece =
    sym (take_within (length piece) rest more within) ∙ ap (take (length piece)) (sym left) ∙ take_front piece zs in
    false≢true (sym differ ∙ (bytes_eq-Decides (take (length piece) rest) piece).1 front)

take_drop : (n : ℕ) (l : List ℕ) → l ≡ take n l ++ drop n l
take_drop zero l = refl
take_drop (suc n) [] = refl
take_drop (suc n) (x ∷ l) = ap (λ (t : List ℕ). x ∷ t) (take_drop n l)

-- the wanted ones came
pub wanted_came : (wanted done rest piece left : List ℕ) → wanted ≡ done ++ rest → bytes_eq (take (length piece) rest) piece ≡ true
    → left ≡ drop (length piece) rest → wanted ≡ (done ++ piece) ++ left
wanted_came wanted done rest piece left all same is =
    all
    ∙ ap (λ (l : List ℕ). done ++ l)
    (take_drop (length piece) rest ∙ (λ i. (bytes_eq-Decides (take (length piece) rest) piece).0 same i ++ sym is i))
    ∙ sym (append_assoc done piece left)

-- ---- both ends

is_empty : (l : List ℕ) → bytes_eq l [] ≡ true → l ≡ []
is_empty l same = (bytes_eq-Decides l []).0 same

no_bytes : (n : ℕ) (buf more : List ℕ) → n ≤ length buf → take n buf ++ more ≡ [] → n ≡ 0
no_bytes zero buf more within is = refl
no_bytes (suc n) [] more within is = absurd (omega (arith, within))
no_bytes (suc n) (x ∷ buf) more within is = absurd (omega (arith, ap (λ (l : List ℕ). length l) is))

pub at_its_end : (old mid new : Option (List ℕ)) (n : ℕ) (buf : List ℕ) (b : Bool) → Consumes old mid [] → Consumes mid new (take n buf)
    → (n ≡ 0 → 0 < length buf → IsAtEnd new) → 0 < length buf → n ≤ length buf → Decides b (n ≡ 0) → IsAtItsEnd old b
at_its_end None mid new n buf b none piece end room within decides = tt
at_its_end (Some xs) None new n buf b none piece end room within decides = absurd none
at_its_end (Some xs) (Some ys) None n buf b none piece end room within decides = absurd piece
at_its_end (Some xs) (Some ys) (Some zs) n buf b none piece end room within decides =
    same_from_decides b (bytes_eq xs []) (
      λ is.
          let no_byte : n ≡ 0 = decides.0 is in
          none ∙ piece ∙ (λ i. take (no_byte i) buf ++ end no_byte room i),
      λ is. decides.1 (no_bytes n buf zs within (sym (none ∙ piece) ∙ is)),
    ) (bytes_eq-Decides xs [])

-- the one is at its end
pub ends_compared : (fo fm fn to tm : Option (List ℕ)) (done : List ℕ) (b : Bool) → Consumes fo fm done → Consumes to tm done → Consumes fm fn []
    → IsAtEnd fn → IsAtItsEnd tm b → AreCompared fo to b
ends_compared None fm fn to tm done b file text none end is = tt
ends_compared (Some f) None fn to tm done b file text none end is = absurd file
ends_compared (Some f) (Some g) None to tm done b file text none end is = absurd none
ends_compared (Some f) (Some g) (Some h) None tm done b file text none end is = tt
ends_compared (Some f) (Some g) (Some h) (Some t) None done b file text none end is = absurd text
ends_compared (Some f) (Some g) (Some h) (Some t) (Some u) done b file text none end is =
    same_from_decides b (bytes_eq f t) (
      λ yes. file ∙ ap (λ (l : List ℕ). done ++ l) (none ∙ end ∙ sym (is_empty u (sym is ∙ yes))) ∙ sym text,
      λ same.
          is
          ∙ (bytes_eq-Decides u []).1
          (append_cancel_left done u [] (sym text ∙ sym same ∙ file ∙ ap (λ (l : List ℕ). done ++ l) (none ∙ end))),
    ) (bytes_eq-Decides f t)

-- the next bytes differ
pub others_compared : (fo fm fn to tm tn : Option (List ℕ)) (done piece : List ℕ) → Consumes fo fm done → Consumes to tm done → Consumes fm fn piece
    → IsNext tm tn piece false → AreCompared fo to false
others_compared None fm fn to tm tn done piece file text more is = tt
others_compared (Some f) None fn to tm tn done piece file text more is = absurd file
others_compared (Some f) (Some g) None to tm tn done piece file text more is = absurd more
others_compared (Some f) (Some g) (Some h) None tm tn done piece file text more is = tt
others_compared (Some f) (Some g) (Some h) (Some t) None tn done piece file text more is = absurd text
others_compared (Some f) (Some g) (Some h) (Some t) (Some u) tn done piece file text more is =
    same_from_decides false (bytes_eq f t) (
      λ yes. absurd (false≢true yes),
      λ same. absurd (is h (append_cancel_left done u (piece ++ h) (sym text ∙ sym same ∙ file ∙ ap (λ (l : List ℕ). done ++ l) more))),
    ) (bytes_eq-Decides f t)

-- ---- steps

pub took : (old mid new : Option (List ℕ)) (done piece : List ℕ) → Consumes old mid done → Consumes mid new piece → Consumes old new (done ++ piece)
took old mid new done piece taken more = Consumes-trans old mid new done piece taken more

-- there was no more
pub at_end : {E : Type 0} (mid new : Option (List ℕ)) (r : Result ℕ E) (n : ℕ) (buf : List ℕ) → ReadConsumes mid new r buf → r ≡ Ok n → n ≡ 0
    → 0 < length buf → Consumes mid new [] × IsAtEnd new
at_end mid new r n buf h is no_byte room =
    let read = came mid new r n buf h is in
    (subst (λ (m : ℕ). Consumes mid new (take m buf)) no_byte read.0, read.1 no_byte room)
