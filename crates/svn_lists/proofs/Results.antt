-- Results: what follows from what a clause says of a value or an error. The library has the same with the implication first.
use Rattle.std.proofs.Common.{false, is_ok, refl, subst, sym, true≢false, ◌∙◌, ◌≡◌}
use Rattle.std.specs.Prelude.{Err, IfErr, IfOk, IsErr, IsErrAnd, MatchResult, Ok, OnErr, OnOk, Result, is_err}
use Rattle.std.proofs.lemmas.Result.{err_from_is_err_and}

-- ---- of a value

pub OnOk_from : {T E : Type 0} {P : Type 0} (r : Result T E) → P → OnOk r P
OnOk_from (Ok v) h = h
OnOk_from (Err e) h = tt

pub OnOk_then : {T E : Type 0} {P Q : Type 0} (r : Result T E) → OnOk r P → (P → Q) → OnOk r Q
OnOk_then (Ok v) h f = f h
OnOk_then (Err e) h f = tt

pub OnOk_both : {T E : Type 0} (P Q : Type 0) (r : Result T E) → OnOk r P → OnOk r Q → OnOk r (P × Q)
OnOk_both P Q (Ok x) p q = (p, q)
OnOk_both P Q (Err e) p q = p

pub OnOk_from_both : {T E : Type 0} {P Q R : Type 0} (r : Result T E) → (P → Q → R) → OnOk r P → OnOk r Q → OnOk r R
OnOk_from_both (Ok x) f p q = f p q
OnOk_from_both (Err e) f p q = p

pub IfOk_then : {X E : Type 0} (P Q : X → Type 0) (r : Result X E) → IfOk r P → ((x : X) → P x → Q x) → IfOk r Q
IfOk_then P Q (Ok x) h f = f x h
IfOk_then P Q (Err e) h f = tt

pub IfOk_from_both : {X E : Type 0} (P Q R : X → Type 0) (r : Result X E) → IfOk r P → IfOk r Q → ((x : X) → P x → Q x → R x) → IfOk r R
IfOk_from_both P Q R (Ok x) p q f = f x p q
IfOk_from_both P Q R (Err e) p q f = tt

pub IfOk_same : {X E : Type 0} (r : Result X E) (P : E → Type 0) (x y : X) → x ≡ y → MatchResult r (λ v. v ≡ x) P → IfOk r (λ v. v ≡ y)
IfOk_same (Ok v) P x y e h = h ∙ e
IfOk_same (Err v) P x y e h = tt

-- what holds of a result that is no error
pub when_ok : {X E : Type 0} (r : Result X E) (P : Type 0) → is_err r ≡ false → OnOk r P → P
when_ok (Ok x) P none h = h
when_ok (Err e) P none h = absurd (true≢false none)

pub ok_by : {E : Type 0} {P : Type 0} (r : Result (Unit {0}) E) → (r ≡ Ok tt → P) → OnOk r P
ok_by (Ok done) f = f refl
ok_by (Err e) f = tt

pub at_ok : {E : Type 0} {P : Type 0} (r : Result (Unit {0}) E) → r ≡ Ok tt → OnOk r P → P
at_ok {E} {P} r e h = subst (λ (x : Result (Unit {0}) E). OnOk x P) e h

-- one result is `Ok` where another is
pub pass_ok : {E : Type 0} (A B : Type 0) (a : Result (Unit {0}) A) (r : Result (Unit {0}) E) → IfOk r (λ v. a ≡ Ok v) → OnOk a B → OnOk r B
pass_ok A B a (Ok v) ok h = subst (λ (x : Result (Unit {0}) A). OnOk x B) ok h
pass_ok A B a (Err e) ok h = tt

-- ---- of an error

pub OnErr_from : {T E : Type 0} {P : Type 0} (r : Result T E) → P → OnErr r P
OnErr_from (Ok v) h = tt
OnErr_from (Err e) h = h

pub OnErr_then : {T E : Type 0} {P Q : Type 0} (r : Result T E) → OnErr r P → (P → Q) → OnErr r Q
OnErr_then (Ok v) h f = tt
OnErr_then (Err e) h f = f h

pub err_by : {T E : Type 0} {P : Type 0} (r : Result T E) → ((e : E) → r ≡ Err e → P) → OnErr r P
err_by (Ok v) f = tt
err_by (Err e) f = f e refl

pub at_err : {T E : Type 0} {P : Type 0} (r : Result T E) (e : E) → r ≡ Err e → OnErr r P → P
at_err {T} {E} {P} r e is h = subst (λ (x : Result T E). OnErr x P) is h

pub pass_err : {E : Type 0} (A B : Type 0) (a : Result (Unit {0}) A) (r : Result (Unit {0}) E) → is_ok r ≡ is_ok a → OnErr a B → OnErr r B
pass_err A B a (Ok v) same h = tt
pass_err A B (Ok v) (Err e) same h = absurd (true≢false (sym same))
pass_err A B (Err x) (Err e) same h = h

-- what follows from what `?` says of the error that it returns
pub IfErr_returned : {T E : Type 0} (P Q : E → Type 0) (r : Result T E) → IsErr r × IsErrAnd r P → ((e : E) → P e → Q e) → IfErr r Q
IfErr_returned P Q r h weaker = let x = err_from_is_err_and r h.1 in subst (λ o. IfErr o Q) (sym x.1) (weaker x.0 x.2)
