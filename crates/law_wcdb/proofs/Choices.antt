-- What a reading was, from what came of it.
use Rattle.std.proofs.Common.{◌≡◌, ◌⊎◌, inl, inr, Bool, true, false, cond, Option, Some, None, Result, Ok, Err, refl, ap}
use Rattle.svn_wcdb.specs.Reading.{◌>>=◌, given}

pub ok_same : {A E : Type 0} {x y : A} → ◌≡◌ {A = Result A E} (Ok x) (Ok y) → x ≡ y
ok_same h = cc

pub err_ok : {A E : Type 0} {e : E} {y : A} → ◌≡◌ {A = Result A E} (Err e) (Ok y) → ⊥
err_ok h = cc

pub chosen : {A : Type 0} (b : Bool) (x y z : A) → cond b x y ≡ z → ((b ≡ true) × (x ≡ z)) ⊎ ((b ≡ false) × (y ≡ z))
chosen true x y z h = inl (refl, h)
chosen false x y z h = inr (refl, h)

-- no fault was met
pub unless_fault : {A E : Type 0} (b : Bool) (r : Result A E) (e : E) (y : A) → cond b r (Err e) ≡ Ok y → (b ≡ true) × (r ≡ Ok y)
unless_fault true r e y h = (refl, h)
unless_fault false r e y h = absurd (err_ok h)

pub not_refused : {A E : Type 0} (b : Bool) (e : E) (r : Result A E) (y : A) → cond b (Err e) r ≡ Ok y → r ≡ Ok y
not_refused true e r y h = absurd (err_ok h)
not_refused false e r y h = h

pub bound_ok : {A B E : Type 0} (r : Result A E) (f : A → Result B E) (y : B) → (r >>= f) ≡ Ok y → (x : A) × (r ≡ Ok x) × (f x ≡ Ok y)
bound_ok (Ok x) f y h = (x, refl, h)
bound_ok (Err e) f y h = absurd (err_ok h)

pub given_ok : {A E : Type 0} (e : E) (o : Option A) (y : A) → given e o ≡ Ok y → o ≡ Some y
given_ok e (Some x) y h = cc
given_ok e None y h = absurd (err_ok h)

pub ok_err : {A E : Type 0} {y : A} {e : E} → ◌≡◌ {A = Result A E} (Ok y) (Err e) → ⊥
ok_err h = cc

pub err_same : {A E : Type 0} {x y : E} → ◌≡◌ {A = Result A E} (Err x) (Err y) → x ≡ y
err_same h = cc

-- where the first fault is
pub bound_err : {A B E : Type 0} (r : Result A E) (f : A → Result B E) (e : E) → (r >>= f) ≡ Err e → (r ≡ Err e) ⊎ ((x : A) × (r ≡ Ok x) × (f x ≡ Err e))
bound_err (Ok x) f e h = inr (x, refl, h)
bound_err (Err fault) f e h = inl (ap Err (err_same h))
