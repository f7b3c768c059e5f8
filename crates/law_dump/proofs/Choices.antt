-- What a choice or a result was, from what came of it.
use Rattle.std.proofs.Common.{◌≡◌, ◌⊎◌, inl, inr, ℕ, Bool, true, false, cond, List, ◌++◌, Result, Ok, Err, refl, sym, ap}
use Rattle.svn_dump.specs.declared.fault.Reason.{Reason}
use Rattle.svn_dump.specs.Reading.{◌>>=◌}
use Rattle.svn_dump.specs.Blocks.{with_front}

pub ok_same : {A : Type 0} (x y : A) → ◌≡◌ {A = Result A Reason} (Ok x) (Ok y) → x ≡ y
ok_same x y h = cc

-- what was read, and what is after it
pub read_same : {A B : Type 0} (p q : A × B) → ◌≡◌ {A = Result (A × B) Reason} (Ok p) (Ok q) → (p.0 ≡ q.0) × (p.1 ≡ q.1)
read_same {A} {B} p q h =
    let same = ok_same p q h in
    (ap (λ (p : A × B). p.0) same, ap (λ (p : A × B). p.1) same)

pub chosen : {A : Type 0} (b : Bool) (x y z : A) → cond b x y ≡ z → ((b ≡ true) × (x ≡ z)) ⊎ ((b ≡ false) × (y ≡ z))
chosen true x y z h = inl (refl, h)
chosen false x y z h = inr (refl, h)

-- a fault wasn't met
pub ok_first : {A : Type 0} (b : Bool) (r : Result A Reason) (e : Reason) (y : A) → cond b r (Err e) ≡ Ok y → (b ≡ true) × (r ≡ Ok y)
ok_first true r e y h = (refl, h)
ok_first false r e y h = cc

pub ok_second : {A : Type 0} (b : Bool) (e : Reason) (r : Result A Reason) (y : A) → cond b (Err e) r ≡ Ok y → (b ≡ false) × (r ≡ Ok y)
ok_second true e r y h = cc
ok_second false e r y h = (refl, h)

pub bound_ok : {A B : Type 0} (r : Result A Reason) (f : A → Result B Reason) (y : B) → (r >>= f) ≡ Ok y
    → (x : A) × (r ≡ Ok x) × (f x ≡ Ok y)
bound_ok (Ok x) f y h = (x, refl, h)
bound_ok (Err e) f y h = cc

pub front_ok : (front : List ℕ) (r : Result (List ℕ × List ℕ) Reason) (whole rest : List ℕ) → with_front front r ≡ Ok (whole, rest)
    → (more : List ℕ) × (r ≡ Ok (more, rest)) × (whole ≡ front ++ more)
front_ok front (Ok x) whole rest h =
    let same = read_same (front ++ x.0, x.1) (whole, rest) h in
    (x.0, ap (λ (l : List ℕ). Ok (x.0, l)) same.1, sym same.0)
front_ok front (Err e) whole rest h = cc

pub err_ok : {A : Type 0} (e : Reason) (y : A) → ◌≡◌ {A = Result A Reason} (Err e) (Ok y) → ⊥
err_ok e y h = cc

-- `ap`, where the equation tells what the function is on
pub under : {A B : Type 0} {x y : A} → x ≡ y → (f : A → B) → f x ≡ f y
under e f = ap f e
