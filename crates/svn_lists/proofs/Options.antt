-- Options: whether there is a value, the first of two, and values that are taken where a test holds.
use Rattle.std.proofs.Common.{Bool, IsSome, ap, cond, false, inl, inr, not, refl, sym, true, ℕ, ◌&&◌, ◌||◌, ◌∙◌, ◌≡◌, ◌≢◌, ◌⊎◌}
use Rattle.std.specs.Bool.{then_some}
use Rattle.std.specs.Option.{option_and_then, option_copied, option_or}
use Rattle.std.specs.Prelude.{MatchOption, None, Option, Some, is_some}
use Rattle.std.proofs.lemmas.Bool.{cases_eq, cond-false}
use Rattle.std.proofs.lemmas.Option.{none-some, same_Some}
use denote.Ref.{Bor}

-- ---- whether there is a value

pub some-none : {X : Type 0} (x : X) → Some x ≡ None → ⊥
some-none x e = none-some x (sym e)

pub some_value : {A : Type 0} (o : Option A) → is_some o ≡ true → (x : A) × (o ≡ Some x)
some_value None h = let bad : false ≡ true = h in cc
some_value (Some x) h = (x, refl)

pub none_from_test : {X : Type 0} (o : Option X) → is_some o ≡ false → o ≡ None
none_from_test None none = refl
none_from_test (Some x) none = absurd (let no : ⊥ = cc in no)

pub none_from_not_some : {X : Type 0} (o : Option X) → (IsSome o → ⊥) → o ≡ None
none_from_not_some None h = refl
none_from_not_some (Some e) h = absurd (h refl)

pub not_some_from_none : {X : Type 0} (o : Option X) → o ≡ None → IsSome o → ⊥
not_some_from_none o e live = let no : false ≡ true = sym (ap is_some e) ∙ live in let none : ⊥ = cc in none

-- what holds where there is no value
pub when_none : {A : Type 0} (o : Option A) (P : Type 0) (Q : A → Type 0) → ((x : A) → o ≡ Some x → ⊥) → MatchOption o P Q → P
when_none None P Q not h = h
when_none (Some x) P Q not h = absurd (not x refl)

-- whether an option has this number
pub cases_number : (o : Option ℕ) (c : ℕ) → (o ≡ Some c) ⊎ (o ≢ Some c)
cases_number None c = inr (λ e. none-some c e)
cases_number (Some d) c = elim (cases_eq d c) [ inl is ↦ inl (ap Some is) | inr apart ↦ inr (λ e. apart (same_Some d c e)) ]

-- ---- the first of two

pub option_or_none : {A : Type 0} (a b : Option A) → option_or a b ≡ None → (a ≡ None) × (b ≡ None)
option_or_none None b h = (refl, h)
option_or_none (Some x) b h = cc

pub option_or_next : {A : Type 0} (a b : Option A) → a ≡ None → option_or a b ≡ b
option_or_next a b e = ap (λ o. option_or o b) e

pub option_or_some : {A : Type 0} (a b : Option A) → is_some b ≡ true → is_some (option_or a b) ≡ true
option_or_some None b h = h
option_or_some (Some x) b h = refl

pub option_or-copied : {X : Type 0} (a b : Option (Bor X)) → option_copied (option_or a b) ≡ option_or (option_copied a) (option_copied b)
option_or-copied None b = refl
option_or-copied (Some x) b = refl

-- ---- a value made of another

pub and_then_same : {A B : Type 0} (u v : A → Option B) (o : Option A) → ((x : A) → o ≡ Some x → u x ≡ v x)
    → option_and_then u o ≡ option_and_then v o
and_then_same u v None h = refl
and_then_same u v (Some x) h = h x refl

pub and_then_parts : {A B : Type 0} (u : A → Option B) (o : Option A) (y : B) → option_and_then u o ≡ Some y
    → (x : A) × (o ≡ Some x) × (u x ≡ Some y)
and_then_parts u None y h = cc
and_then_parts u (Some x) y h = (x, refl, h)

pub and_then_every : {A : Type 0} (o : Option A) → option_and_then (λ n. Some n) o ≡ o
and_then_every None = refl
and_then_every (Some n) = refl

pub some_from_and_then : {A B : Type 0} (u : A → Option B) (o : Option A) → is_some (option_and_then u o) ≡ true → is_some o ≡ true
some_from_and_then u None h = h
some_from_and_then u (Some x) h = refl

pub is_some-copied : {X : Type 0} (o : Option (Bor X)) → is_some o ≡ is_some (option_copied o)
is_some-copied None = refl
is_some-copied (Some x) = refl

-- ---- where a test holds

-- the first of two faults isn't there, and nor is the second
pub cond_none : {X : Type 0} (b : Bool) (x : X) (o : Option X) → cond b (Some x) o ≡ None → (b ≡ false) × (o ≡ None)
cond_none true x o h = absurd (some-none x h)
cond_none false x o h = (refl, h)

-- a test that fails leaves it to the next
pub cond_skipped : {X : Type 0} (b : Bool) (x o : Option X) → b ≡ false → o ≡ None → cond b x o ≡ None
cond_skipped b x o e h = cond-false b x o e ∙ h

-- one test of a row, and the rest where it isn't met
pub cond_some_or : {X : Type 0} (a b : Bool) (x : X) (o p : Option X) → a ≡ b → (b ≡ false → o ≡ p) → cond a (Some x) o ≡ cond b (Some x) p
cond_some_or a true x o p e f = ap (λ c. cond c (Some x) o) e
cond_some_or a false x o p e f = ap (λ c. cond c (Some x) o) e ∙ f refl

-- the same, with another row after the first
pub cond_some_or_then : {X : Type 0} (a b : Bool) (x : X) (o q p : Option X) → a ≡ b → (b ≡ false → option_or o q ≡ p)
    → option_or (cond a (Some x) o) q ≡ cond b (Some x) p
cond_some_or_then a true x o q p e f = ap (λ c. option_or (cond c (Some x) o) q) e
cond_some_or_then a false x o q p e f = ap (λ c. option_or (cond c (Some x) o) q) e ∙ f refl

pub cond_none_four : {X : Type 0} (a b c d : Bool) (u v x y : X)
    → cond a (Some u) (cond b (Some v) (cond c (Some x) (cond d (Some y) None))) ≡ None
    → (a ≡ false) × (b ≡ false) × (c ≡ false) × (d ≡ false)
cond_none_four a b c d u v x y e =
    let first = cond_none a u (cond b (Some v) (cond c (Some x) (cond d (Some y) None))) e in
    let second = cond_none b v (cond c (Some x) (cond d (Some y) None)) first.1 in
    let third = cond_none c x (cond d (Some y) None) second.1 in
    (first.0, second.0, third.0, (cond_none d y None third.1).0)

pub none_from_four : {X : Type 0} (a b c d : Bool) (u v x y : X) → a ≡ false → b ≡ false → c ≡ false → d ≡ false
    → cond a (Some u) (cond b (Some v) (cond c (Some x) (cond d (Some y) None))) ≡ None
none_from_four a b c d u v x y p q r s =
    ap (λ k. cond k (Some u) (cond b (Some v) (cond c (Some x) (cond d (Some y) None)))) p
    ∙ ap (λ k. cond k (Some v) (cond c (Some x) (cond d (Some y) None))) q
    ∙ ap (λ k. cond k (Some x) (cond d (Some y) None)) r
    ∙ ap (λ k. cond k (Some y) None) s

pub copied_if : {X : Type 0} (b : Bool) (x : Bor X) → option_copied (then_some b x) ≡ cond b (Some x.now) None
copied_if true x = refl
copied_if false x = refl

-- ---- a value that goes where a test holds

pub removed_twice : {X : Type 0} (a b : Bool) (old : Option X) → cond b None (cond a None old) ≡ cond (a || b) None old
removed_twice true true old = refl
removed_twice true false old = refl
removed_twice false true old = refl
removed_twice false false old = refl

pub removed_where : {X : Type 0} (b : Bool) (old : Option X) → cond (b && is_some old) None old ≡ cond b None old
removed_where true None = refl
removed_where true (Some n) = refl
removed_where false old = refl

pub set_twice : {X : Type 0} (a b : Bool) (v old : X) → cond b v (cond a v old) ≡ cond (a || b) v old
set_twice true true v old = refl
set_twice true false v old = refl
set_twice false b v old = refl

pub left_out : {X : Type 0} (b : Bool) (o : Option X) → option_and_then (λ n. cond (not b) (Some n) None) o ≡ cond b None o
left_out true None = refl
left_out true (Some n) = refl
left_out false None = refl
left_out false (Some n) = refl
