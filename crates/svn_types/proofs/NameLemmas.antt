-- Names: the tests on them and what they mean, their order, and what is found under them in pairs.
use Rattle.std.proofs.Common.{◌≡◌, ℕ, Bool, true, false, ◌||◌, List, [], ◌∷◌, refl, sym, ◌∙◌, ap, subst, true≢false}
use Rattle.std.proofs.Math.Bool.{or-false}
use Rattle.std.specs.Prelude.{Some, None, cond, bytes_eq, fold}
use Rattle.std.specs.List.{list_any}
use Rattle.std.specs.declared.cmp.Ordering.{Ordering}
use Rattle.std.specs.declared.cmp.Ordering.TheVariants.{Less, Equal, Greater}
use Rattle.std.specs.Ordering.{is_lt, ordering_reverse, match_ordering}
use Rattle.std.specs.BTreeMap.{is_at}
use Rattle.std.specs.BTreeSet.{insert_key}
use Rattle.std.specs.Map.{keys_of}
use Rattle.std.specs.Cmp.Lexicographic.{nat_list_cmp_total, texts_ties}
use Rattle.std.specs.FinMap.{slice_cmp-IsAntisymmetric, nat_cmp-IsAntisymmetric}
use Rattle.std.proofs.lemmas.Cmp.{tied_itself}
use Rattle.svn_lists.proofs.Equality.{bytes_eq-symm, same_bytes}
use Rattle.svn_lists.proofs.Options.{option_or_none}
use Rattle.svn_lists.proofs.Orderings.{less_from_is_lt}
use Rattle.svn_types.specs.Names.{Path, name_cmp}
use Rattle.svn_types.specs.NameFaults.{name_fault, names_fault}
use Rattle.svn_types.specs.Pairs.{value_of}

abbrev pub Name : Type 0
Name = List ℕ

-- ---- order

pub same_name : (m n : Name) → name_cmp m n ≡ Equal → m ≡ n
same_name = slice_cmp-IsAntisymmetric nat_cmp-IsAntisymmetric

pub name_cmp-same : (m : Name) → name_cmp m m ≡ Equal
name_cmp-same = tied_itself nat_list_cmp_total

-- names that the test takes for one are level
pub level_names : (m n : Name) → bytes_eq m n ≡ true → name_cmp m n ≡ Equal
level_names m n h = ap (name_cmp m) (sym (same_bytes m n h)) ∙ name_cmp-same m

pub lt_chain : (m n k : Name) → is_lt (name_cmp m n) ≡ true → is_lt (name_cmp n k) ≡ true → is_lt (name_cmp m k) ≡ true
lt_chain m n k h i = ap is_lt (nat_list_cmp_total.trans m n k (less_from_is_lt _ h) (less_from_is_lt _ i))

pub lt_apart : (m n : Name) → is_lt (name_cmp m n) ≡ true → bytes_eq m n ≡ false
lt_apart m n h = by (bytes_eq m n) refl
  where
    by : (b : Bool) → bytes_eq m n ≡ b → b ≡ false
    by false e = refl
    by true e =
        let tie : is_lt (name_cmp m m) ≡ true = subst (λ x. is_lt (name_cmp m x) ≡ true) (sym (same_bytes m n e)) h in
        absurd (true≢false (sym tie ∙ ap is_lt (name_cmp-same m)))

-- the other way round
pub reversed : (m n : Name) (o : Ordering) → name_cmp m n ≡ o → name_cmp n m ≡ ordering_reverse o
reversed m n o e = nat_list_cmp_total.antisymm n m ∙ ap ordering_reverse e

pub flipped : (m n : Name) → name_cmp m n ≡ Greater → is_lt (name_cmp n m) ≡ true
flipped m n e = ap is_lt (reversed m n Greater e)

-- ---- names as keys

-- the test by which a name is looked up
pub at_name : (m n : Name) → is_at (name_cmp m) n ≡ bytes_eq m n
at_name m n = sym (texts_ties m n)

-- what is found in a list that begins with an entry
pub value_of-first : {X : Type 0} (e : Name × X) (es : List (Name × X)) (m : Name)
    → value_of (e ∷ es) m ≡ cond (bytes_eq e.0 m) (Some e.1) (value_of es m)
value_of-first e es m = ap (λ b. cond b (Some e.1) (value_of es m)) (at_name m e.0 ∙ bytes_eq-symm m e.0)

-- the name is one of the names
abbrev pub has_name : List Name → Name → Bool
has_name ns m = list_any (λ n. bytes_eq n m) ns

-- a name under which nothing is found is none of the names, and one under which something is found is
pub no_name_no_value : {X : Type 0} (es : List (Name × X)) (m : Name) → has_name (keys_of es) m ≡ false → value_of es m ≡ None
no_name_no_value [] m h = refl
no_name_no_value (e ∷ es) m h = value_of-first e es m ∙ by (bytes_eq e.0 m) h (no_name_no_value es m)
  where
    by : (b : Bool) → (b || has_name (keys_of es) m) ≡ false → (has_name (keys_of es) m ≡ false → value_of es m ≡ None)
        → cond b (Some e.1) (value_of es m) ≡ None
    by true q ih = absurd (true≢false q)
    by false q ih = ih q

pub named_value : {X : Type 0} (es : List (Name × X)) (m : Name) (v : X) → value_of es m ≡ Some v → has_name (keys_of es) m ≡ true
named_value es m v h = by (has_name (keys_of es) m) refl
  where
    by : (b : Bool) → has_name (keys_of es) m ≡ b → b ≡ true
    by true q = refl
    by false q = absurd (none (sym (no_name_no_value es m q) ∙ h))
      where
        none : None ≡ Some v → ⊥
        none z = cc

-- the list has a value under the name
abbrev pub HasValue : {X : Type 0} → List (Name × X) → Name → Type 0
HasValue {X} es m = (v : X) × (value_of es m ≡ Some v)

pub value_of_name : {X : Type 0} (es : List (Name × X)) (m : Name) → has_name (keys_of es) m ≡ true → HasValue es m
value_of_name {X} [] m h = absurd (true≢false (sym h))
value_of_name {X} (e ∷ es) m h = let r = by (bytes_eq e.0 m) h (value_of_name es m) in (r.0, value_of-first e es m ∙ r.1)
  where
    by : (b : Bool) → (b || has_name (keys_of es) m) ≡ true → (has_name (keys_of es) m ≡ true → (v : X) × (value_of es m ≡ Some v))
        → (v : X) × (cond b (Some e.1) (value_of es m) ≡ Some v)
    by true k ih = (e.1, refl)
    by false k ih = ih k

-- ---- names put one by one into a set

pub has_name-insert_key : (ms : List Name) (n m : Name) → has_name (insert_key name_cmp ms n) m ≡ (bytes_eq n m || has_name ms m)
has_name-insert_key [] n m = refl
has_name-insert_key (k ∷ ms) n m = by (name_cmp n k) refl (has_name-insert_key ms n m)
  where
    swap : (a b c : Bool) → (a || (b || c)) ≡ (b || (a || c))
    swap true true c = refl
    swap true false c = refl
    swap false true c = refl
    swap false false c = refl

    twice : (a b c : Bool) → a ≡ b → (b || c) ≡ (a || (b || c))
    twice true b c q = ap (λ x. x || c) (sym q)
    twice false b c q = refl

    by : (o : Ordering) → name_cmp n k ≡ o → has_name (insert_key name_cmp ms n) m ≡ (bytes_eq n m || has_name ms m)
        → has_name (match_ordering o (n ∷ k ∷ ms) (k ∷ ms) (k ∷ insert_key name_cmp ms n)) m
        ≡ (bytes_eq n m || (bytes_eq k m || has_name ms m))
    by Less c ih = refl
    by Equal c ih = twice (bytes_eq n m) (bytes_eq k m) (has_name ms m) (ap (λ x. bytes_eq x m) (same_name n k c))
    by Greater c ih = ap (λ x. bytes_eq k m || x) ih ∙ swap (bytes_eq k m) (bytes_eq n m) (has_name ms m)

pub has_name-fold : (xs ms : List Name) (m : Name) → has_name (fold (insert_key name_cmp) ms xs) m ≡ (has_name ms m || has_name xs m)
has_name-fold [] ms m = sym (or-false (has_name ms m))
has_name-fold (x ∷ xs) ms m =
    has_name-fold xs (insert_key name_cmp ms x) m
    ∙ ap (λ b. b || has_name xs m) (has_name-insert_key ms x m)
    ∙ swap (bytes_eq x m) (has_name ms m) (has_name xs m)
  where
    swap : (a b c : Bool) → ((a || b) || c) ≡ (b || (a || c))
    swap true true c = refl
    swap true false c = refl
    swap false true c = refl
    swap false false c = refl

-- ---- names without a fault

pub first_without_fault : (n : List ℕ) (p : Path) → names_fault (n ∷ p) ≡ None → name_fault n ≡ None
first_without_fault n p h = (option_or_none (name_fault n) (names_fault p) h).0

pub rest_without_fault : (n : List ℕ) (p : Path) → names_fault (n ∷ p) ≡ None → names_fault p ≡ None
rest_without_fault n p h = (option_or_none (name_fault n) (names_fault p) h).1
