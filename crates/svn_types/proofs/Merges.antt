-- The first name of two lists of properties is taken: the changes between the lists are its own, and those between what is left.
--     left_sorted      what is left is in order
--     first_change      the changes begin with that of the name, if it has one
use Rattle.std.proofs.Common.{◌≡◌, ℕ, Bool, true, false, ◌||◌, List, [], ◌∷◌, refl, sym, ◌∙◌, ap, subst, true≢false}
use denote.Ref.{Bor}
use Rattle.std.specs.Prelude.{Option, Some, None, is_some, cond, fold, filter_map, bytes_eq}
use Rattle.std.specs.List.{AllByRecursion, cons_option}
use Rattle.std.specs.Option.{option_copied, option_eq}
use Rattle.std.specs.Map.{keys_of}
use Rattle.std.specs.BTreeSet.{insert_key}
use Rattle.std.specs.declared.cmp.Ordering.{Ordering}
use Rattle.std.specs.declared.cmp.Ordering.TheVariants.{Less, Equal, Greater}
use Rattle.std.specs.Ordering.{is_lt, match_ordering}
use Rattle.std.specs.List.Sorted.{IsStrictlySortedBy}
use Rattle.std.specs.Cmp.Lexicographic.{nat_list_cmp_total}
use Rattle.std.proofs.lemmas.Map.Keys.{sorted_head}
use Rattle.svn_lists.proofs.Equality.{bytes_eq-same, bytes_eq-symm}
use Rattle.svn_types.specs.Names.{name_cmp}
use Rattle.svn_types.specs.Pairs.{InNameOrder, value_of}
use Rattle.svn_types.specs.Props.{is_same_value, names_of_both, change_between, changes_between}
use Rattle.svn_types.specs.Merging.{InEither, IsBehind, TakesAt, TakesFirst}
use Rattle.svn_types.specs.declared.props_left.PropsLeft.{PropsLeft}
use Rattle.svn_types.proofs.NameLemmas.{Name, name_cmp-same, reversed, lt_apart, value_of-first}

abbrev Pairs : Type 0
Pairs = List (Name × List ℕ)

-- all names are after the one
abbrev AllBehind : Name → List Name → Type 0
AllBehind n ks = AllByRecursion (λ k. name_cmp n k ≡ Less) ks

-- ---- names put into a list whose first name they are after

put_behind : (n : Name) (ks : List Name) (k : Name) → name_cmp n k ≡ Less → insert_key name_cmp (n ∷ ks) k ≡ n ∷ insert_key name_cmp ks k
put_behind n ks k h =
    ap (λ o. match_ordering o (k ∷ n ∷ ks) (n ∷ ks) (n ∷ insert_key name_cmp ks k)) (reversed n k Less h)

all_put_behind : (n : Name) (ks xs : List Name) → AllBehind n xs
    → fold (insert_key name_cmp) (n ∷ ks) xs ≡ n ∷ fold (insert_key name_cmp) ks xs
all_put_behind n ks [] h = refl
all_put_behind n ks (x ∷ xs) h =
    ap (λ l. fold (insert_key name_cmp) l xs) (put_behind n ks x h.0) ∙ all_put_behind n (insert_key name_cmp ks x) xs h.1

put_same : (n : Name) (ks : List Name) → insert_key name_cmp (n ∷ ks) n ≡ n ∷ ks
put_same n ks = ap (λ o. match_ordering o (n ∷ n ∷ ks) (n ∷ ks) (n ∷ insert_key name_cmp ks n)) (name_cmp-same n)

put_first : (n : Name) (ks : List Name) → AllBehind n ks → insert_key name_cmp ks n ≡ n ∷ ks
put_first n [] h = refl
put_first n (k ∷ ks) h = ap (λ o. match_ordering o (n ∷ k ∷ ks) (k ∷ ks) (k ∷ insert_key name_cmp ks n)) h.0

put_all_behind : (n : Name) (ks : List Name) (k : Name) → AllBehind n ks → name_cmp n k ≡ Less → AllBehind n (insert_key name_cmp ks k)
put_all_behind n [] k h l = (l, tt)
put_all_behind n (x ∷ ks) k h l = by (name_cmp k x) (put_all_behind n ks k h.1 l)
  where
    by : (o : Ordering) → AllBehind n (insert_key name_cmp ks k)
        → AllBehind n (match_ordering o (k ∷ x ∷ ks) (x ∷ ks) (x ∷ insert_key name_cmp ks k))
    by Less ih = (l, h)
    by Equal ih = h
    by Greater ih = (h.0, ih)

fold_behind : (n : Name) (ks xs : List Name) → AllBehind n ks → AllBehind n xs → AllBehind n (fold (insert_key name_cmp) ks xs)
fold_behind n ks [] h l = h
fold_behind n ks (x ∷ xs) h l = fold_behind n (insert_key name_cmp ks x) xs (put_all_behind n ks x h l.0) l.1

-- ---- one list: the name is taken if it is the first

each_behind : (n k : Name) (ks : List Name) → name_cmp n k ≡ Less → AllBehind k ks → AllBehind n ks
each_behind n k [] l h = tt
each_behind n k (x ∷ ks) l h = (nat_list_cmp_total.trans n k x l h.0, each_behind n k ks l h.1)

behind : (n : Name) (es : Pairs) → InNameOrder es → IsBehind n es → AllBehind n (keys_of es)
behind n [] s h = tt
behind n (e ∷ es) s h = (h, each_behind n e.0 (keys_of es) h (sorted_head name_cmp e.0 (keys_of es) s))

rest_sorted : (e : Name × List ℕ) (es : Pairs) → InNameOrder (e ∷ es) → InNameOrder es
unfolding IsStrictlySortedBy
rest_sorted e es s = s.1

record Taken (n : Name) (es : Pairs) (o : Option (List ℕ)) (rest : Pairs) : Type 0 where
  pub sorted : InNameOrder rest
  pub behind : AllBehind n (keys_of rest)
  pub value : value_of es n ≡ o
  pub kept : (m : Name) → name_cmp n m ≡ Less → value_of es m ≡ value_of rest m

not_there : (n : Name) (es : Pairs) → AllBehind n (keys_of es) → value_of es n ≡ None
not_there n [] h = refl
not_there n (e ∷ es) h =
    value_of-first e es n
    ∙ ap (λ b. cond b (Some e.1) (value_of es n)) (lt_apart' n e.0 h.0)
    ∙ not_there n es h.1
  where
    lt_apart' : (n k : Name) → name_cmp n k ≡ Less → bytes_eq k n ≡ false
    lt_apart' n k l = bytes_eq-symm k n ∙ lt_apart n k (ap is_lt l)

taken : (n : Name) (es : Pairs) (o : Option (List ℕ)) (rest : Pairs) → InNameOrder es → TakesAt n es o rest → Taken n es o rest
taken n es (Some v) rest s t =
    let sorted : InNameOrder ((n, v) ∷ rest) = subst InNameOrder t s in
    record {
      sorted = rest_sorted (n, v) rest sorted;
      behind = sorted_head name_cmp n (keys_of rest) sorted;
      value =
          ap (λ (l : Pairs). value_of l n) t ∙ value_of-first (n, v) rest n
          ∙ ap (λ b. cond b (Some v) (value_of rest n)) (bytes_eq-same n);
      kept = λ m l. ap (λ (l : Pairs). value_of l m) t ∙ value_of-first (n, v) rest m
          ∙ ap (λ b. cond b (Some v) (value_of rest m)) (lt_apart n m (ap is_lt l));
    }
taken n es None rest s t =
    let all : AllBehind n (keys_of es) = behind n es s t.1 in
    record {
      sorted = subst InNameOrder (sym t.0) s;
      behind = subst (λ (l : Pairs). AllBehind n (keys_of l)) (sym t.0) all;
      value = not_there n es all;
      kept = λ m l. ap (λ (l : Pairs). value_of l m) (sym t.0);
    }

-- ---- both lists

module _ (n : Name) (old new old' new' : Pairs) where
  first_name : (a b : Option (List ℕ)) → Taken n old a old' → Taken n new b new' → TakesAt n old a old' → TakesAt n new b new'
      → (is_some a || is_some b) ≡ true → names_of_both old new ≡ n ∷ names_of_both old' new'
  first_name (Some v) (Some w) h k s t one =
      (λ i. fold (insert_key name_cmp) (keys_of (s i)) (keys_of (t i)))
      ∙ ap (λ l. fold (insert_key name_cmp) l (keys_of new')) (put_same n (keys_of old'))
      ∙ all_put_behind n (keys_of old') (keys_of new') k.behind
  first_name (Some v) None h k s t one =
      (λ i. fold (insert_key name_cmp) (keys_of (s i)) (keys_of (sym t.0 i)))
      ∙ all_put_behind n (keys_of old') (keys_of new') k.behind
  first_name None (Some w) h k s t one =
      (λ i. fold (insert_key name_cmp) (keys_of (sym s.0 i)) (keys_of (t i)))
      ∙ ap (λ l. fold (insert_key name_cmp) l (keys_of new')) (put_first n (keys_of old') h.behind)
      ∙ all_put_behind n (keys_of old') (keys_of new') k.behind
  first_name None None h k s t one = absurd (true≢false (sym one))

  kept_changes : (ns : List Name) → AllBehind n ns → ((m : Name) → name_cmp n m ≡ Less → value_of old m ≡ value_of old' m)
      → ((m : Name) → name_cmp n m ≡ Less → value_of new m ≡ value_of new' m)
      → filter_map (change_between old new) ns ≡ filter_map (change_between old' new') ns
  kept_changes [] h f g = refl
  kept_changes (m ∷ ns) h f g =
      λ i. cons_option
      (cond (is_same_value (f m h.0 i) (g m h.0 i)) None (Some (m, g m h.0 i)))
      (kept_changes ns h.1 f g i)

  both_changes : (a b : Option (List ℕ)) → InNameOrder old → InNameOrder new → TakesAt n old a old' → TakesAt n new b new'
      → (is_some a || is_some b) ≡ true
      → changes_between old new ≡ cons_option (cond (is_same_value a b) None (Some (n, b))) (changes_between old' new')
  both_changes a b so sn s t one =
      let h = taken n old a old' so s in
      let k = taken n new b new' sn t in
      ap (filter_map (change_between old new)) (first_name a b h k s t one)
      ∙ (λ i. cons_option
      (cond (is_same_value (h.value i) (k.value i)) None (Some (n, k.value i)))
      (kept_changes (names_of_both old' new') (fold_behind n (keys_of old') (keys_of new') h.behind k.behind) h.kept k.kept i))

module _ (first : InEither) (l l' : PropsLeft) (before : InNameOrder l.before) (after : InNameOrder l.after) (t : TakesFirst first l l') where
  pub left_sorted : InNameOrder l'.before × InNameOrder l'.after
  left_sorted = (
    (taken first.0.now l.before (option_copied first.1) l'.before before t.old).sorted,
    (taken first.0.now l.after (option_copied first.2) l'.after after t.new).sorted,
  )

  pub first_change : (same : Bool) → is_same_value (option_copied first.1) (option_copied first.2) ≡ same
      → changes_between l.before l.after
      ≡ cons_option (cond same None (Some (first.0.now, option_copied first.2))) (changes_between l'.before l'.after)
  first_change same e =
      both_changes first.0.now l.before l.after l'.before l'.after (option_copied first.1) (option_copied first.2) before after t.old t.new t.one
      ∙ ap (λ b. cons_option (cond b None (Some (first.0.now, option_copied first.2))) (changes_between l'.before l'.after)) e

-- the test of two borrowed values
pub same_values : (a b : Option (Bor (List ℕ)))
    → option_eq (λ (x y : Bor (List ℕ)). bytes_eq x.now y.now) a b ≡ is_same_value (option_copied a) (option_copied b)
same_values None None = refl
same_values None (Some y) = refl
same_values (Some x) None = refl
same_values (Some x) (Some y) = refl
