-- The entries of a directory, gone through together with the nodes below it.
--     EntriesBeside p all entries left      these entries are left of all; those passed come before the nodes that are left
use Rattle.std.proofs.Common.{◌≡◌, ℕ, Bool, true, false, cond, List, [], ◌∷◌, ◌++◌, refl, sym, ap, subst, ◌∙◌, append_assoc, true≢false}
use Rattle.std.proofs.Common.{Option, Some, None}
use Rattle.std.specs.Prelude.{bytes_eq}
use Rattle.std.specs.List.{AllByRecursion}
use Rattle.std.specs.Option.{is_some, option_or}
use Rattle.std.specs.declared.cmp.Ordering.{Ordering}
use Rattle.std.specs.declared.cmp.Ordering.TheVariants.{Less, Equal, Greater}
use Rattle.std.specs.Ordering.{is_lt, ordering_then}
use Rattle.std.specs.Map.{keys_of}
use Rattle.std.specs.BTreeMap.{is_at}
use Rattle.std.specs.Cmp.Lexicographic.{nat_list_cmp_total}
use Rattle.std.proofs.lemmas.Map.{lookup-none}
use Rattle.std.proofs.lemmas.Map.Entries.{none_below_head}
use Rattle.std.proofs.lemmas.Map.Keys.{sorted_tail}
use Rattle.svn_lists.proofs.Equality.{bytes_eq-same, same_bytes}
use Rattle.svn_lists.proofs.Every.{all_push}
use Rattle.svn_lists.proofs.Options.{option_or_some}
use Rattle.svn_types.specs.Names.{Path, name_cmp, path_cmp}
use Rattle.svn_types.specs.Paths.{child}
use Rattle.svn_types.specs.Pairs.{InNameOrder, value_of}
use Rattle.svn_types.proofs.NameLemmas.{Name, same_name, name_cmp-same, reversed, value_of-first}
use Rattle.svn_repo.specs.History.{History}
use Rattle.svn_types.proofs.PathsInOrder.{paths_total, not_before_itself}
use Rattle.svn_model.specs.declared.base_node.BaseNode.{BaseNode}
use Rattle.svn_model.specs.Nodes.{get_in, InPathOrder}
use Rattle.svn_nodes.proofs.NodeOrder.{at_first, before_behind}
use Rattle.law_copy.proofs.Lookups.{get_in-append}
use Rattle.svn_wc.specs.Truths.{AreUpTo, PassesTo, entries_at, entry_in}

-- ---- names in their order

-- a name before the first entry has none
none_before : {V : Type 0} (e : Name × V) (es : List (Name × V)) → InNameOrder (e ∷ es) → (x : Name) → name_cmp x e.0 ≡ Less
    → value_of (e ∷ es) x ≡ None
none_before e es order x before = lookup-none (is_at (name_cmp x)) (e ∷ es) (none_below_head nat_list_cmp_total x e es order before)

-- no name comes before itself
pub none_before_itself : (x : Name) → name_cmp x x ≡ Less → ⊥
none_before_itself x less = true≢false (ap is_lt (sym less ∙ name_cmp-same x))

-- children of a path come in the order of their names
children_in_order : (p : Path) (x y : Name) → name_cmp x y ≡ Less → path_cmp (child p x) (child p y) ≡ Less
children_in_order [] x y less = ap (λ o. ordering_then o (path_cmp [] [])) less
children_in_order (n ∷ p) x y less =
    ap (λ o. ordering_then o (path_cmp (child p x) (child p y))) (name_cmp-same n) ∙ children_in_order p x y less

behind_in_order : {V : Type 0} (xs ys : List (Name × V)) → InNameOrder (xs ++ ys) → InNameOrder ys
behind_in_order [] ys order = order
behind_in_order (x ∷ xs) ys order = behind_in_order xs ys (sorted_tail name_cmp x.0 (keys_of (xs ++ ys)) order)

-- what two lists have under a name, one after the other
value_of-append : {V : Type 0} (xs ys : List (Name × V)) (n : Name) → value_of (xs ++ ys) n ≡ option_or (value_of xs n) (value_of ys n)
value_of-append [] ys n = refl
value_of-append {V} (x ∷ xs) ys n =
    value_of-first x (xs ++ ys) n ∙ by (bytes_eq x.0 n) (value_of-append xs ys n)
    ∙ ap (λ o. option_or o (value_of ys n)) (sym (value_of-first x xs n))
  where
    by : (b : Bool) → value_of (xs ++ ys) n ≡ option_or (value_of xs n) (value_of ys n)
        → cond b (Some x.1) (value_of (xs ++ ys) n) ≡ option_or (cond b (Some x.1) (value_of xs n)) (value_of ys n)
    by true e = refl
    by false e = e

-- what holds of each name holds of one that has a value
of_name : {V : Type 0} (P : Name → Type 0) (es : List (Name × V)) (x : Name) → AllByRecursion (λ (e : Name × V). P e.0) es
    → is_some (value_of es x) ≡ true → P x
of_name P [] x all some = absurd (true≢false (sym some))
of_name {V} P (e ∷ es) x all some = by (bytes_eq e.0 x) refl (sym (ap is_some (value_of-first e es x)) ∙ some) (of_name P es x all.1)
  where
    by : (b : Bool) → bytes_eq e.0 x ≡ b → is_some (cond b (Some e.1) (value_of es x)) ≡ true → (is_some (value_of es x) ≡ true → P x) → P x
    by true t s later = subst P (same_bytes e.0 x t) all.0
    by false t s later = later s

-- ---- entries up to a name

abbrev pub AreBefore : Name → List (Name × ℕ) → Type 0
AreBefore name entries = AllByRecursion (λ (e : Name × ℕ). name_cmp e.0 name ≡ Less) entries

-- entries before a name were passed
pub record Passing (name : Name) (old new : List (Name × ℕ)) : Type 0 where
  pub passed : List (Name × ℕ)
  pub parts : old ≡ passed ++ new
  pub before : AreBefore name passed

pub passing_begins : (name : Name) (old : List (Name × ℕ)) → Passing name old old
passing_begins name old = record { passed = []; parts = refl; before = tt }

pub passing_on : (name : Name) (old : List (Name × ℕ)) (e : Name × ℕ) (new : List (Name × ℕ)) → Passing name old (e ∷ new)
    → name_cmp e.0 name ≡ Less → Passing name old new
passing_on name old e new s less = record {
  passed = s.passed ++ e ∷ [];
  parts = s.parts ∙ sym (append_assoc s.passed (e ∷ []) new);
  before = all_push (λ (e : Name × ℕ). name_cmp e.0 name ≡ Less) s.passed e s.before less;
}

before_is_up_to : (name : Name) (es : List (Name × ℕ)) → AreBefore name es → AreUpTo name es
before_is_up_to name [] all = tt
before_is_up_to name (e ∷ es) all = (
  λ after. none_before_itself name (nat_list_cmp_total.trans name e.0 name after all.0),
  before_is_up_to name es all.1,
)

no_value_before : (name : Name) (es : List (Name × ℕ)) → AreBefore name es → (o : Option ℕ) → value_of es name ≡ o → o ≡ None
no_value_before name es all None e = refl
no_value_before name es all (Some v) e =
    absurd (none_before_itself name (of_name (λ x. name_cmp x name ≡ Less) es name all (ap is_some e)))

-- what is found under the name is found among the entries that are left
value_left : (name : Name) (old new : List (Name × ℕ)) (s : Passing name old new) → value_of old name ≡ value_of new name
value_left name old new s =
    ap (λ es. value_of es name) s.parts ∙ value_of-append s.passed new name
    ∙ ap (λ o. option_or o (value_of new name)) (no_value_before name s.passed s.before (value_of s.passed name) refl)

pub passed_none : (name : Name) (old : List (Name × ℕ)) → Passing name old [] → PassesTo name old None []
passed_none name old s = record {
  passed = s.passed;
  parts = s.parts;
  up_to = before_is_up_to name s.passed s.before;
  value = λ order. sym (value_left name old [] s);
}

pub passed_before : (name : Name) (old : List (Name × ℕ)) (e : Name × ℕ) (new : List (Name × ℕ)) → Passing name old (e ∷ new)
    → name_cmp e.0 name ≡ Greater → PassesTo name old None (e ∷ new)
passed_before name old e new s greater = record {
  passed = s.passed;
  parts = s.parts;
  up_to = before_is_up_to name s.passed s.before;
  value = λ order.
      sym (value_left name old (e ∷ new) s
      ∙ none_before e new (behind_in_order s.passed (e ∷ new) (subst InNameOrder s.parts order)) name
      (reversed e.0 name Greater greater));
}

pub passed_at : (name : Name) (old : List (Name × ℕ)) (e : Name × ℕ) (new : List (Name × ℕ)) → Passing name old (e ∷ new)
    → name_cmp e.0 name ≡ Equal → PassesTo name old (Some e.1) new
passed_at name old e new s equal =
    let same : e.0 ≡ name = same_name e.0 name equal in record {
      passed = s.passed ++ e ∷ [];
      parts = s.parts ∙ sym (append_assoc s.passed (e ∷ []) new);
      up_to =
          all_push (λ (e : Name × ℕ). name_cmp name e.0 ≡ Less → ⊥) s.passed e (before_is_up_to name s.passed s.before)
          (λ less. none_before_itself name (ap (name_cmp name) (sym same) ∙ less));
      value = λ order.
          sym (value_left name old (e ∷ new) s ∙ value_of-first e new name
          ∙ ap (λ b. cond b (Some e.1) (value_of new name)) (ap (bytes_eq e.0) (sym same) ∙ bytes_eq-same e.0));
    }

-- ---- together with the nodes below a path

pub record EntriesBeside (p : Path) (all entries : List (Name × ℕ)) (left : List (Path × BaseNode)) : Type 0 where
  pub passed : List (Name × ℕ)
  pub parts : all ≡ passed ++ entries
  pub behind : (x : Name) → is_some (value_of passed x) ≡ true → (q : Path) → is_some (get_in left q) ≡ true
      → path_cmp (child p x) q ≡ Less

pub beside_begins : (p : Path) (all : List (Name × ℕ)) (left : List (Path × BaseNode)) → EntriesBeside p all all left
beside_begins p all left = record { passed = []; parts = refl; behind = λ x some. absurd (true≢false (sym some)) }

-- the entry of a directory's next child
pub entry_beside : (p : Path) (all entries entries2 : List (Name × ℕ)) (c : Path × BaseNode) (left : List (Path × BaseNode)) (name : Name)
    (found : Option ℕ)
    → EntriesBeside p all entries (c ∷ left) → c.0 ≡ child p name → PassesTo name entries found entries2 → InNameOrder all
    → found ≡ value_of all name
entry_beside p all entries entries2 c left name found s is passes order =
    passes.value (behind_in_order s.passed entries (subst InNameOrder s.parts order))
    ∙ sym (ap (λ es. value_of es name) s.parts ∙ value_of-append s.passed entries name
    ∙ ap (λ o. option_or o (value_of entries name)) (none_passed (value_of s.passed name) refl))
  where
    none_passed : (o : Option ℕ) → value_of s.passed name ≡ o → o ≡ None
    none_passed None e = refl
    none_passed (Some v) e =
        absurd (not_before_itself c.0 (ap (λ (q : Path). path_cmp q c.0) is
        ∙ s.behind name (ap is_some e) c.0 (ap is_some (at_first c left))))

-- what is left of the nodes is after those that were taken
still_left : (c : Path × BaseNode) (sub left2 : List (Path × BaseNode)) (q : Path) → is_some (get_in left2 q) ≡ true
    → is_some (get_in (c ∷ sub ++ left2) q) ≡ true
still_left c sub left2 q some =
    ap is_some (get_in-append (c ∷ sub) left2 q) ∙ option_or_some (get_in (c ∷ sub) q) (get_in left2 q) some

module _ (p : Path) (all entries : List (Name × ℕ)) (c : Path × BaseNode) (left sub left2 : List (Path × BaseNode))
    (s : EntriesBeside p all entries (c ∷ left)) (rest : left ≡ sub ++ left2) where
  later : (x : Name) → is_some (value_of s.passed x) ≡ true → (q : Path) → is_some (get_in left2 q) ≡ true → path_cmp (child p x) q ≡ Less
  later x some q there =
      s.behind x some q (ap (λ l. is_some (get_in (c ∷ l) q)) rest ∙ still_left c sub left2 q there)

  -- a node that is no child was taken
  pub beside_other : EntriesBeside p all entries left2
  beside_other = record { passed = s.passed; parts = s.parts; behind = later }

  -- a child was taken
  pub beside_on : InPathOrder (c ∷ left) → (entries2 : List (Name × ℕ)) (name : Name) (found : Option ℕ) → c.0 ≡ child p name
      → PassesTo name entries found entries2 → EntriesBeside p all entries2 left2
  beside_on order entries2 name found is passes = record {
    passed = s.passed ++ passes.passed;
    parts = s.parts ∙ ap (λ l. s.passed ++ l) passes.parts ∙ sym (append_assoc s.passed passes.passed entries2);
    behind = λ x some q there. by x q there (value_of s.passed x) refl (sym (ap is_some (value_of-append s.passed passes.passed x)) ∙ some);
  }
    where
      after_child : (q : Path) → is_some (get_in left2 q) ≡ true → path_cmp (child p name) q ≡ Less
      after_child q there =
          ap (λ (z : Path). path_cmp z q) (sym is)
          ∙ before_behind (c ∷ sub) left2 (subst (λ l. InPathOrder (c ∷ l)) rest order) c.0 q (ap is_some (at_first c sub)) there

      not_after : (x : Name) → (name_cmp name x ≡ Less → ⊥) → (q : Path) → is_some (get_in left2 q) ≡ true → path_cmp (child p x) q ≡ Less
      not_after x none q there = at (name_cmp x name) refl
        where
          at : (o : Ordering) → name_cmp x name ≡ o → path_cmp (child p x) q ≡ Less
          at Less e = paths_total.trans (child p x) (child p name) q (children_in_order p x name e) (after_child q there)
          at Equal e = ap (λ (n : Name). path_cmp (child p n) q) (same_name x name e) ∙ after_child q there
          at Greater e = absurd (none (reversed x name Greater e))

      by : (x : Name) (q : Path) → is_some (get_in left2 q) ≡ true → (o : Option ℕ) → value_of s.passed x ≡ o
          → is_some (option_or o (value_of passes.passed x)) ≡ true → path_cmp (child p x) q ≡ Less
      by x q there (Some v) e some = later x (ap is_some e) q there
      by x q there None e some =
          not_after x (of_name (λ y. name_cmp name y ≡ Less → ⊥) passes.passed x passes.up_to some) q there

-- a name has an entry in all of them
pub entry_in_all : (h : History) (o : Option ℕ) (name : Name) → entry_in h o name ≡ value_of (entries_at h o) name
entry_in_all h None name = refl
entry_in_all h (Some n) name = refl
