-- A copy is compared with the repository, the nodes below a path one after the other.
use Rattle.std.proofs.Common.{◌≡◌, ℕ, ◌+◌, ◌-◌, ◌<◌, Bool, true, false, not, cond, List, [], ◌∷◌, ◌++◌, length, refl, sym, ap, subst, ◌∙◌}
use Rattle.std.proofs.Common.{Option, Some, None, true≢false, arith, append_assoc, length-append}
use Rattle.std.specs.Prelude.{◌&&◌, ◌||◌, bytes_eq, nat_lt, is_none, IfSome, MatchOption}
use Rattle.std.specs.List.{list_any, AllByRecursion}
use Rattle.std.specs.List.Sorted.{IsStrictlySortedBy}
use Rattle.std.specs.Option.{is_some, option_or, option_map, option_copied}
use Rattle.std.specs.Borrow.{Bor}
use Rattle.std.specs.Cmp.Lexicographic.{pointwise_decides}
use Rattle.std.specs.BTreeMap.{is_at}
use Rattle.std.specs.Map.{keys_of}
use Rattle.std.specs.declared.cmp.Ordering.TheVariants.{Less}
use Rattle.std.proofs.lemmas.Bool.{and_from, and_parts, lt-ltb}
use Rattle.std.proofs.lemmas.List.{append-nil}
use Rattle.std.proofs.lemmas.Map.Keys.{sorted_head, sorted_tail}
use Rattle.svn_lists.proofs.Equality.{bytes_eq-same, same_bytes}
use Rattle.svn_lists.proofs.Options.{option_or_some}
use Rattle.svn_lists.proofs.Somewhere.{list_all_append}
use Rattle.svn_lists.proofs.Tests.{same_tests}
use Rattle.svn_types.specs.Names.{Path, name_cmp, path_cmp}
use Rattle.svn_types.specs.Paths.{is_within, is_below, path_eq, child}
use Rattle.svn_types.proofs.NameLemmas.{at_name}
use Rattle.svn_types.proofs.PathsInOrder.{not_before_itself, not_both, below_after, within_between}
use Rattle.svn_types.specs.Pairs.{value_of}
use Rattle.svn_repo.specs.History.{History, NodeRow, node_at, look}
use Rattle.svn_repo.specs.Readings.{IsHistory, row_or_empty, props_of, entries_of}
use Rattle.svn_model.specs.declared.base_node.BaseNode.{BaseNode}
use Rattle.svn_model.specs.declared.base_node.BaseNode.TheVariants.{File as FileNode, Dir as DirNode, NotPresent}
use Rattle.svn_model.specs.Nodes.{WorkingCopy, get_in, InPathOrder}
use Rattle.svn_model.specs.Tree.{names_at}
use Rattle.svn_model.specs.Truth.{Properties, props_eq, is_untrue, lacks_entry, first_untrue_in, first_untrue}
use Rattle.svn_model.proofs.Children.{entry_below, look-child}
use Rattle.svn_wc.specs.Aboves.{KnowsOwnPath}
use Rattle.svn_wc.specs.Truths.{looked, entries_at, entry_in, HasNoEntries, CountsMissing, IsStep, IsNameBelow, PassesTo, IsRest}
use Rattle.svn_wc.specs.Truths.{all_below, IsPast, HasWalked}
use Rattle.svn_wc.proofs.Placing.{entry_is_below}
use Rattle.svn_wc.proofs.Merging.{EntriesBeside, entry_beside, beside_other, beside_on, entry_in_all, none_before_itself}
use Rattle.law_copy.proofs.Lookups.{at_path, get_in-append}
use Rattle.law_copy.proofs.TruthTests.{prop_decides}
use Rattle.svn_nodes.proofs.NodeOrder.{at_first, first_or_after, before_behind, order_behind}
use Rattle.svn_types.proofs.PathLemmas.{below_from, below_parts, split_within, within_append}
use Rattle.svn_types.proofs.PathLemmas.{path_eq-longer, same_path, path_eq-symm, path_eq-same}

-- the second path is one of these names below the first
abbrev pub has_child : Path → Path → List (List ℕ) → Bool
has_child p q names = list_any (λ name. path_eq (child p name) q) names

-- ---- how many names pass a test

abbrev pub one_if : Bool → ℕ
one_if b = cond b 1 0

abbrev pub lacking : (List ℕ → Bool) → List (List ℕ) → ℕ
lacking f [] = 0
lacking f (x ∷ xs) = one_if (f x) + lacking f xs

pub lacking-all : (xs : List (List ℕ)) → lacking (λ x. true) xs ≡ length xs
lacking-all [] = refl
lacking-all (x ∷ xs) = let h = lacking-all xs in omega arith

pub any_lacking : (f : List ℕ → Bool) (xs : List (List ℕ)) → nat_lt 0 (lacking f xs) ≡ list_any f xs
any_lacking f [] = refl
any_lacking f (x ∷ xs) = by (f x) (any_lacking f xs)
  where
    by : (b : Bool) → nat_lt 0 (lacking f xs) ≡ list_any f xs → nat_lt 0 (one_if b + lacking f xs) ≡ (b || list_any f xs)
    by true h = lt-ltb 0 (1 + lacking f xs) (omega arith)
    by false h = let e : 0 + lacking f xs ≡ lacking f xs = omega arith in ap (nat_lt 0) e ∙ h

none_of_any : (g : List ℕ → Bool) (x : List ℕ) (xs : List (List ℕ)) → AllByRecursion (λ y. name_cmp x y ≡ Less) xs
    → ((y : List ℕ) → g y ≡ true → name_cmp x y ≡ Less → ⊥) → list_any g xs ≡ false
none_of_any g x [] all one = refl
none_of_any g x (y ∷ ys) all one = by (g y) refl (none_of_any g x ys all.1 one)
  where
    by : (b : Bool) → g y ≡ b → list_any g ys ≡ false → (b || list_any g ys) ≡ false
    by true t h = absurd (one y t all.0)
    by false t h = h

-- one name less passes, where the other test is passed by one at most
fewer : (f g : List ℕ → Bool) (xs : List (List ℕ)) → IsStrictlySortedBy name_cmp xs → ((x : List ℕ) → g x ≡ true → f x ≡ true)
    → ((x y : List ℕ) → g x ≡ true → g y ≡ true → name_cmp x y ≡ Less → ⊥)
    → lacking (λ x. f x && not (g x)) xs + one_if (list_any g xs) ≡ lacking f xs
fewer f g [] order among one = refl
fewer f g (x ∷ xs) order among one = by (g x) refl (fewer f g xs (sorted_tail name_cmp x xs order) among one)
  where
    by : (b : Bool) → g x ≡ b → lacking (λ x. f x && not (g x)) xs + one_if (list_any g xs) ≡ lacking f xs
        → one_if (f x && not b) + lacking (λ x. f x && not (g x)) xs + one_if (b || list_any g xs) ≡ one_if (f x) + lacking f xs
    by true t h =
        let others : list_any g xs ≡ false = none_of_any g x xs (sorted_head name_cmp x xs order) (λ y u less. one x y t u less) in
        let e : one_if (list_any g xs) ≡ 0 = ap one_if others in
        let k : one_if (f x) ≡ 1 = ap one_if (among x t) in
        let z : one_if (f x && not true) ≡ 0 = ap (λ b. one_if (b && not true)) (among x t) in
        let m : one_if (true || list_any g xs) ≡ 1 = refl in
        omega (arith, e, k, z, m, h)
    by false t h =
        let k : one_if (f x && not false) ≡ one_if (f x) = ap one_if (and_true (f x)) in
        let m : one_if (false || list_any g xs) ≡ one_if (list_any g xs) = refl in
        omega (arith, k, m, h)
      where
        and_true : (b : Bool) → (b && true) ≡ b
        and_true true = refl
        and_true false = refl

pub fewer_by_one : (f g : List ℕ → Bool) (xs : List (List ℕ)) → IsStrictlySortedBy name_cmp xs → ((x : List ℕ) → g x ≡ true → f x ≡ true)
    → ((x y : List ℕ) → g x ≡ true → g y ≡ true → name_cmp x y ≡ Less → ⊥)
    → lacking f xs - cond (list_any g xs) 1 0 ≡ lacking (λ x. f x && not (g x)) xs
fewer_by_one f g xs order among one = let h = fewer f g xs order among one in omega arith

-- ---- the nodes below a path

pub first_untrue_in-append : (h : History) (w : WorkingCopy) (xs ys : List (Path × BaseNode))
    → first_untrue_in h w (xs ++ ys) ≡ option_or (first_untrue_in h w xs) (first_untrue_in h w ys)
first_untrue_in-append h w [] ys = refl
first_untrue_in-append h w (x ∷ xs) ys = by (is_untrue h w x.0 x.1) (first_untrue_in-append h w xs ys)
  where
    by : (b : Bool) → first_untrue_in h w (xs ++ ys) ≡ option_or (first_untrue_in h w xs) (first_untrue_in h w ys)
        → cond b (Some x.0) (first_untrue_in h w (xs ++ ys))
        ≡ option_or (cond b (Some x.0) (first_untrue_in h w xs)) (first_untrue_in h w ys)
    by true e = refl
    by false e = e

pub below_extended : (p : Path) (x : List ℕ) (r : Path) → is_below p (p ++ x ∷ r) ≡ true
below_extended p x r = below_from p (p ++ x ∷ r) (within_append p (x ∷ r)) (path_eq-longer p x r)

-- it goes on from the path by a name at least
pub goes_below : (p q : Path) → is_below p q ≡ true → (x : List ℕ) × (r : Path) × (q ≡ p ++ x ∷ r)
goes_below p q h =
    let parts = below_parts p q h in
    let on = split_within p q parts.0 in
    by on.0 on.1 parts.1
  where
    by : (r : Path) → q ≡ p ++ r → path_eq p q ≡ false → (x : List ℕ) × (s : Path) × (q ≡ p ++ x ∷ s)
    by [] e other = absurd (true≢false (sym (ap (path_eq p) (e ∙ append-nil p) ∙ path_eq-same p) ∙ other))
    by (x ∷ s) e other = (x, s, e)

below_below : (p c q : Path) → is_below p c ≡ true → is_below c q ≡ true → is_below p q ≡ true
below_below p c q h g =
    let a = goes_below p c h in
    let b = goes_below c q g in
    subst (λ (z : Path). is_below p z ≡ true) (sym (b.2 ∙ ap (λ (z : Path). z ++ b.0 ∷ b.1) a.2 ∙ append_assoc p (a.0 ∷ a.1) (b.0 ∷ b.1)))
    (below_extended p a.0 (a.1 ++ b.0 ∷ b.1))

all_below_below : (p c : Path) (es : List (Path × BaseNode)) → is_below p c ≡ true → all_below c es ≡ true → all_below p es ≡ true
all_below_below p c [] h g = refl
all_below_below p c (e ∷ es) h g =
    let parts = and_parts (is_below c e.0) (all_below c es) g in
    and_from (is_below p e.0) (all_below p es) (below_below p c e.0 h parts.0) (all_below_below p c es h parts.1)

-- what is found among nodes that are all below a path is below it
pub found_below : (p : Path) (es : List (Path × BaseNode)) (q : Path) → all_below p es ≡ true → is_some (get_in es q) ≡ true
    → is_below p q ≡ true
found_below p [] q all some = absurd (true≢false (sym some))
found_below p (e ∷ es) q all some = by (is_at (path_cmp q) e.0) refl some (found_below p es q parts.1)
  where
    parts : (is_below p e.0 ≡ true) × (all_below p es ≡ true)
    parts = and_parts (is_below p e.0) (all_below p es) all

    by : (b : Bool) → is_at (path_cmp q) e.0 ≡ b → is_some (cond b (Some e.1) (get_in es q)) ≡ true
        → (is_some (get_in es q) ≡ true → is_below p q ≡ true) → is_below p q ≡ true
    by true t s later = subst (λ (z : Path). is_below p z ≡ true) (sym (same_path q e.0 (sym (at_path q e.0) ∙ t))) parts.0
    by false t s later = later s

-- a path one name longer isn't below another path below
child_not_below : (p : Path) (x y : List ℕ) (r : Path) → is_below (p ++ y ∷ r) (child p x) ≡ true → ⊥
child_not_below [] x y r h =
    let parts = below_parts (y ∷ r) (x ∷ []) h in
    let names = and_parts (bytes_eq y x) (is_within r []) parts.0 in
    by r names.1 (sym (ap (λ b. b && path_eq r []) names.0) ∙ parts.1)
  where
    by : (s : Path) → is_within s [] ≡ true → path_eq s [] ≡ false → ⊥
    by [] w e = true≢false e
    by (m ∷ s) w e = true≢false (sym w)
child_not_below (n ∷ p) x y r h =
    child_not_below p x y r
    (sym (ap (λ b. (b && is_within (p ++ y ∷ r) (child p x)) && not (b && path_eq (p ++ y ∷ r) (child p x))) (bytes_eq-same n)) ∙ h)

same_last : (p : Path) (x y : List ℕ) → child p x ≡ child p y → x ≡ y
same_last [] x y e = head_of e
  where
    first : Path → List ℕ
    first [] = []
    first (n ∷ q) = n

    head_of : x ∷ [] ≡ y ∷ [] → x ≡ y
    head_of e = ap first e
same_last (n ∷ p) x y e = same_last p x y (ap rest e)
  where
    rest : Path → Path
    rest [] = []
    rest (m ∷ q) = q

-- ---- the walk

-- the nodes below a path that were taken so far: the first untrue of them, and how many names of the path's directory have no node
-- among them
pub record SoFar (h : History) (nodes : List (Path × BaseNode)) (p : Path) (old : List (Path × BaseNode)) (names : List (List ℕ))
    (left : List (Path × BaseNode)) (found : Option Path) (missing : ℕ) : Type 0 where
  pub taken : List (Path × BaseNode)
  pub parts : old ≡ taken ++ left
  pub below : all_below p taken ≡ true
  pub first : found ≡ first_untrue_in h (get_in nodes) taken
  pub count : missing ≡ lacking (λ name. is_none (get_in taken (child p name))) names

pub walk_begins : (h : History) (nodes : List (Path × BaseNode)) (p : Path) (old : List (Path × BaseNode)) (names : List (List ℕ))
    (missing : ℕ)
    → missing ≡ length names → SoFar h nodes p old names old None missing
walk_begins h nodes p old names missing all =
    record { taken = []; parts = refl; below = refl; first = refl; count = all ∙ sym (lacking-all names) }

pub missing_counted : (w : WorkingCopy) (p : Path) (node : BaseNode) (names : List (List ℕ)) (missing : ℕ)
    → nat_lt 0 missing ≡ lacks_entry w p names → CountsMissing w p node names missing
missing_counted w p (FileNode r q text props) names missing counted = tt
missing_counted w p (DirNode r q complete props) names missing counted = counted
missing_counted w p NotPresent names missing counted = tt

module _ (h : History) (nodes : List (Path × BaseNode)) (order : InPathOrder nodes) (before : List (Path × BaseNode)) (e : Path × BaseNode)
    (old : List (Path × BaseNode))
    (whole : nodes ≡ before ++ e ∷ old) (names : List (List ℕ)) where
  module _ (c : Path × BaseNode) (left : List (Path × BaseNode)) (found : Option Path) (missing : ℕ)
      (s : SoFar h nodes e.0 old names (c ∷ left) found missing) where
    -- what came before the next one
    abbrev pub front : List (Path × BaseNode)
    front = before ++ e ∷ s.taken

    pub front_is : nodes ≡ front ++ c ∷ left
    front_is = whole ∙ ap (λ l. before ++ e ∷ l) s.parts ∙ sym (append_assoc before (e ∷ s.taken) (c ∷ left))

    cut : InPathOrder (front ++ c ∷ left)
    cut = subst InPathOrder front_is order

    pub next_order : InPathOrder (c ∷ left)
    next_order = order_behind front (c ∷ left) cut

    earlier : (p : Path) → is_some (get_in front p) ≡ true → path_cmp p c.0 ≡ Less
    earlier p some = before_behind front (c ∷ left) cut p c.0 some (ap is_some (at_first c left))

    own_earlier : path_cmp e.0 c.0 ≡ Less
    own_earlier =
        earlier e.0 (ap is_some (get_in-append before (e ∷ s.taken) e.0)
        ∙ option_or_some (get_in before e.0) (get_in (e ∷ s.taken) e.0) (ap is_some (at_first e s.taken)))

    taken_earlier : (p : Path) → is_some (get_in s.taken p) ≡ true → path_cmp p c.0 ≡ Less
    taken_earlier p some =
        earlier p (ap is_some (get_in-append before (e ∷ s.taken) p)
        ∙ option_or_some (get_in before p) (get_in (e ∷ s.taken) p) (later (is_at (path_cmp p) e.0)))
      where
        later : (b : Bool) → is_some (cond b (Some e.1) (get_in s.taken p)) ≡ true
        later true = refl
        later false = some

    module _ (within : is_within e.0 c.0 ≡ true) where
      next_below : is_below e.0 c.0 ≡ true
      next_below = and_from (is_within e.0 c.0) (not (path_eq e.0 c.0)) within (ap not (by (path_eq e.0 c.0) refl))
        where
          by : (b : Bool) → path_eq e.0 c.0 ≡ b → b ≡ false
          by true t = absurd (not_before_itself e.0 (ap (path_cmp e.0) (same_path e.0 c.0 t) ∙ own_earlier))
          by false t = refl

      module _ (sub : List (Path × BaseNode)) (deeper : all_below c.0 sub ≡ true) where
        child_after : (x : List ℕ)
            → is_none (get_in (s.taken ++ c ∷ sub) (child e.0 x))
            ≡ (is_none (get_in s.taken (child e.0 x)) && not (path_eq (child e.0 x) c.0))
        child_after x =
            ap is_none (get_in-append s.taken (c ∷ sub) (child e.0 x))
            ∙ ap (λ b. is_none (option_or (get_in s.taken (child e.0 x)) (cond b (Some c.1) (get_in sub (child e.0 x)))))
            (at_path (child e.0 x) c.0)
            ∙ ap (λ o. is_none (option_or (get_in s.taken (child e.0 x)) (cond (path_eq (child e.0 x) c.0) (Some c.1) o)))
            (none_deeper (get_in sub (child e.0 x)) refl)
            ∙ by (get_in s.taken (child e.0 x)) (path_eq (child e.0 x) c.0)
          where
            none_deeper : (o : Option BaseNode) → get_in sub (child e.0 x) ≡ o → o ≡ None
            none_deeper None g = refl
            none_deeper (Some n) g =
                let on = goes_below e.0 c.0 next_below in
                absurd (child_not_below e.0 x on.0 on.1
                (subst (λ (z : Path). is_below z (child e.0 x) ≡ true) on.2 (found_below c.0 sub (child e.0 x) deeper (ap is_some g))))

            by : (o : Option BaseNode) (b : Bool) → is_none (option_or o (cond b (Some c.1) None)) ≡ (is_none o && not b)
            by None true = refl
            by None false = refl
            by (Some n) true = refl
            by (Some n) false = refl

        among : (x : List ℕ) → path_eq (child e.0 x) c.0 ≡ true → is_none (get_in s.taken (child e.0 x)) ≡ true
        among x same = by (get_in s.taken (child e.0 x)) refl
          where
            by : (o : Option BaseNode) → get_in s.taken (child e.0 x) ≡ o → is_none o ≡ true
            by None g = refl
            by (Some n) g =
                absurd (not_before_itself (child e.0 x)
                (ap (path_cmp (child e.0 x)) (same_path (child e.0 x) c.0 same) ∙ taken_earlier (child e.0 x) (ap is_some g)))

        one : (x y : List ℕ) → path_eq (child e.0 x) c.0 ≡ true → path_eq (child e.0 y) c.0 ≡ true → name_cmp x y ≡ Less → ⊥
        one x y t u less =
            let same : x ≡ y = same_last e.0 x y (same_path (child e.0 x) c.0 t ∙ sym (same_path (child e.0 y) c.0 u)) in
            none_before_itself x (ap (name_cmp x) same ∙ less)

        pub walk_on : IsStrictlySortedBy name_cmp names → (left2 : List (Path × BaseNode)) → left ≡ sub ++ left2 → (found2 : Option Path)
            → found2 ≡ first_untrue_in h (get_in nodes) (c ∷ sub)
            → SoFar h nodes e.0 old names left2 (option_or found found2) (missing - cond (has_child e.0 c.0 names) 1 0)
        walk_on sorted left2 rest found2 is = record {
          taken = s.taken ++ c ∷ sub;
          parts = s.parts ∙ ap (λ l. s.taken ++ c ∷ l) rest ∙ sym (append_assoc s.taken (c ∷ sub) left2);
          below =
              list_all_append (λ (f : Path × BaseNode). is_below e.0 f.0) s.taken (c ∷ sub) s.below
              (and_from (is_below e.0 c.0) (all_below e.0 sub) next_below (all_below_below e.0 c.0 sub next_below deeper));
          first = (λ i. option_or (s.first i) (is i)) ∙ sym (first_untrue_in-append h (get_in nodes) s.taken (c ∷ sub));
          count = ap (λ n. n - cond (has_child e.0 c.0 names) 1 0) s.count
              ∙ fewer_by_one (λ name. is_none (get_in s.taken (child e.0 name)))
              (λ name. path_eq (child e.0 name) c.0) names sorted among one
              ∙ ap (λ f. lacking f names) (λ i x. sym (child_after x) i);
        }

  -- at the end
  module _ (left : List (Path × BaseNode)) (found : Option Path) (missing : ℕ) (s : SoFar h nodes e.0 old names left found missing)
      (past : IsPast e.0 left) where
    in_parts : (p : Path)
        → get_in nodes p
        ≡ option_or (get_in before p) (cond (is_at (path_cmp p) e.0) (Some e.1) (option_or (get_in s.taken p) (get_in left p)))
    in_parts p =
        ap (λ l. get_in l p) (whole ∙ ap (λ l. before ++ e ∷ l) s.parts) ∙ get_in-append before (e ∷ s.taken ++ left) p
        ∙ ap (λ o. option_or (get_in before p) (cond (is_at (path_cmp p) e.0) (Some e.1) o)) (get_in-append s.taken left p)

    own_first : InPathOrder (e ∷ s.taken ++ left)
    own_first = order_behind before (e ∷ s.taken ++ left) (subst InPathOrder (whole ∙ ap (λ l. before ++ e ∷ l) s.parts) order)

    child_later : (x : List ℕ) → path_cmp e.0 (child e.0 x) ≡ Less
    child_later x = below_after e.0 (child e.0 x) (within_append e.0 (x ∷ [])) (path_eq-longer e.0 x [])

    none_earlier : (x : List ℕ) (o : Option BaseNode) → get_in before (child e.0 x) ≡ o → o ≡ None
    none_earlier x None g = refl
    none_earlier x (Some n) g =
        absurd (not_both (child e.0 x) e.0
        (before_behind before (e ∷ s.taken ++ left) (subst InPathOrder (whole ∙ ap (λ l. before ++ e ∷ l) s.parts) order) (child e.0 x) e.0
        (ap is_some g) (ap is_some (at_first e (s.taken ++ left))))
        (child_later x))

    none_left : (x : List ℕ) (l : List (Path × BaseNode)) → left ≡ l → IsPast e.0 l → (o : Option BaseNode) → get_in l (child e.0 x) ≡ o
        → o ≡ None
    none_left x [] is gone o g = sym g
    none_left x (f ∷ fs) is gone None g = refl
    none_left x (f ∷ fs) is gone (Some n) g =
        first_or_after (Some n ≡ None) f fs
        (order_behind s.taken (f ∷ fs)
        (subst (λ l. InPathOrder (s.taken ++ l)) is (sorted_tail path_cmp e.0 (keys_of (s.taken ++ left)) own_first)))
        (child e.0 x) (ap is_some g)
        (λ same. absurd (true≢false (sym (subst (λ (z : Path). is_within e.0 z ≡ true) same (within_append e.0 (x ∷ []))) ∙ gone)))
        (λ after.
        let first_later : path_cmp e.0 f.0 ≡ Less =
        before_behind (e ∷ s.taken) (f ∷ fs) (subst (λ l. InPathOrder (e ∷ s.taken ++ l)) is own_first) e.0 f.0
        (ap is_some (at_first e s.taken)) (ap is_some (at_first f fs)) in
        absurd (true≢false (sym (within_between e.0 f.0 (child e.0 x) first_later (λ less. not_both f.0 (child e.0 x) after less)
        (within_append e.0 (x ∷ [])))
        ∙ gone)))

    same_children : (x : List ℕ) → is_none (get_in s.taken (child e.0 x)) ≡ is_none (get_in nodes (child e.0 x))
    same_children x =
        sym (ap is_none (in_parts (child e.0 x))
        ∙ ap
        (λ o. is_none (option_or o (cond (is_at (path_cmp (child e.0 x)) e.0) (Some e.1)
        (option_or (get_in s.taken (child e.0 x)) (get_in left (child e.0 x))))))
        (none_earlier x (get_in before (child e.0 x)) refl)
        ∙ ap (λ b. is_none (cond b (Some e.1) (option_or (get_in s.taken (child e.0 x)) (get_in left (child e.0 x)))))
        (at_path (child e.0 x) e.0 ∙ path_eq-symm (child e.0 x) e.0 ∙ path_eq-longer e.0 x [])
        ∙ ap (λ o. is_none (option_or (get_in s.taken (child e.0 x)) o)) (none_left x left refl past (get_in left (child e.0 x)) refl)
        ∙ by (get_in s.taken (child e.0 x)))
      where
        by : (o : Option BaseNode) → is_none (option_or o None) ≡ is_none o
        by None = refl
        by (Some n) = refl

    all_counted : nat_lt 0 missing ≡ lacks_entry (get_in nodes) e.0 names
    all_counted =
        ap (nat_lt 0) s.count ∙ any_lacking (λ name. is_none (get_in s.taken (child e.0 name))) names
        ∙ ap (λ f. list_any f names) (λ i x. same_children x i)

    -- the node itself is tested last
    pub walk_ends : (left2 : List (Path × BaseNode)) → left2 ≡ left → (b : Bool)
        → (CountsMissing (get_in nodes) e.0 e.1 names missing → b ≡ is_untrue h (get_in nodes) e.0 e.1)
        → HasWalked h nodes e old (cond b (Some e.0) found) left2
    walk_ends left2 same b test = record {
      taken = s.taken;
      parts = s.parts ∙ ap (λ l. s.taken ++ l) (sym same);
      below = s.below;
      first = λ i. cond (test (missing_counted (get_in nodes) e.0 e.1 names missing all_counted) i) (Some e.0) (s.first i);
    }

-- a node with nothing on the other side
pub walks_alone : (h : History) (nodes : List (Path × BaseNode)) (e : Path × BaseNode) (old : List (Path × BaseNode)) (b : Bool)
    → b ≡ is_untrue h (get_in nodes) e.0 e.1 → (found : Option Path) → found ≡ cond b (Some e.0) None → HasWalked h nodes e old found old
walks_alone h nodes e old b test found is =
    record { taken = []; parts = refl; below = refl; first = is ∙ ap (λ x. cond x (Some e.0) None) test }

-- ---- what the repository has

-- a test for the same properties, after those of a node were read
pub tests_props : (h : History) (n : ℕ) (r : Bool) (props others : Properties) → Some others ≡ option_map (λ row. row.props) (node_at h n)
    → (r ≡ true → props ≡ others) → (props ≡ others → r ≡ true) → r ≡ props_eq props (props_of h n)
tests_props h n r props others read f g =
    let same : others ≡ props_of h n = by (node_at h n) read in
    same_tests (props ≡ others) r (props_eq props (props_of h n)) f g
    (λ t. (pointwise_decides prop_decides props (props_of h n)).0 t ∙ sym same)
    (λ e. (pointwise_decides prop_decides props (props_of h n)).1 (e ∙ same))
  where
    by : (o : Option NodeRow) → Some others ≡ option_map (λ row. row.props) o → others ≡ (row_or_empty o).props
    by None e = absurd (true≢false (ap is_some e))
    by (Some row) e = cc

-- the entry of the directory above is what is one name further
pub step_found : (h : History) (above : BaseNode) (rev : ℕ) (p : Path) (name : List ℕ) (o : Option ℕ) → IsStep above rev p name
    → o ≡ looked h above → entry_in h o name ≡ look h rev p
step_found h (FileNode r q text props) rev p name o step found = absurd step
step_found h (DirNode r q complete props) rev p name o step found =
    entry_is_below h o name ∙ ap (λ u. entry_below h u name) found ∙ sym (look-child h r q name) ∙ (λ i. look h (step.0 i) (sym step.1 i))
step_found h NotPresent rev p name o step found = absurd step

-- the same of a node that is there
pub found_beside : (h : History) (above : BaseNode × Bool) (node : BaseNode) (rev : ℕ) (p at q : Path) (name : Option (Bor (List ℕ)))
    (id entry : Option ℕ) → is_some name ≡ true → looked h node ≡ look h rev p
    → ((at : Path) (x : List ℕ) → KnowsOwnPath at above → q ≡ child at x → IsStep above.0 rev p x)
    → KnowsOwnPath at above → id ≡ looked h above.0 → IsNameBelow at q (option_copied name)
    → IfSome name (λ n. entry ≡ entry_in h id n.now) → entry ≡ looked h node
found_beside h above node rev p at q None id entry some place step known found named is = absurd (true≢false (sym some))
found_beside h above node rev p at q (Some n) id entry some place step known found named is =
    is ∙ step_found h above.0 rev p n.now id (step at n.now known named) found ∙ sym place

-- a name is one of an entry exactly where a child of that path is looked for
pub entry_child : (h : History) (o : Option ℕ) (p : Path) (name : List ℕ)
    → is_some (entry_in h o name) ≡ has_child p (child p name) (names_at h o)
entry_child h None p name = refl
entry_child h (Some n) p name = by (entries_of h n)
  where
    same_child : (q : Path) (x : List ℕ) → bytes_eq name x ≡ path_eq (child q x) (child q name)
    same_child q x =
        same_tests (name ≡ x) (bytes_eq name x) (path_eq (child q x) (child q name)) (λ t. same_bytes name x t)
        (λ e. ap (bytes_eq name) (sym e) ∙ bytes_eq-same name)
        (λ t. sym (same_last q x name (same_path (child q x) (child q name) t)))
        (λ e. ap (λ (y : List ℕ). path_eq (child q x) (child q y)) e ∙ path_eq-same (child q x))

    by : (es : List (List ℕ × ℕ)) → is_some (value_of es name) ≡ has_child p (child p name) (keys_of es)
    by [] = refl
    by (e ∷ es) =
        ap (λ b. is_some (cond b (Some e.1) (value_of es name))) (at_name name e.0 ∙ same_child p e.0)
        ∙ one (path_eq (child p e.0) (child p name)) (by es)
      where
        one : (b : Bool) → is_some (value_of es name) ≡ has_child p (child p name) (keys_of es)
            → is_some (cond b (Some e.1) (value_of es name)) ≡ (b || has_child p (child p name) (keys_of es))
        one true h = refl
        one false h = h

pub no_child : (p q : Path) (names : List (List ℕ)) → ((x : List ℕ) → q ≡ child p x → ⊥) → has_child p q names ≡ false
no_child p q [] none = refl
no_child p q (x ∷ names) none = by (path_eq (child p x) q) refl (no_child p q names none)
  where
    by : (b : Bool) → path_eq (child p x) q ≡ b → has_child p q names ≡ false → (b || has_child p q names) ≡ false
    by true t h = absurd (none x (sym (same_path (child p x) q t)))
    by false t h = h

-- ---- what the repository has beside the nodes below a directory

pub names_of_entries : (h : History) (o : Option ℕ) → names_at h o ≡ keys_of (entries_at h o)
names_of_entries h None = refl
names_of_entries h (Some n) = refl

pub names_count : (h : History) (o : Option ℕ) → length (names_at h o) ≡ length (entries_at h o)
names_count h o = ap length (names_of_entries h o) ∙ each (entries_at h o)
  where
    each : (es : List (List ℕ × ℕ)) → length (keys_of es) ≡ length es
    each [] = refl
    each (e ∷ es) = let k = each es in omega arith

-- no entry is missing where none is needed
pub none_missing : (h : History) (node : BaseNode) (o : Option ℕ) → HasNoEntries node (entries_at h o) → (w : WorkingCopy) (p : Path)
    → CountsMissing w p node (names_at h o) 0
none_missing h (FileNode r q text props) o none w p = tt
none_missing h (DirNode r q complete props) o none w p =
    sym (ap (lacks_entry w p) (names_of_entries h o ∙ ap keys_of none))
none_missing h NotPresent o none w p = tt

-- the next node's name, if it is a child, and what was taken of the entries
module _ (h : History) (id : Option ℕ) (p : Path) (entries entries2 : List (List ℕ × ℕ)) (c : Path × BaseNode)
    (left : List (Path × BaseNode))
    (beside : EntriesBeside p (entries_at h id) entries (c ∷ left)) (sorted : IsStrictlySortedBy name_cmp (names_at h id))
    (entry : Option ℕ) where
  abbrev pub Takes : Option (Bor (List ℕ)) → Type 0
  Takes name = MatchOption name ((entry ≡ None) × (entries2 ≡ entries)) (λ n. PassesTo n.now entries entry entries2)

  of_name : (n : Bor (List ℕ)) → c.0 ≡ child p n.now → PassesTo n.now entries entry entries2 → entry ≡ entry_in h id n.now
  of_name n named took =
      entry_beside p (entries_at h id) entries entries2 c left n.now entry beside named took
      (subst (IsStrictlySortedBy name_cmp) (names_of_entries h id) sorted)
      ∙ sym (entry_in_all h id n.now)

  pub entry_told : (name : Option (Bor (List ℕ))) → IsNameBelow p c.0 (option_copied name) → Takes name
      → IfSome name (λ n. entry ≡ entry_in h id n.now)
  entry_told None named took = tt
  entry_told (Some n) named took = of_name n named took

  pub entry_counts : (name : Option (Bor (List ℕ))) → IsNameBelow p c.0 (option_copied name) → Takes name
      → is_some entry ≡ has_child p c.0 (names_at h id)
  entry_counts None named took = ap is_some took.0 ∙ sym (no_child p c.0 (names_at h id) named)
  entry_counts (Some n) named took =
      ap is_some (of_name n named took) ∙ entry_child h id p n.now ∙ ap (λ (q : Path). has_child p q (names_at h id)) (sym named)

  pub beside_next : InPathOrder (c ∷ left) → (sub left2 : List (Path × BaseNode)) → left ≡ sub ++ left2
      → (name : Option (Bor (List ℕ))) → IsNameBelow p c.0 (option_copied name) → Takes name
      → EntriesBeside p (entries_at h id) entries2 left2
  beside_next order sub left2 rest None named took =
      subst (λ (l : List (List ℕ × ℕ)). EntriesBeside p (entries_at h id) l left2) (sym took.1)
      (beside_other p (entries_at h id) entries c left sub left2 beside rest)
  beside_next order sub left2 rest (Some n) named took =
      beside_on p (entries_at h id) entries c left sub left2 beside rest order entries2 n.now entry named took

sorted-nil : IsStrictlySortedBy name_cmp []
unfolding IsStrictlySortedBy
sorted-nil = tt

-- the names of what is in a node's place are in order
pub names_sorted : (h : History) → IsHistory h → (node : BaseNode) (o : Option ℕ) → o ≡ looked h node
    → IsStrictlySortedBy name_cmp (names_at h o)
names_sorted h history node None found = sorted-nil
names_sorted h history (FileNode r q text props) (Some n) found = history.entries_in_order r q n (sym found)
names_sorted h history (DirNode r q complete props) (Some n) found = history.entries_in_order r q n (sym found)
names_sorted h history NotPresent (Some n) found = absurd (true≢false (ap is_some found))

-- ---- the nodes of a whole copy

pub rest_of_both : (xs ys zs : List (Path × BaseNode)) (c : Path × BaseNode) → IsRest xs (c ∷ ys) → IsRest ys zs → IsRest xs zs
rest_of_both xs ys zs c first second = (
  first.0 ++ c ∷ second.0,
  first.1 ∙ ap (λ l. first.0 ++ c ∷ l) second.1 ∙ sym (append_assoc first.0 (c ∷ second.0) zs),
)

pub shorter : (xs ys : List (Path × BaseNode)) (c : Path × BaseNode) → IsRest xs (c ∷ ys) → length ys < length xs
shorter xs ys c rest = let e = ap length rest.1 in let k = length-append rest.0 (c ∷ ys) in omega arith

-- the first untrue node among those that were taken of all
pub record Checked (h : History) (nodes left : List (Path × BaseNode)) (found : Option Path) : Type 0 where
  pub done : List (Path × BaseNode)
  pub parts : nodes ≡ done ++ left
  pub first : found ≡ first_untrue_in h (get_in nodes) done

pub check_begins : (h : History) (nodes : List (Path × BaseNode)) → Checked h nodes nodes None
check_begins h nodes = record { done = []; parts = refl; first = refl }

pub check_on : (h : History) (nodes : List (Path × BaseNode)) (c : Path × BaseNode) (left : List (Path × BaseNode)) (found : Option Path)
    (s : Checked h nodes (c ∷ left) found)
    → (left2 : List (Path × BaseNode)) (found2 : Option Path) → HasWalked h nodes c left found2 left2
    → Checked h nodes left2 (option_or found found2)
check_on h nodes c left found s left2 found2 w = record {
  done = s.done ++ c ∷ w.taken;
  parts = s.parts ∙ ap (λ l. s.done ++ c ∷ l) w.parts ∙ sym (append_assoc s.done (c ∷ w.taken) left2);
  first = (λ i. option_or (s.first i) (w.first i)) ∙ sym (first_untrue_in-append h (get_in nodes) s.done (c ∷ w.taken));
}

pub check_ends : (h : History) (nodes left : List (Path × BaseNode)) (found : Option Path) → Checked h nodes left found → left ≡ []
    → found ≡ first_untrue h nodes
check_ends h nodes left found s none =
    s.first ∙ ap (first_untrue_in h (get_in nodes)) (sym (append-nil s.done) ∙ ap (λ l. s.done ++ l) (sym none) ∙ sym s.parts)
