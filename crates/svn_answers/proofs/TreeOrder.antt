-- A tree of the repository, node by node: its node first, and then what is below each entry, in order of their names. That is path order.
use Rattle.std.proofs.Common.{◌≡◌, ℕ, Bool, true, false, cond, List, [], ◌∷◌, ◌++◌, refl, sym, ap, subst, ◌∙◌, append_assoc, append-nil}
use Rattle.std.proofs.Common.{Option, Some, None, true≢false}
use Rattle.std.specs.Prelude.{bytes_eq}
use Rattle.std.specs.Option.{is_some, option_or, option_map, option_and_then}
use Rattle.std.specs.Io.KnownBytes.{Appends}
use Rattle.std.proofs.KnownBytes.{Appends-trans}
use Rattle.std.proofs.lemmas.Grind.{flat_map-append}
use Rattle.std.specs.declared.cmp.Ordering.TheVariants.{Less}
use Rattle.std.specs.Ordering.{ordering_then}
use Rattle.std.specs.List.{AllByRecursion}
use Rattle.std.specs.Map.{keys_of}
use Rattle.std.specs.BTreeMap.{is_at}
use Rattle.std.proofs.lemmas.Map.Keys.{sorted_head, sorted_tail}
use Rattle.svn_lists.proofs.Equality.{same_bytes, bytes_eq-same}
use Rattle.svn_lists.proofs.Sorted.{sorted_nil, sorted_cons, sorted_one}
use Rattle.svn_types.specs.Names.{Path, name_cmp, path_cmp}
use Rattle.svn_types.specs.Paths.{path_eq, is_within}
use Rattle.svn_types.specs.Pairs.{InNameOrder, value_of}
use Rattle.svn_types.proofs.NameLemmas.{level_names}
use Rattle.svn_types.proofs.PathLemmas.{same_path, path_eq-same, path_eq-symm, path_eq-longer, split_within, within_append}
use Rattle.svn_types.proofs.PathsInOrder.{at_path, below_after}
use Rattle.svn_repo.specs.History.{History, look, node_at, walk}
use Rattle.svn_repo.specs.Readings.{entries_of}
use Rattle.svn_repo.proofs.Walking.{look-append}
use Rattle.svn_model.specs.declared.base_node.BaseNode.{BaseNode}
use Rattle.svn_model.specs.Nodes.{get_in, InPathOrder, base_node}
use Rattle.svn_nodes.specs.Lines.{node_lines}
use Rattle.svn_nodes.specs.Standing.{standing, standing_at, Puts, IsSwept, AreAmong}
use Rattle.svn_nodes.proofs.Gathering.{fill_begins, fill_ends, fill_free_at, fill_next_at}
use Rattle.svn_nodes.proofs.Sweeps.{value_of-cons, value_of-first}
use Rattle.law_copy.proofs.Lookups.{get_in-append}
use Rattle.svn_wc.specs.Lines.{copy_text}
use Rattle.svn_answers.specs.Shown.{IsPartShown, IsTreeShown}

-- ---- nodes in path order, after others that come before them

some_by : {X : Type 0} (b : Bool) (x : X) (o : Option X) → is_some o ≡ true → is_some (cond b (Some x) o) ≡ true
some_by true x o h = refl
some_by false x o h = h

has_first : (e : Path × BaseNode) (es : List (Path × BaseNode)) → is_some (get_in (e ∷ es) e.0) ≡ true
has_first e es = ap (λ b. is_some (cond b (Some e.1) (get_in es e.0))) (at_path e.0 e.0 ∙ path_eq-same e.0)

has_later : (e : Path × BaseNode) (es : List (Path × BaseNode)) (p : Path) → is_some (get_in es p) ≡ true → is_some (get_in (e ∷ es) p) ≡ true
has_later e es p = some_by (is_at (path_cmp p) e.0) e.1 (get_in es p)

before_all : (x : Path) (es : List (Path × BaseNode)) → ((k : Path) → is_some (get_in es k) ≡ true → path_cmp x k ≡ Less)
    → AllByRecursion (λ y. path_cmp x y ≡ Less) (keys_of es)
before_all x [] before = tt
before_all x (e ∷ es) before = (before e.0 (has_first e es), before_all x es (λ k there. before k (has_later e es k there)))

before_both : (x : Path) (xs ys : List (Path × BaseNode)) → AllByRecursion (λ y. path_cmp x y ≡ Less) (keys_of xs)
    → AllByRecursion (λ y. path_cmp x y ≡ Less) (keys_of ys) → AllByRecursion (λ y. path_cmp x y ≡ Less) (keys_of (xs ++ ys))
before_both x [] ys front back = back
before_both x (e ∷ es) ys front back = (front.0, before_both x es ys front.1 back)

pub order_joined : (xs ys : List (Path × BaseNode)) → InPathOrder xs → InPathOrder ys
    → ((p k : Path) → is_some (get_in xs p) ≡ true → is_some (get_in ys k) ≡ true → path_cmp p k ≡ Less) → InPathOrder (xs ++ ys)
order_joined [] ys front back apart = back
order_joined (x ∷ xs) ys front back apart =
    sorted_cons path_cmp x.0 (keys_of (xs ++ ys))
    (before_both x.0 xs ys (sorted_head path_cmp x.0 (keys_of xs) front) (before_all x.0 ys (λ k there. apart x.0 k (has_first x xs) there)))
    (order_joined xs ys (sorted_tail path_cmp x.0 (keys_of xs) front) back (λ p k here there. apart p k (has_later x xs p here) there))

-- ---- what is below a path

below_first : (at : Path) (name : List ℕ) (r : Path) → path_cmp at (at ++ name ∷ r) ≡ Less
below_first at name r = below_after at (at ++ name ∷ r) (within_append at (name ∷ r)) (path_eq-longer at name r)

below_in_order : (at : Path) (x y : List ℕ) (r s : Path) → name_cmp x y ≡ Less → path_cmp (at ++ x ∷ r) (at ++ y ∷ s) ≡ Less
below_in_order [] x y r s h = ap (λ o. ordering_then o (path_cmp r s)) h
below_in_order (m ∷ at) x y r s h =
    ap (λ o. ordering_then o (path_cmp (at ++ x ∷ r) (at ++ y ∷ s))) (level_names m m (bytes_eq-same m)) ∙ below_in_order at x y r s h

-- a name that is before all others is before each of them
name_before : {V : Type 0} (x : List ℕ) (es : List (List ℕ × V)) → AllByRecursion (λ y. name_cmp x y ≡ Less) (keys_of es) → (name : List ℕ)
    → is_some (value_of es name) ≡ true → name_cmp x name ≡ Less
name_before x [] all name there = absurd (true≢false (sym there))
name_before {V} x (e ∷ es) all name there =
    by (bytes_eq name e.0) refl (sym (ap is_some (value_of-cons e es name)) ∙ there) (name_before x es all.1 name)
  where
    by : (b : Bool) → bytes_eq name e.0 ≡ b → is_some (cond b (Some e.1) (value_of es name)) ≡ true
        → (is_some (value_of es name) ≡ true → name_cmp x name ≡ Less) → name_cmp x name ≡ Less
    by true is some later = ap (name_cmp x) (same_bytes name e.0 is) ∙ all.0
    by false is some later = later some

-- ---- a node, and what is below some of its entries

-- the node, and after it the nodes below the entries before those that are left
pub record IsBegun (h : History) (rev : ℕ) (at q : Path) (n : ℕ) (left : List (List ℕ × ℕ)) (nodes : List (Path × BaseNode)) : Type 0 where
  pub swept : IsSwept at left (λ name r found. found ≡ None)
      (λ name r found. found ≡ standing_at h rev q name (value_of (entries_of h n) name) r)
      (get_in ((at, base_node h rev q n) ∷ [])) (get_in ((at, base_node h rev q n) ∷ nodes))
  pub among : AreAmong left (entries_of h n)
  pub in_order : InPathOrder ((at, base_node h rev q n) ∷ nodes)
  -- they come before all that is below those that are left
  pub before : (p : Path) → is_some (get_in ((at, base_node h rev q n) ∷ nodes) p) ≡ true → (name : List ℕ)
      → is_some (value_of left name) ≡ true → (r : Path) → path_cmp p (at ++ name ∷ r) ≡ Less

module _ (h : History) (rev : ℕ) (at q : Path) (n : ℕ) where
  abbrev first : Path × BaseNode
  first = (at, base_node h rev q n)

  put : (p : Path) → get_in (first ∷ []) p ≡ cond (path_eq at p) (Some (base_node h rev q n)) None
  put p = ap (λ b. cond b (Some (base_node h rev q n)) None) (at_path p at ∙ path_eq-symm p at)

  pub begun : (es : List (List ℕ × ℕ)) → InNameOrder es → es ≡ entries_of h n → IsBegun h rev at q n es []
  begun es order is =
      let begins = fill_begins h rev at q n (λ p. None) (get_in (first ∷ [])) put (λ r. refl) es order is in
      record {
        swept = begins.0;
        among = begins.1;
        in_order = sorted_one path_cmp at;
        before = λ p here name left r. by p name r (path_eq at p) refl (sym (ap is_some (put p)) ∙ here);
      }
    where
      by : (p : Path) (name : List ℕ) (r : Path) (b : Bool) → path_eq at p ≡ b
          → is_some (cond b (Some (base_node h rev q n)) None) ≡ true → path_cmp p (at ++ name ∷ r) ≡ Less
      by p name r true is some = ap (λ (x : Path). path_cmp x (at ++ name ∷ r)) (sym (same_path at p is)) ∙ below_first at name r
      by p name r false is some = absurd (true≢false (sym some))

  pub ended : (nodes : List (Path × BaseNode)) → IsBegun h rev at q n [] nodes
      → Puts (standing h rev q n) at (λ p. None) (get_in (first ∷ nodes))
  ended nodes done = fill_ends h rev at q n (λ p. None) (get_in (first ∷ [])) put (get_in (first ∷ nodes)) done.swept

  -- once no entry is left all of it is shown
  pub all_shown : (nodes : List (Path × BaseNode)) → IsBegun h rev at q n [] nodes
      → IsPartShown (standing h rev q n) at (node_lines first ++ copy_text nodes)
  all_shown nodes done = record { nodes = first ∷ nodes; puts = ended nodes done; in_order = done.in_order; lines = refl }

  pub leaf_shown : entries_of h n ≡ [] → IsPartShown (standing h rev q n) at (node_lines first)
  leaf_shown leaf =
      subst (IsPartShown (standing h rev q n) at) (append-nil (node_lines first)) (all_shown [] (begun [] (sorted_nil name_cmp) (sym leaf)))

  -- the part of the next entry
  module _ (e : List ℕ × ℕ) (left : List (List ℕ × ℕ)) (nodes part : List (Path × BaseNode)) (at_below below : Path)
      (is_at : at_below ≡ at ++ e.0 ∷ []) (is_below : below ≡ q ++ e.0 ∷ []) (done : IsBegun h rev at q n (e ∷ left) nodes)
      (puts : Puts (standing h rev below e.1) at_below (λ p. None) (get_in part)) where
    joined : (p : Path) → get_in (first ∷ (nodes ++ part)) p ≡ option_or (get_in (first ∷ nodes) p) (get_in part p)
    joined p = get_in-append (first ∷ nodes) part p

    or_none : (o : Option BaseNode) → option_or o None ≡ o
    or_none None = refl
    or_none (Some x) = refl

    put_behind : Puts (standing h rev below e.1) at_below (get_in (first ∷ nodes)) (get_in (first ∷ (nodes ++ part)))
    put_behind = record {
      inside = λ r. joined (at_below ++ r)
          ∙ ap (λ o. option_or o (get_in part (at_below ++ r)))
          (fill_free_at h rev at q n (λ p. None) (get_in (first ∷ [])) put e left (get_in (first ∷ nodes)) (get_in (first ∷ (nodes ++ part)))
          done.swept at_below below is_at is_below r)
          ∙ puts.inside r;
      outside = λ p out. joined p ∙ ap (option_or (get_in (first ∷ nodes) p)) (puts.outside p out) ∙ or_none (get_in (first ∷ nodes) p);
    }

    -- each path of the part is below the entry
    below_entry : (k : Path) → is_some (get_in part k) ≡ true → (r : Path) × (k ≡ at ++ e.0 ∷ r)
    below_entry k there = by (is_within at_below k) refl
      where
        by : (b : Bool) → is_within at_below k ≡ b → (r : Path) × (k ≡ at ++ e.0 ∷ r)
        by true within =
            let on = split_within at_below k within in
            (on.0, on.1 ∙ ap (λ (p : Path). p ++ on.0) is_at ∙ append_assoc at (e.0 ∷ []) on.0)
        by false out = absurd (true≢false (sym there ∙ ap is_some (puts.outside k out)))

    names_later : (name : List ℕ) → is_some (value_of left name) ≡ true → name_cmp e.0 name ≡ Less
    names_later = name_before e.0 left (sorted_head name_cmp e.0 (keys_of left) done.swept.order)

    still_left : (name : List ℕ) → is_some (value_of left name) ≡ true → is_some (value_of (e ∷ left) name) ≡ true
    still_left name there =
        ap is_some (value_of-cons e left name) ∙ some_by (bytes_eq name e.0) e.1 (value_of left name) there

    before_left : (p : Path) → is_some (get_in (first ∷ (nodes ++ part)) p) ≡ true → (name : List ℕ)
        → is_some (value_of left name) ≡ true → (r : Path) → path_cmp p (at ++ name ∷ r) ≡ Less
    before_left p here name there r =
        by (get_in (first ∷ nodes) p) refl (sym (ap is_some (joined p)) ∙ here)
      where
        by : (o : Option BaseNode) → get_in (first ∷ nodes) p ≡ o → is_some (option_or o (get_in part p)) ≡ true
            → path_cmp p (at ++ name ∷ r) ≡ Less
        by (Some x) is some = done.before p (ap is_some is) name (still_left name there) r
        by None is some =
            let on = below_entry p some in
            ap (λ (x : Path). path_cmp x (at ++ name ∷ r)) on.1 ∙ below_in_order at e.0 name on.0 r (names_later name there)

    pub entry_put : InPathOrder part → IsBegun h rev at q n left (nodes ++ part)
    entry_put order =
        let next =
        fill_next_at h rev at q n (λ p. None) (get_in (first ∷ [])) put e left (get_in (first ∷ nodes)) (get_in (first ∷ (nodes ++ part)))
        done.swept at_below below is_at is_below done.among put_behind in
        record {
          swept = next.0;
          among = next.1;
          in_order = order_joined (first ∷ nodes) part done.in_order order apart;
          before = before_left;
        }
      where
        apart : (p k : Path) → is_some (get_in (first ∷ nodes) p) ≡ true → is_some (get_in part k) ≡ true → path_cmp p k ≡ Less
        apart p k here there =
            let on = below_entry k there in
            ap (path_cmp p) on.1 ∙ done.before p here e.0 (ap is_some (value_of-first e left)) on.0

-- ---- what is printed of them

pub lines_joined : (old mid new : Option (List ℕ)) (nodes part : List (Path × BaseNode)) (text : List ℕ) → Appends old mid (copy_text nodes)
    → Appends mid new text → text ≡ copy_text part → Appends old new (copy_text (nodes ++ part))
lines_joined old mid new nodes part text front back is =
    subst (Appends old new) (ap (λ (l : List ℕ). copy_text nodes ++ l) is ∙ sym (flat_map-append node_lines nodes part))
    (Appends-trans old mid new (copy_text nodes) text front back)

-- a part that is at the root of a copy is a checkout
pub tree_shown : (h : History) (rev : ℕ) (path : Path) (id : ℕ) → look h rev path ≡ Some id → (at : Path) → at ≡ [] → (text : List ℕ)
    → IsPartShown (standing h rev path id) at text → IsTreeShown h rev path text
tree_shown h rev path id found at root text shown = record {
  nodes = shown.nodes;
  at = λ p. ap (λ (x : Path). get_in shown.nodes (x ++ p)) (sym root) ∙ shown.puts.inside p
      ∙ ap (option_map (base_node h rev (path ++ p)))
      (sym (look-append h rev path p ∙ ap (option_and_then (λ m. walk (node_at h) m p)) found));
  in_order = shown.in_order;
  lines = shown.lines;
}
