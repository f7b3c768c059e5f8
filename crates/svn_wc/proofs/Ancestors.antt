-- The nodes on the way down to a path.
--     prefixes p      the paths from the root down to p
use Rattle.std.proofs.Common.{◌≡◌, ℕ, suc, ◌+◌, ◌-◌, Bool, true, false, cond, List, [], ◌∷◌, ◌++◌, length, take, map, refl, sym, ap, subst}
use Rattle.std.proofs.Common.{◌∙◌, ◌⊎◌, inl, inr, Option, Some, None, true≢false, arith}
use Rattle.std.specs.Prelude.{filter_map, slice_get}
use Rattle.std.specs.List.{cons_option}
use Rattle.std.specs.Option.{is_some, option_map, option_or}
use Rattle.std.specs.BTreeMap.{is_at}
use Rattle.std.specs.declared.cmp.Ordering.TheVariants.{Less}
use Rattle.std.proofs.lemmas.List.{append-nil, map-append, take-map, length-map, length_push}
use Rattle.std.proofs.lemmas.Option.{same_Some, slice_get-map}
use Rattle.svn_lists.proofs.Filters.{filter_map-push}
use Rattle.svn_lists.proofs.Options.{option_or_some}
use Rattle.svn_lists.proofs.Parts.{append_one}
use Rattle.svn_lists.proofs.Places.{slice_get-last}
use Rattle.svn_types.specs.Names.{Path, path_cmp}
use Rattle.svn_types.specs.Paths.{is_within, is_root, parent, path_eq, child, last_name}
use Rattle.svn_report.specs.declared.entry.ReportEntry.{ReportEntry}
use Rattle.svn_report.specs.Reports.{ReportView}
use Rattle.svn_model.specs.declared.base_node.BaseNode.{BaseNode}
use Rattle.svn_model.specs.declared.base_node.BaseNode.TheVariants.{File as FileNode, Dir as DirNode, NotPresent}
use Rattle.svn_model.specs.Nodes.{get_in, InPathOrder, IsWorkingCopy, is_dir, is_present, node_path, present_path}
use Rattle.svn_model.specs.Crawl.{entry_for, reported_at, crawl}
use Rattle.svn_wc.specs.Aboves.{mark, IsBelow}
use Rattle.svn_wc.specs.Crawling.{with_reported, last_of, IsUnswitchedBelow, Reports}
use Rattle.svn_wc.specs.Unswitched.{IsUnswitched}
use Rattle.svn_wc.proofs.OwnPaths.{marked_path}
use Rattle.svn_wc.proofs.Unswitched.{unswitched_below}
use Rattle.law_copy.proofs.Lookups.{at_path, get_in-append}
use Rattle.svn_nodes.proofs.NodeOrder.{at_first, first_or_after, before_behind, order_behind}
use Rattle.svn_types.proofs.PathsInOrder.{not_before_itself, not_both, below_after, within_between}
use Rattle.svn_types.proofs.PathLemmas.{is_root-child, parent-child, path_cases, split_within, within_append, within_child}
use Rattle.svn_types.proofs.PathLemmas.{path_eq-longer, same_path}

-- ---- paths

abbrev pub prefixes : Path → List Path
prefixes [] = [] ∷ []
prefixes (n ∷ p) = [] ∷ map (λ (q : Path). n ∷ q) (prefixes p)

-- one name longer
prefixes-child : (p : Path) (name : List ℕ) → prefixes (p ++ name ∷ []) ≡ prefixes p ++ (p ++ name ∷ []) ∷ []
prefixes-child [] name = refl
prefixes-child (n ∷ p) name =
    ap (λ (l : List Path). [] ∷ map (λ (q : Path). n ∷ q) l) (prefixes-child p name)
    ∙ ap (λ (l : List Path). [] ∷ l) (map-append (λ (q : Path). n ∷ q) (prefixes p) ((p ++ name ∷ []) ∷ []))

-- those of a longer path begin with those of a shorter one above it
take-prefixes : (q r : Path) → take (suc (length q)) (prefixes (q ++ r)) ≡ prefixes q
take-prefixes [] [] = refl
take-prefixes [] (n ∷ r) = refl
take-prefixes (m ∷ q) r =
    ap (λ (l : List Path). [] ∷ l)
    (take-map (λ (p : Path). m ∷ p) (suc (length q)) (prefixes (q ++ r)) ∙ ap (map (λ (p : Path). m ∷ p)) (take-prefixes q r))

-- a path is the root, or has one above it
abbrev PathCases : Path → Type 0
PathCases p = (p ≡ []) ⊎ ((q : Path) × (name : List ℕ) × (p ≡ child q name))

-- ---- lists

unwrapped : {X : Type 0} (o u : Option X) → option_map (λ x. Some x) o ≡ Some u → o ≡ u
unwrapped None u e = absurd (true≢false (sym (ap is_some e)))
unwrapped (Some x) u e = same_Some (Some x) u e

-- the last node of a list whose last is known
last_known : {X : Type 0} (ns : List X) (xs : List (Option X)) (x : Option X) → map (λ n. Some n) ns ≡ xs ++ x ∷ []
    → slice_get ns (length ns - 1) ≡ x
last_known {X} ns xs x e =
    let n : length (map (λ (n : X). Some n) ns) ≡ length ns = length-map ns (λ n. Some n) in
    unwrapped (slice_get ns (length ns - 1)) x
    (sym (slice_get-map (λ (n : X). Some n) ns (length ns - 1)) ∙ ap (λ k. slice_get (map (λ (n : X). Some n) ns) (k - 1)) (sym n)
    ∙ ap (λ (l : List (Option X)). slice_get l (length l - 1)) e ∙ slice_get-last xs x)

prefixes-last : (q : Path) → (front : List Path) × (prefixes q ≡ front ++ q ∷ [])
prefixes-last q = by (path_cases q)
  where
    by : PathCases q → (front : List Path) × (prefixes q ≡ front ++ q ∷ [])
    by (inl e) = ([], ap prefixes e ∙ ap (λ (p : Path). p ∷ []) (sym e))
    by (inr (p, name, e)) = (prefixes p, ap prefixes e ∙ prefixes-child p name ∙ ap (λ (r : Path). prefixes p ++ r ∷ []) (sym e))

-- ---- a crawl, node by node

-- what is at a path, as what is below is compared with it
abbrev pub above_at : Bool → List (Path × BaseNode) → Path → Option (BaseNode × Bool)
above_at known nodes p = option_map (λ n. (n, mark known p n)) (get_in nodes p)

-- each directory on the way down to the one path is on the way down to the other
abbrev pub LeadsTo : List (Path × BaseNode) → Path → Path → Type 0
LeadsTo nodes k p = (q : Path) → is_within q k ≡ true → is_dir (get_in nodes q) ≡ true → is_within q p ≡ true

-- the directories on the way down to the last node that was taken, if one was
pub data AreAncestors (known : Bool) (nodes done : List (Path × BaseNode)) (ancestors : List (BaseNode × Bool)) : Type 0 where
  none_yet : done ≡ [] → ancestors ≡ [] → AreAncestors known nodes done ancestors
  last_at : (front : List (Path × BaseNode)) (e : Path × BaseNode) (p : Path) → done ≡ front ++ e ∷ [] → LeadsTo nodes e.0 p
      → map (λ a. Some a) ancestors ≡ map (above_at known nodes) (prefixes p) → AreAncestors known nodes done ancestors

pub record IsCrawled (known : Bool) (nodes : List (Path × BaseNode)) (ancestors : List (BaseNode × Bool)) (r : ReportView)
    (left : List (Path × BaseNode)) : Type 0 where
  pub done : List (Path × BaseNode)
  pub parts : nodes ≡ done ++ left
  pub ancestors_are : AreAncestors known nodes done ancestors
  pub root : r.root ≡ node_path (get_in nodes [])
  pub entries : r.entries ≡ filter_map (reported_at nodes) done

pub dir_some : (o : Option BaseNode) → is_dir o ≡ true → is_some o ≡ true
dir_some None d = absurd (true≢false (sym d))
dir_some (Some n) d = refl

-- the node of what is at a path
node_of : (known : Bool) (o : Option BaseNode) (p : Path) → option_map (λ (a : BaseNode × Bool). a.0) (option_map (λ n. (n, mark known p n)) o) ≡ o
node_of known None p = refl
node_of known (Some n) p = refl

pub crawled_first : (known : Bool) (nodes : List (Path × BaseNode)) (r : ReportView) → r.root ≡ node_path (get_in nodes []) → r.entries ≡ []
    → IsCrawled known nodes [] r nodes
crawled_first known nodes r root entries = record { done = []; parts = refl; ancestors_are = none_yet refl refl; root = root; entries = entries }

pub crawled_last : (known : Bool) (nodes : List (Path × BaseNode)) (ancestors : List (BaseNode × Bool)) (r : ReportView) → IsCrawled known nodes ancestors r []
    → r ≡ crawl nodes
crawled_last known nodes ancestors r c =
    let all : c.done ≡ nodes = sym (append-nil c.done) ∙ sym c.parts in
    let es : r.entries ≡ filter_map (reported_at nodes) nodes = c.entries ∙ ap (filter_map (reported_at nodes)) all in
    λ i. record { root = c.root i; entries = es i }

-- what is at a path of the list is the node there
pub next_stands : (nodes done : List (Path × BaseNode)) (e : Path × BaseNode) (left : List (Path × BaseNode)) → nodes ≡ done ++ e ∷ left
    → InPathOrder nodes → get_in nodes e.0 ≡ Some e.1
next_stands nodes done e left parts order =
    ap (λ l. get_in l e.0) parts ∙ get_in-append done (e ∷ left) e.0 ∙ by (get_in done e.0) refl
  where
    by : (o : Option BaseNode) → get_in done e.0 ≡ o → option_or o (get_in (e ∷ left) e.0) ≡ Some e.1
    by None h = at_first e left
    by (Some x) h =
        absurd (not_before_itself e.0
        (before_behind done (e ∷ left) (subst InPathOrder parts order) e.0 e.0 (ap is_some h) (ap is_some (at_first e left))))

module _ (known : Bool) (nodes : List (Path × BaseNode)) (order : InPathOrder nodes) (ancestors : List (BaseNode × Bool)) (r : ReportView) (e : Path × BaseNode)
    (left : List (Path × BaseNode))
    (c : IsCrawled known nodes ancestors r (e ∷ left)) where
  whole : InPathOrder (c.done ++ e ∷ left)
  whole = subst InPathOrder c.parts order

  in_parts : (p : Path) → get_in nodes p ≡ option_or (get_in c.done p) (get_in (e ∷ left) p)
  in_parts p = ap (λ l. get_in l p) c.parts ∙ get_in-append c.done (e ∷ left) p

  some_of : (o : Option BaseNode) → (o ≡ None → ⊥) → is_some o ≡ true
  some_of None h = absurd (h refl)
  some_of (Some x) h = refl

  -- what is at the next path is the next node
  stands : get_in nodes e.0 ≡ Some e.1
  stands = next_stands nodes c.done e left c.parts order

  stands_above : above_at known nodes e.0 ≡ Some (e.1, mark known e.0 e.1)
  stands_above = ap (option_map (λ n. (n, mark known e.0 n))) stands

  -- a directory above the next node was taken
  taken : (q r : Path) (name : List ℕ) → e.0 ≡ q ++ name ∷ r → is_some (get_in nodes q) ≡ true → is_some (get_in c.done q) ≡ true
  taken q r name is some = by (get_in c.done q) refl (sym (ap is_some (in_parts q)) ∙ some)
    where
      before : path_cmp q e.0 ≡ Less
      before = ap (path_cmp q) is ∙ below_after q (q ++ name ∷ r) (within_append q (name ∷ r)) (path_eq-longer q name r)

      by : (o : Option BaseNode) → get_in c.done q ≡ o → is_some (option_or o (get_in (e ∷ left) q)) ≡ true → is_some o ≡ true
      by (Some x) h s = refl
      by None h s =
          absurd (first_or_after ⊥ e left (order_behind c.done (e ∷ left) whole) q s
          (λ same. not_before_itself q (ap (path_cmp q) same ∙ before)) (λ after. not_both q e.0 before after))

  -- what was taken last comes before
  last_before : (front : List (Path × BaseNode)) (l : Path × BaseNode) → c.done ≡ front ++ l ∷ [] → path_cmp l.0 e.0 ≡ Less
  last_before front l d =
      before_behind c.done (e ∷ left) whole l.0 e.0
      (ap (λ xs. is_some (get_in xs l.0)) d ∙ ap is_some (get_in-append front (l ∷ []) l.0)
      ∙ option_or_some (get_in front l.0) (get_in (l ∷ []) l.0) (ap is_some (at_first l [])))
      (ap is_some (at_first e left))

  -- what was taken is the last, or comes before it
  taken_before : (P : Type 0) (front : List (Path × BaseNode)) (l : Path × BaseNode) → c.done ≡ front ++ l ∷ [] → (q : Path)
      → is_some (get_in c.done q) ≡ true → (q ≡ l.0 → P) → (path_cmp q l.0 ≡ Less → P) → P
  taken_before P front l d q some same before =
      by (get_in front q) refl (sym (ap (λ xs. is_some (get_in xs q)) d ∙ ap is_some (get_in-append front (l ∷ []) q)) ∙ some)
    where
      cut : InPathOrder (front ++ l ∷ e ∷ left)
      cut = subst InPathOrder (ap (λ xs. xs ++ e ∷ left) d ∙ sym (append_one front l (e ∷ left))) whole

      one : (b : Bool) → is_at (path_cmp q) l.0 ≡ b → is_some (cond b (Some l.1) None) ≡ true → P
      one true t s = same (same_path q l.0 (sym (at_path q l.0) ∙ t))
      one false t s = absurd (true≢false (sym s))

      by : (o : Option BaseNode) → get_in front q ≡ o → is_some (option_or o (get_in (l ∷ []) q)) ≡ true → P
      by (Some x) h s = before (before_behind front (l ∷ e ∷ left) cut q l.0 (ap is_some h) (ap is_some (at_first l (e ∷ left))))
      by None h s = one (is_at (path_cmp q) l.0) refl s

  -- the nodes down to the path above the next one
  module _ (w : IsWorkingCopy (get_in nodes)) (q : Path) (name : List ℕ) (is : e.0 ≡ child q name) where
    directory : is_dir (get_in nodes q) ≡ true
    directory = w.parents q name (λ none. true≢false (sym (ap is_some stands) ∙ ap is_some (ap (get_in nodes) is ∙ none)))

    above_taken : is_some (get_in c.done q) ≡ true
    above_taken = taken q [] name is (dir_some (get_in nodes q) directory)

    down_to : take (length e.0) (map (λ a. Some a) ancestors) ≡ map (above_at known nodes) (prefixes q)
    down_to = by c.ancestors_are
      where
        depth : length e.0 ≡ suc (length q)
        depth = let d : length e.0 ≡ length q + 1 = ap length is ∙ length_push q name in omega arith

        by : AreAncestors known nodes c.done ancestors → take (length e.0) (map (λ a. Some a) ancestors) ≡ map (above_at known nodes) (prefixes q)
        by (none_yet d l) = absurd (true≢false (sym above_taken ∙ ap (λ xs. is_some (get_in xs q)) d))
        by (last_at front l end d leads m) =
            let within : is_within q l.0 ≡ true =
            taken_before (is_within q l.0 ≡ true) front l d q above_taken
            (λ same. subst (λ (p : Path). is_within q p ≡ true) (append-nil q ∙ same) (within_append q []))
            (λ before. within_between q l.0 e.0 before (λ after. not_both l.0 e.0 (last_before front l d) after)
            (subst (λ (p : Path). is_within q p ≡ true) (sym is) (within_append q (name ∷ [])))) in
            let parts = split_within q end (leads q within directory) in
            ap (λ k. take k (map (λ a. Some a) ancestors)) depth ∙ ap (take (suc (length q))) m
            ∙ ap (λ (p : Path). take (suc (length q)) (map (above_at known nodes) (prefixes p))) parts.1
            ∙ take-map (above_at known nodes) (suc (length q)) (prefixes (q ++ parts.0)) ∙ ap (map (above_at known nodes)) (take-prefixes q parts.0)

    kept : map (λ a. Some a) (take (length e.0) ancestors) ≡ map (above_at known nodes) (prefixes q)
    kept = sym (take-map (λ (a : BaseNode × Bool). Some a) (length e.0) ancestors) ∙ down_to

    -- the last of them is the directory above
    last_is_above : slice_get (take (length e.0) ancestors) (length (take (length e.0) ancestors) - 1) ≡ above_at known nodes q
    last_is_above =
        let last = prefixes-last q in
        last_known (take (length e.0) ancestors) (map (above_at known nodes) last.0) (above_at known nodes q)
        (kept ∙ ap (map (above_at known nodes)) last.1 ∙ map-append (above_at known nodes) last.0 (q ∷ []))

    ancestors_on : map (λ a. Some a) (take (length e.0) ancestors ++ (e.1, mark known e.0 e.1) ∷ []) ≡ map (above_at known nodes) (prefixes e.0)
    ancestors_on =
        map-append (λ (a : BaseNode × Bool). Some a) (take (length e.0) ancestors) ((e.1, mark known e.0 e.1) ∷ [])
        ∙ (λ i. kept i ++ sym (sym (ap (above_at known nodes) is) ∙ stands_above) i ∷ [])
        ∙ sym (map-append (above_at known nodes) (prefixes q) (child q name ∷ []))
        ∙ ap (map (above_at known nodes)) (sym (prefixes-child q name)) ∙ ap (λ (p : Path). map (above_at known nodes) (prefixes p)) (sym is)

  -- the next node is the root, or a directory is above it
  next_below : IsWorkingCopy (get_in nodes) → (o : Option (BaseNode × Bool))
      → o ≡ slice_get (take (length e.0) ancestors) (length (take (length e.0) ancestors) - 1) → IsBelow e.0 o
  next_below w o same = by (path_cases e.0)
    where
      -- what is there is a directory, and is marked as one of its own path where it has that
      at_node : (q : Path) (n : Option BaseNode) → is_root e.0 ≡ false → is_dir n ≡ true → parent e.0 ≡ q
          → IsBelow e.0 (option_map (λ n. (n, mark known q n)) n)
      at_node q None root dir front = absurd (true≢false (sym dir))
      at_node q (Some n) root dir front = (root, dir, λ own. marked_path known q n own ∙ sym front)

      by : PathCases e.0 → IsBelow e.0 o
      by (inl is) =
          subst (λ (u : Option (BaseNode × Bool)). IsBelow e.0 u)
          (sym (same ∙ (λ i. slice_get (take (length (is i)) ancestors) (length (take (length (is i)) ancestors) - 1)))) (ap is_root is)
      by (inr (q, name, is)) =
          subst (λ (u : Option (BaseNode × Bool)). IsBelow e.0 u) (sym (same ∙ last_is_above w q name is))
          (at_node q (get_in nodes q) (ap is_root is ∙ is_root-child q name) (directory w q name is) (ap parent is ∙ parent-child q name))

  -- nor is it switched, where it is known that no path is
  next_unswitched : IsWorkingCopy (get_in nodes) → (known ≡ true → IsUnswitched (get_in nodes)) → (o : Option (BaseNode × Bool))
      → o ≡ slice_get (take (length e.0) ancestors) (length (take (length e.0) ancestors) - 1) → IsUnswitchedBelow known e.0 o e.1
  next_unswitched w unswitched o same = by (path_cases e.0)
    where
      at_node : (q : Path) (name : List ℕ) (n : Option BaseNode) → get_in nodes q ≡ n → e.0 ≡ child q name
          → IsUnswitchedBelow known e.0 (option_map (λ n. (n, mark known q n)) n) e.1
      at_node q name None there is = tt
      at_node q name (Some n) there is = λ k present.
          subst (λ (u : Option BaseNode). path_eq (node_path (Some e.1)) (node_path u ++ last_name e.0) ≡ true) there
          (subst (λ (u : Option BaseNode). path_eq (node_path u) (node_path (get_in nodes q) ++ last_name e.0) ≡ true) stands
          (unswitched_below (get_in nodes) (unswitched k) w e.0 q name is (ap is_present stands ∙ present)))

      by : PathCases e.0 → IsUnswitchedBelow known e.0 o e.1
      by (inl is) =
          subst (λ (u : Option (BaseNode × Bool)). IsUnswitchedBelow known e.0 u e.1)
          (sym (same ∙ (λ i. slice_get (take (length (is i)) ancestors) (length (take (length (is i)) ancestors) - 1)))) tt
      by (inr (q, name, is)) =
          subst (λ (u : Option (BaseNode × Bool)). IsUnswitchedBelow known e.0 u e.1) (sym (same ∙ last_is_above w q name is))
          (at_node q name (get_in nodes q) refl is)

  entry_is : IsWorkingCopy (get_in nodes) → (o : Option (BaseNode × Bool))
      → o ≡ slice_get (take (length e.0) ancestors) (length (take (length e.0) ancestors) - 1)
      → entry_for e.0 (option_map (λ a. a.0) o) (Some e.1) ≡ entry_for e.0 (get_in nodes (parent e.0)) (Some e.1)
  entry_is w o same = by (path_cases e.0)
    where
      by : PathCases e.0 → entry_for e.0 (option_map (λ a. a.0) o) (Some e.1) ≡ entry_for e.0 (get_in nodes (parent e.0)) (Some e.1)
      by (inl is) =
          (λ i. entry_for (is i) (option_map (λ a. a.0) o) (Some e.1)) ∙ sym (λ i. entry_for (is i) (get_in nodes (parent e.0)) (Some e.1))
      by (inr (q, name, is)) =
          ap (λ (u : Option BaseNode). entry_for e.0 u (Some e.1))
          (ap (option_map (λ a. a.0)) (same ∙ last_is_above w q name is) ∙ node_of known (get_in nodes q) q
          ∙ ap (get_in nodes) (sym (ap parent is ∙ parent-child q name)))

  -- a directory is after the ancestors then, and what isn't one is not
  line_of_directory : IsWorkingCopy (get_in nodes)
      → AreAncestors known nodes (c.done ++ e ∷ []) (take (length e.0) ancestors ++ (e.1, mark known e.0 e.1) ∷ [])
  line_of_directory w = last_at c.done e e.0 refl (λ q within dir. within) (by (path_cases e.0))
    where
      own : BaseNode × Bool
      own = (e.1, mark known e.0 e.1)

      by : PathCases e.0 → map (λ a. Some a) (take (length e.0) ancestors ++ own ∷ []) ≡ map (above_at known nodes) (prefixes e.0)
      by (inr (q, name, is)) = ancestors_on w q name is
      by (inl is) =
          ap (λ (p : Path). map (λ a. Some a) (take (length p) ancestors ++ own ∷ [])) is
          ∙ (λ i. sym (sym (ap (above_at known nodes) is) ∙ stands_above) i ∷ [])
          ∙ ap (λ (p : Path). map (above_at known nodes) (prefixes p)) (sym is)

  line_of_leaf : IsWorkingCopy (get_in nodes) → is_dir (Some e.1) ≡ false → AreAncestors known nodes (c.done ++ e ∷ []) (take (length e.0) ancestors)
  line_of_leaf w leaf = by (path_cases e.0)
    where
      no_directory : (p : Path) → p ≡ e.0 → is_dir (get_in nodes p) ≡ true → ⊥
      no_directory p is dir = true≢false (sym dir ∙ ap (λ (q : Path). is_dir (get_in nodes q)) is ∙ ap is_dir stands ∙ leaf)

      by : PathCases e.0 → AreAncestors known nodes (c.done ++ e ∷ []) (take (length e.0) ancestors)
      by (inl is) = absurd (no_directory [] (sym is) w.root)
      by (inr (q, name, is)) = last_at c.done e q refl leads (kept w q name is)
        where
          other : (p : Path) → is_dir (get_in nodes p) ≡ true → (b : Bool) → path_eq p (child q name) ≡ b → b ≡ false
          other p dir false same = refl
          other p dir true same = absurd (no_directory p (same_path p (child q name) same ∙ sym is) dir)

          leads : LeadsTo nodes e.0 q
          leads p within dir =
              within_child p q name (ap (is_within p) (sym is) ∙ within) (other p dir (path_eq p (child q name)) refl)

  crawled_next : IsWorkingCopy (get_in nodes) → (o : Option (BaseNode × Bool))
      → o ≡ slice_get (take (length e.0) ancestors) (length (take (length e.0) ancestors) - 1) → (r2 : ReportView)
      → r2 ≡ with_reported r e.0 (entry_for e.0 (option_map (λ a. a.0) o) (Some e.1))
      → (line2 : List (BaseNode × Bool)) → AreAncestors known nodes (c.done ++ e ∷ []) line2 → IsCrawled known nodes line2 r2 left
  crawled_next w o same r2 made line2 next = record {
    done = c.done ++ e ∷ [];
    parts = c.parts ∙ append_one c.done e left;
    ancestors_are = next;
    root = ap (λ (v : ReportView). v.root) made ∙ same_root entry ∙ c.root;
    entries =
        ap (λ (v : ReportView). v.entries) made ∙ more entry
        ∙ (λ i. c.entries i ++ cons_option (option_map (λ entry. (e.0, entry)) (entry_is w o same i)) [])
        ∙ sym (filter_map-push (reported_at nodes) c.done e);
  }
    where
      entry : Option ReportEntry
      entry = entry_for e.0 (option_map (λ a. a.0) o) (Some e.1)

      same_root : (u : Option ReportEntry) → (with_reported r e.0 u).root ≡ r.root
      same_root None = refl
      same_root (Some x) = refl

      more : (u : Option ReportEntry) → (with_reported r e.0 u).entries ≡ r.entries ++ cons_option (option_map (λ entry. (e.0, entry)) u) []
      more None = sym (append-nil r.entries)
      more (Some x) = refl

-- the next node was reported below the last of the ancestors, cut to its depth; a directory is then appended to that
pub crawled_on : (known : Bool) (nodes : List (Path × BaseNode)) → InPathOrder nodes → IsWorkingCopy (get_in nodes)
    → (known ≡ true → IsUnswitched (get_in nodes)) → (ancestors : List (BaseNode × Bool))
    (r : ReportView) (e : Path × BaseNode) (all left : List (Path × BaseNode)) → all ≡ e ∷ left → IsCrawled known nodes ancestors r all
    → (r2 : ReportView) → Reports known r e.0 (last_of (take (length e.0) ancestors)) e.1 r2
    → (line2 : List (BaseNode × Bool))
    → line2 ≡ cond (is_dir (Some e.1)) (take (length e.0) ancestors ++ (e.1, mark known e.0 e.1) ∷ []) (take (length e.0) ancestors)
    → IsCrawled known nodes line2 r2 left
crawled_on known nodes order w unswitched ancestors r e all left step crawled r2 report line2 is = next line2 (by (is_dir (Some e.1)) refl)
  where
    kept : List (BaseNode × Bool)
    kept = take (length e.0) ancestors

    c : IsCrawled known nodes ancestors r (e ∷ left)
    c = subst (IsCrawled known nodes ancestors r) step crawled

    next : (line2 : List (BaseNode × Bool)) → AreAncestors known nodes (c.done ++ e ∷ []) line2 → IsCrawled known nodes line2 r2 left
    next =
        crawled_next known nodes order ancestors r e left c w (last_of kept) refl r2
        (report (next_below known nodes order ancestors r e left c w (last_of kept) refl)
        (next_unswitched known nodes order ancestors r e left c w unswitched (last_of kept) refl))

    by : (b : Bool) → is_dir (Some e.1) ≡ b → AreAncestors known nodes (c.done ++ e ∷ []) line2
    by true d =
        subst (AreAncestors known nodes (c.done ++ e ∷ [])) (sym (is ∙ ap (λ b. cond b (kept ++ (e.1, mark known e.0 e.1) ∷ []) kept) d))
        (line_of_directory known nodes order ancestors r e left c w)
    by false d =
        subst (AreAncestors known nodes (c.done ++ e ∷ [])) (sym (is ∙ ap (λ b. cond b (kept ++ (e.1, mark known e.0 e.1) ∷ []) kept) d))
        (line_of_leaf known nodes order ancestors r e left c w d)

-- ---- results

-- what a present node has as its repository path
pub path_is : (n : BaseNode) (p : Path) → Some p ≡ present_path n → p ≡ node_path (Some n)
path_is (FileNode r q t ps) p h = same_Some p q h
path_is (DirNode r q c ps) p h = same_Some p q h
path_is NotPresent p h = absurd cc
