-- The revisions that a draft is made over, read from the nodes that have the draft's after them.
use Rattle.std.proofs.Common.{◌≡◌, ℕ, zero, suc, ◌+◌, ◌-◌, ◌<◌, ◌≤◌, true, false, cond, List, [], ◌∷◌, ◌++◌, length, take, map}
use Rattle.std.proofs.Common.{refl, arith, Option, Some, None, subst, sym, ap, ◌∙◌, length-take, inl, inr}
use Rattle.std.specs.Prelude.{nat_lt, nat_le, IsSome}
use Rattle.std.specs.List.{slice_get}
use Rattle.std.specs.Option.{option_and_then, option_map, option_or, is_some}
use Rattle.std.proofs.lemmas.Bool.{cases_lt, lt-ltb, le-ltb, le-leb, lt-leb}
use Rattle.std.proofs.lemmas.Option.{slice_get-map, slice_get_within}
use Rattle.std.proofs.lemmas.List.{length-map}
use Rattle.svn_lists.proofs.Options.{and_then_parts, and_then_same}
use Rattle.svn_lists.proofs.Places.{take_from_places, slice_get-take, slice_get_in}
use Rattle.svn_repo.specs.declared.store.Node.{Node}
use Rattle.svn_repo.specs.declared.change.Change.{Change}
use Rattle.svn_repo.specs.declared.change.CommitFault.{CommitFault}
use Rattle.svn_repo.specs.declared.change.CommitFault.TheVariants.{Exists, NoSuchRevision, TooDeep}
use Rattle.svn_types.specs.Names.{Path}
use Rattle.svn_repo.specs.History.{History, Nodes, node_at, child_in, walk, look, reaches}
use Rattle.svn_types.specs.Limits.{path_limit}
use Rattle.svn_repo.specs.Stored.{row_of, rows, history_of, IsHeight}
use Rattle.svn_repo.specs.Trees.{Tree, place_of, place_at, tree_at}
use Rattle.svn_repo.specs.Drafts.{KeepsOld, AreRootsBelow, IsOldPart, IsPast, look_in, past_in, tree_in}
use Rattle.svn_repo.specs.Changes.{pending_in, change_fault, root_fault, above_fault, missing_fault, walk_fault, revision_fault, copy_fault}
use Rattle.svn_repo.specs.Changes.{copy_depth_fault, fault_if}
use Rattle.svn_repo.proofs.Walking.{walk_on}
use Rattle.svn_repo.proofs.Thawing.{walk_stays, walk_same}
use Rattle.svn_repo.proofs.Faults.{above_same}

-- the nodes of a history by their numbers
pub nodes_are : (nodes : List Node) (n : ℕ) → slice_get (map row_of nodes) n ≡ rows nodes n
nodes_are nodes n = slice_get-map row_of nodes n

pub past_rows : (base : ℕ) (roots : List ℕ) (nodes : List Node) (l : ℕ) → node_at (past_in base roots nodes l) ≡ rows (take base nodes)
past_rows base roots nodes l = λ i n. nodes_are (take base nodes) n i

is_some_from : (o : Option ℕ) (x : ℕ) → o ≡ Some x → IsSome o
is_some_from None x e = cc
is_some_from (Some y) x e = search

module _ (base : ℕ) (roots : List ℕ) (nodes : List Node) (inside : base ≤ length nodes) (roots_in : AreRootsBelow base roots)
    (closed : (n m : ℕ) (name : List ℕ) → n < base → child_in (rows nodes n) name ≡ Some m → m < base) where
  past_node : (l n : ℕ) → n < base → node_at (past_in base roots nodes l) n ≡ rows nodes n
  past_node l n h = nodes_are (take base nodes) n ∙ ap (option_map row_of) (slice_get-take nodes base n h)

  past_size : (l : ℕ) → length (past_in base roots nodes l).nodes ≡ base
  past_size l = simp (length-map, length-take) (omega arith)

  past_walk : (l n : ℕ) (q : Path) → n < base → walk (node_at (past_in base roots nodes l)) n q ≡ walk (rows nodes) n q
  past_walk l = walk_same (λ k. k < base) (rows nodes) (node_at (past_in base roots nodes l)) (λ k m x h e. closed k m x h e) (past_node l)

  pub past_look : (l r : ℕ) (q : Path) → look (past_in base roots nodes l) r q ≡ look_in nodes roots r q
  past_look l r q = and_then_same (λ n. walk (node_at (past_in base roots nodes l)) n q) (λ n. walk (rows nodes) n q) (slice_get roots r)
      (λ n e. past_walk l n q (roots_in r n e))

  pub looked_in : (r n : ℕ) (q : Path) → look_in nodes roots r q ≡ Some n → n < base
  looked_in r n q e =
      let s = and_then_parts (λ m. walk (rows nodes) m q) (slice_get roots r) n e in
      walk_stays (λ k. k < base) (rows nodes) (λ k m x h e. closed k m x h e) s.0 n q (roots_in r s.0 s.1) s.2

  past_place : (l n : ℕ) → n < base → place_at (node_at (past_in base roots nodes l))
      (length (past_in base roots nodes l).nodes) n ≡ place_at (rows nodes) base n
  past_place l n h =
      ap (λ b. option_map (place_of (cond (nat_lt n b) (Some n) None)) (node_at (past_in base roots nodes l) n)) (past_size l)
      ∙ ap (option_map (place_of (cond (nat_lt n base) (Some n) None))) (past_node l n h)

  pub past_tree : (l r : ℕ) (q : Path) → tree_at (past_in base roots nodes l) r q ≡ option_and_then (place_at (rows nodes) base)
      (look_in nodes roots r q)
  past_tree l r q =
      ap (option_and_then (place_at (node_at (past_in base roots nodes l)) (length (past_in base roots nodes l).nodes))) (past_look l r q)
      ∙ and_then_same (place_at (node_at (past_in base roots nodes l)) (length (past_in base roots nodes l).nodes))
      (place_at (rows nodes) base) (look_in nodes roots r q) (λ n e. past_place l n (looked_in r n q e))

  pub tree_below_top : (l r top : ℕ) → slice_get roots r ≡ Some top → (q : Path)
      → tree_at (past_in base roots nodes l) r q ≡ tree_in base nodes top q
  tree_below_top l r top e q = past_tree l r q ∙ ap (λ o. option_and_then (place_at (rows nodes) base)
      (option_and_then (λ n. walk (rows nodes) n q) o)) e

  -- below the source of a copy is what is below its node
  pub copied_part : (l r node : ℕ) (source : Path) → look_in nodes roots r source ≡ Some node
      → (λ (q : Path). tree_at (past_in base roots nodes l) r (source ++ q)) ≡ tree_in base nodes node
  copied_part l r node source e = λ i q. at q i
    where
      at : (q : Path) → tree_at (past_in base roots nodes l) r (source ++ q) ≡ tree_in base nodes node q
      at q =
          let s = and_then_parts (λ m. walk (rows nodes) m source) (slice_get roots r) node e in
          tree_below_top l r s.0 s.1 (source ++ q) ∙ ap (option_and_then (place_at (rows nodes) base))
          (walk_on (rows nodes) s.0 node source q s.2)

  -- what is at the source of a copy is a node
  pub source_found : (l r : ℕ) (source : Path) → is_some (tree_at (past_in base roots nodes l) r source) ≡ true
      → IsSome (look_in nodes roots r source)
  source_found l r source h = by (look_in nodes roots r source) refl
    where
      by : (o : Option ℕ) → look_in nodes roots r source ≡ o → IsSome (look_in nodes roots r source)
      by None e = let bad : false ≡ true = sym (ap is_some (past_tree l r source ∙ ap (option_and_then (place_at (rows nodes) base)) e))
          ∙ h in cc
      by (Some n) e = is_some_from (look_in nodes roots r source) n e

  -- the fault of a copy from a revision that exists
  pub copy_fault_from : (l r top : ℕ) (t : Tree) (source path : Path) → slice_get roots r ≡ Some top
      → copy_fault (past_in base roots nodes l) t r source path ≡ option_or (walk_fault (tree_in base nodes top) source)
      (option_or (above_fault t path) (option_or (fault_if (is_some (t path)) Exists)
      (copy_depth_fault (rows (take base nodes)) (walk (rows nodes) top source) path)))
  copy_fault_from l r top t source path e =
      let there : nat_le (length roots) r ≡ false = (let h : r < length roots = slice_get_within roots r top e in
      lt-leb (length roots) r h) in
      let revision : revision_fault (past_in base roots nodes l) r ≡ None = ap (λ b. fault_if b NoSuchRevision) there in
      let above : above_fault (tree_at (past_in base roots nodes l) r) source ≡ above_fault (tree_in base nodes top) source =
      above_same _ _ source (tree_below_top l r top e) in
      let here : missing_fault (tree_at (past_in base roots nodes l) r source) ≡ missing_fault (tree_in base nodes top source) =
      ap missing_fault (tree_below_top l r top e source) in
      let found : look (past_in base roots nodes l) r source ≡ walk (rows nodes) top source = past_look l r source
      ∙ ap (option_and_then (λ n. walk (rows nodes) n source)) e in
      let depth : copy_depth_fault (node_at (past_in base roots nodes l))
      (look (past_in base roots nodes l) r source) path ≡ copy_depth_fault (rows (take base nodes))
      (walk (rows nodes) top source) path =
      ap (λ (f : Nodes). copy_depth_fault f (look (past_in base roots nodes l) r source) path) (past_rows base roots nodes l)
      ∙ ap (λ o. copy_depth_fault (rows (take base nodes)) o path) found in
      ap (λ o. option_or o (option_or (walk_fault (tree_at (past_in base roots nodes l) r) source)
      (option_or (above_fault t path) (option_or (fault_if (is_some (t path)) Exists)
      (copy_depth_fault (node_at (past_in base roots nodes l)) (look (past_in base roots nodes l) r source) path))))) revision
      ∙ ap (λ o. option_or (option_or o (missing_fault (tree_at (past_in base roots nodes l) r source)))
      (option_or (above_fault t path) (option_or (fault_if (is_some (t path)) Exists)
      (copy_depth_fault (node_at (past_in base roots nodes l)) (look (past_in base roots nodes l) r source) path)))) above
      ∙ ap (λ o. option_or (option_or (above_fault (tree_in base nodes top) source) o)
      (option_or (above_fault t path) (option_or (fault_if (is_some (t path)) Exists)
      (copy_depth_fault (node_at (past_in base roots nodes l)) (look (past_in base roots nodes l) r source) path)))) here
      ∙ ap (λ o. option_or (walk_fault (tree_in base nodes top) source)
      (option_or (above_fault t path) (option_or (fault_if (is_some (t path)) Exists) o))) depth

-- the fault of a copy from a revision that doesn't exist
pub copy_fault_nowhere : (h : History) (t : Tree) (r : ℕ) (source path : Path) → slice_get h.roots r ≡ None
    → copy_fault h t r source path ≡ Some NoSuchRevision
copy_fault_nowhere h t r source path e =
    let past : length h.roots ≤ r = none_past h.roots r e in
    ap (λ b. option_or (fault_if b NoSuchRevision) (option_or (walk_fault (tree_at h r) source)
    (option_or (above_fault t path) (option_or (fault_if (is_some (t path)) Exists)
    (copy_depth_fault (node_at h) (look h r source) path))))) (le-leb (length h.roots) r past)
  where
    none_past : (xs : List ℕ) (k : ℕ) → slice_get xs k ≡ None → length xs ≤ k
    none_past [] k e = omega arith
    none_past (x ∷ xs) zero e = cc
    none_past (x ∷ xs) (suc k) e = let r : length xs ≤ k = none_past xs k e in omega arith

-- ---- depth

within_limit : (a k : ℕ) → 1 ≤ a → nat_le (path_limit + 1 - a) k ≡ nat_lt path_limit (a + k)
within_limit a k h = elim (cases_lt 64 (a + k)) [
  | inl below ↦ le-leb (65 - a) k (omega arith) ∙ sym (lt-ltb 64 (a + k) below)
  | inr above ↦ lt-leb (65 - a) k (omega arith) ∙ sym (le-ltb 64 (a + k) above)
]

-- the test by a height is the test of what is below
pub depth_by_height : (f : Nodes) (n k : ℕ) (p : Path) → 1 ≤ length p → IsHeight f n k
    → nat_lt path_limit (length p + k) ≡ reaches f (path_limit + 1 - length p) n
depth_by_height f n k p h height = sym (height.exact (path_limit + 1 - length p) (omega arith) ∙ within_limit (length p) k h)

some_name : (p : Path) → root_fault p ≡ None → 1 ≤ length p
some_name [] e = cc
some_name (x ∷ p) e = omega arith

-- a fault by the node's height is that of its copy's depth
pub copy_depth_by_height : (heights : List ℕ) (nodes : List Node) (n : ℕ) (p : Path) (fault : Option CommitFault)
    → IsOldPart heights nodes → root_fault p ≡ None → n < length heights
    → ((k : ℕ) → slice_get heights n ≡ Some k → fault ≡ fault_if (nat_lt path_limit (length p + k)) TooDeep)
    → fault ≡ copy_depth_fault (rows (take (length heights) nodes)) (Some n) p
copy_depth_by_height heights nodes n p fault old not_root inside test =
    let k = slice_get_in heights n inside in
    test k.0 k.1 ∙ ap (λ b. fault_if b TooDeep) (depth_by_height (rows (take (length heights) nodes)) n k.0 p (some_name p not_root)
    (old.known n k.0 k.1))

pub old_in : (heights : List ℕ) (nodes : List Node) (top n : ℕ) (source : Path) → IsOldPart heights nodes → top < length heights
    → walk (rows nodes) top source ≡ Some n → n < length heights
old_in heights nodes top n source old inside e = walk_stays (λ k. k < length heights) (rows nodes)
    (λ k m x h f. old.closed k m x h f) top n source inside e

-- ---- a draft keeps what it is made over

pub past_is : (roots : List ℕ) (base : ℕ) (old mid : List Node) (l : ℕ) → base ≡ length old → KeepsOld (length old) old mid
    → past_in base roots mid l ≡ history_of roots old l
past_is roots base old mid l size kept = ap (λ b. past_in b roots mid l) size
    ∙ ap (λ nodes. history_of roots nodes l) (take_from_places old mid kept.grown kept.same)

pub past_kept : (roots heights : List ℕ) (old mid : List Node) → length heights ≡ length old → IsPast roots heights old
    → KeepsOld (length old) old mid → IsPast roots heights mid
past_kept roots heights old mid size past kept = record {
  roots_in = past.roots_in;
  old = record {
    inside = omega (arith, kept.grown);
    closed = λ n m name h e. past.old.closed n m name h (ap (λ o. child_in (option_map row_of o) name) (sym (kept.same n (omega arith)))
        ∙ e);
    known = λ n k e. subst (λ (nodes : List Node). IsHeight (rows nodes) n k) same (past.old.known n k e);
  };
}
  where
    same : take (length heights) old ≡ take (length heights) mid
    same = ap (λ k. take k old) size ∙ take_from_places old old (omega arith) (λ m h. refl)
        ∙ sym (take_from_places old mid kept.grown kept.same)
        ∙ ap (λ k. take k mid) (sym size)

-- a fault asked of the nodes with the draft after them is that of the history
pub fault_is : (roots heights : List ℕ) (old mid nodes : List Node) → nodes ≡ mid → length heights ≡ length old
    → KeepsOld (length old) old mid → (l top next : ℕ) (c : Change)
    → change_fault (past_in (length heights) roots nodes l) (pending_in (length heights) nodes top next) c ≡ change_fault
    (history_of roots old l) (pending_in (length old) mid top next) c
fault_is roots heights old mid nodes same size kept l top next c =
    ap (λ (v : List Node). change_fault (past_in (length heights) roots v l) (pending_in (length heights) v top next) c) same
    ∙ ap (λ (h : History). change_fault h (pending_in (length heights) mid top next) c) (past_is roots (length heights) old mid l size kept)
    ∙ ap (λ (b : ℕ). change_fault (history_of roots old l) (pending_in b mid top next) c) size
