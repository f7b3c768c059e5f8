-- The first repository, and what its readers may rely on in every repository.
use Rattle.std.proofs.Common.{◌≡◌, ℕ, zero, suc, ◌<◌, ◌≤◌, cond, List, [], ◌∷◌, length, map, refl, arith, Option, Some, None, subst, sym}
use Rattle.std.proofs.Common.{ap, ◌∙◌}
use Rattle.std.specs.Prelude.{nat_lt, nat_le, IsSome}
use Rattle.std.specs.List.{All, slice_get}
use Rattle.std.specs.Option.{option_and_then, option_map}
use Rattle.std.specs.Map.{keys_of, values_of}
use Rattle.std.proofs.Math.Dec.{leb-zero, leb-suc-zero}
use Rattle.std.proofs.lemmas.List.Elements.{All-nil, All-head, All-tail}
use Rattle.std.proofs.lemmas.Option.{slice_get_within}
use Rattle.svn_lists.proofs.Options.{and_then_parts}
use Rattle.svn_types.specs.declared.kind.Kind.TheVariants.{Directory}
use Rattle.svn_types.specs.Names.{Path, IsName}
use Rattle.svn_repo.specs.declared.store.Node.{Node}
use Rattle.svn_repo.specs.History.{NodeRow, Nodes, History, node_at, child_in, walk, look, empty_directory, new_history, IsDirectoryIn}
use Rattle.svn_repo.specs.History.{reaches}
use Rattle.svn_repo.specs.Readings.{IsHistory, StandsAt, AllNames, SmallValues, row_or_empty}
use Rattle.svn_types.specs.Limits.{path_limit, size_limit}
use Rattle.svn_repo.specs.Trees.{Place, place_of, place_at, tree_at}
use Rattle.svn_repo.specs.Stored.{row_of, rows, IsRepository, IsLawfulRow, IsLawfulPlace, IsHeight, AreHeights}
use Rattle.svn_name_map.proofs.Pairs.{in_order-nil}
use Rattle.svn_repo.proofs.Thawing.{walk_stays}
use Rattle.svn_repo.proofs.OldRevisions.{nodes_are}

-- ---- revision 0 alone

new_roots : (r n : ℕ) → slice_get (0 ∷ []) r ≡ Some n → IsDirectoryIn (empty_directory 0 ∷ []) n
new_roots zero n h = let e : 0 ≡ n = cc in subst (IsDirectoryIn (empty_directory 0 ∷ [])) e (empty_directory 0, refl, refl)
new_roots (suc r) n h = cc

new_closed : (n m : ℕ) (name : List ℕ) → child_in (slice_get (empty_directory 0 ∷ []) n) name ≡ Some m → m < 1
new_closed zero m name e = let bad : None ≡ Some m = e in cc
new_closed (suc n) m name e = let bad : None ≡ Some m = e in cc

new_rows : (n : ℕ) (row : NodeRow) → slice_get (empty_directory 0 ∷ []) n ≡ Some row → IsLawfulRow row
new_rows zero row e = let s : empty_directory 0 ≡ row = cc in
    subst IsLawfulRow s (record { leaf = λ k. refl; no_text = λ k. refl; in_order = in_order-nil ℕ; named = All-nil IsName })
new_rows (suc n) row e = cc

new_trees : (r : ℕ) (q : Path) (x : Place) → tree_at new_history r q ≡ Some x → IsLawfulPlace (λ l. Directory) 1 q x
new_trees zero [] x e =
    let s : place_of (Some 0) (empty_directory 0) ≡ x = cc in
    subst (IsLawfulPlace (λ l. Directory) 1 []) s (record {
      short = omega arith;
      props_in_order = in_order-nil ℕ;
      props_small = All-nil (λ v. length v ≤ size_limit);
      text_small = omega arith;
      line = omega arith;
      kind = refl;
      root_line = λ at_root. refl;
    })
new_trees zero (m ∷ q) x e = let bad : None ≡ Some x = e in cc
new_trees (suc r) q x e = let bad : None ≡ Some x = e in cc

pub new_sound : (roots : List ℕ) (nodes : List NodeRow) → roots ≡ 0 ∷ [] → nodes ≡ empty_directory 0 ∷ []
    → IsRepository (record { roots = roots; nodes = nodes; lines = 1 })
new_sound roots nodes rs ns = rw (rs, ns) (record {
  some_revision = omega arith;
  roots = new_roots;
  closed = new_closed;
  lines = omega arith;
  rows = new_rows;
  kinds = λ l. Directory;
  trees = new_trees;
})

leaf_height : (f : Nodes) (n line : ℕ) → f n ≡ Some (empty_directory line) → IsHeight f n 0
leaf_height f n line e = record { bounded = omega arith; exact = by }
  where
    by : (j : ℕ) → j ≤ path_limit → reaches f j n ≡ nat_le j 0
    by zero h = sym (leb-zero 0)
    by (suc j) h = rw e (sym (leb-suc-zero j))

pub first_heights : (nodes : List Node) (heights : List ℕ) → map row_of nodes ≡ empty_directory 0 ∷ [] → heights ≡ 0 ∷ []
    → AreHeights nodes heights
first_heights nodes heights e h = rw h (record { size = sym (one nodes e); each = at })
  where
    one : (ns : List Node) → map row_of ns ≡ empty_directory 0 ∷ [] → length ns ≡ 1
    one [] e = cc
    one (x ∷ []) e = refl
    one (x ∷ y ∷ ns) e = cc

    at : (n k : ℕ) → slice_get (0 ∷ []) n ≡ Some k → IsHeight (rows nodes) n k
    at zero k f = let s : 0 ≡ k = cc in subst (IsHeight (rows nodes) 0) s
        (leaf_height (rows nodes) 0 0 (sym (nodes_are nodes 0) ∙ ap (λ (ns : List NodeRow). slice_get ns 0) e))
    at (suc n) k f = cc

-- ---- what readers know

names_all : (es : List (List ℕ × ℕ)) → All IsName (keys_of es) → AllNames es
names_all [] all = tt
names_all (e ∷ es) all = (All-head IsName e.0 (keys_of es) all, names_all es (All-tail IsName e.0 (keys_of es) all))

values_all : (ps : List (List ℕ × List ℕ)) → All (λ v. length v ≤ size_limit) (values_of ps) → SmallValues ps
values_all [] all = tt
values_all (e ∷ ps) all = (
  All-head (λ v. length v ≤ size_limit) e.1 (values_of ps) all,
  values_all ps
      (All-tail (λ v. length v ≤ size_limit) e.1 (values_of ps) all),
)

some_is : (row : NodeRow) → IsSome (Some row)
some_is row = search

module _ (h : History) (sound : IsRepository h) where
  standing_in : (r n : ℕ) (p : Path) → StandsAt h r p n → n < length h.nodes
  standing_in r n p e =
      let s = and_then_parts (λ m. walk (node_at h) m p) (slice_get h.roots r) n e in
      let d = sound.roots r s.0 s.1 in
      walk_stays (λ k. k < length h.nodes) (node_at h) (λ k m x b f. sound.closed k m x f) s.0 n p
      (slice_get_within h.nodes s.0 d.0 d.1) s.2

  row_is : (o : Option NodeRow) (n : ℕ) → slice_get h.nodes n ≡ o → n < length h.nodes → o ≡ Some (row_or_empty o)
  row_is None n e b = let bad : length h.nodes ≤ n = none_past h.nodes n e in absurd (omega arith)
    where
      none_past : (xs : List NodeRow) (k : ℕ) → slice_get xs k ≡ None → length xs ≤ k
      none_past [] k e = omega arith
      none_past (x ∷ xs) zero e = cc
      none_past (x ∷ xs) (suc k) e = let r : length xs ≤ k = none_past xs k e in omega arith
  row_is (Some row) n e b = refl

  row_there : (r n : ℕ) (p : Path) → StandsAt h r p n → node_at h n ≡ Some (row_or_empty (node_at h n))
  row_there r n p e = row_is (node_at h n) n refl (standing_in r n p e)

  row_lawful : (r n : ℕ) (p : Path) → StandsAt h r p n → IsLawfulRow (row_or_empty (node_at h n))
  row_lawful r n p e = sound.rows n (row_or_empty (node_at h n)) (row_there r n p e)

  number : ℕ → Option ℕ
  number n = cond (nat_lt n (length h.nodes)) (Some n) None

  place_there : (r n : ℕ) (p : Path) → StandsAt h r p n
      → tree_at h r p ≡ Some (place_of (cond (nat_lt n (length h.nodes)) (Some n) None) (row_or_empty (node_at h n)))
  place_there r n p e = ap (option_and_then (place_at (node_at h) (length h.nodes))) e
      ∙ ap (option_map (place_of (cond (nat_lt n (length h.nodes)) (Some n) None))) (row_there r n p e)

  place_lawful : (r n : ℕ) (p : Path) → StandsAt h r p n
      → IsLawfulPlace sound.kinds h.lines p (place_of (cond (nat_lt n (length h.nodes)) (Some n) None) (row_or_empty (node_at h n)))
  place_lawful r n p e = sound.trees r p (place_of (cond (nat_lt n (length h.nodes)) (Some n) None) (row_or_empty (node_at h n)))
      (place_there r n p e)

  root_kind : (r n : ℕ) → StandsAt h r [] n → (row_or_empty (node_at h n)).kind ≡ Directory
  root_kind r n e =
      let s = and_then_parts (λ (m : ℕ). Some m) (slice_get h.roots r) n e in
      let same : s.0 ≡ n = let t : Some s.0 ≡ Some n = s.2 in cc in
      let d = sound.roots r n (s.1 ∙ ap Some same) in
      ap (λ o. (row_or_empty o).kind) d.1 ∙ d.2

  pub nodes_exist : (r : ℕ) (p : Path) (n : ℕ) → look h r p ≡ Some n → IsSome (node_at h n)
  nodes_exist r p n e = subst IsSome (sym (row_there r n p e)) (some_is (row_or_empty (node_at h n)))

  pub is_history : IsHistory h
  is_history = record {
    root_line = λ r n e. (place_lawful r n [] e).root_line refl;
    root_is_directory = root_kind;
    files_are_leaves = λ r p n e. (row_lawful r n p e).leaf;
    directories_without_text = λ r p n e. (row_lawful r n p e).no_text;
    one_line_one_kind = λ r s p q m n e f l. (place_lawful r m p e).kind ∙ ap sound.kinds l ∙ sym (place_lawful s n q f).kind;
    lines_below_next = λ r p n e. (place_lawful r n p e).line;
    entries_in_order = λ r p n e. (row_lawful r n p e).in_order;
    entries_named = λ r p n e. names_all (row_or_empty (node_at h n)).entries (row_lawful r n p e).named;
    props_in_order = λ r p n e. (place_lawful r n p e).props_in_order;
    props_small = λ r p n e. values_all (row_or_empty (node_at h n)).props (place_lawful r n p e).props_small;
    texts_small = λ r p n e. (place_lawful r n p e).text_small;
    paths_short = λ r p n e. (place_lawful r n p e).short;
  }
