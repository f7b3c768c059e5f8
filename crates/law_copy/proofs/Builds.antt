-- What is made or changed without a drive has the shape of a copy and is true; commits keep copies true.
use Rattle.std.proofs.Common.{◌≡◌, ◌≢◌, ℕ, zero, suc, ◌+◌, ◌<◌, ◌≤◌, Bool, true, false, ◌&&◌, ◌⊎◌, inl, inr, not, List, [], ◌∷◌, ◌++◌}
use Rattle.std.proofs.Common.{length, drop, refl, sym, ◌∙◌, ap, subst, true≢false, append_assoc, append-nil, length-append, arith}
use Rattle.std.specs.Prelude.{Option, Some, None, is_some, option_map, option_and_then, cond, nat_lt, slice_get, bytes_eq}
use Rattle.std.specs.Map.{keys_of}
use Rattle.std.proofs.lemmas.Bool.{and_parts, or_parts, ltb-false, not-false}
use Rattle.std.proofs.Math.Seq.{drop-append_seam}
use Rattle.svn_lists.proofs.Options.{cond_none, some_value}
use Rattle.svn_types.specs.Names.{Path}
use Rattle.svn_types.specs.Paths.{path_eq, is_within, is_root, child, parent, last_name}
use Rattle.svn_types.specs.declared.kind.Kind.{Kind}
use Rattle.svn_types.specs.declared.kind.Kind.TheVariants.{File, Directory}
use Rattle.svn_repo.specs.History.{History, NodeRow, node_at, walk, look}
use Rattle.svn_repo.specs.Readings.{IsHistory, kind_of, text_of, props_of, row_or_empty}
use Rattle.svn_types.specs.Limits.{path_limit}
use Rattle.svn_types.proofs.NameLemmas.{Name}
use Rattle.svn_types.proofs.PathLemmas.{same_path, path_eq-same, parent-child, split_within, within_append}
use Rattle.svn_repo.specs.Laws.{NodesExist}
use Rattle.svn_model.specs.declared.base_node.BaseNode.{BaseNode}
use Rattle.svn_model.specs.declared.base_node.BaseNode.TheVariants.{File as FileNode, Dir as DirNode, NotPresent}
use Rattle.svn_model.specs.declared.wc_fault.WcFault.TheVariants.{NoSuchRevision, Missing, NoParent, IsRoot, TooDeep, BadRoot}
use Rattle.svn_model.specs.Nodes.{WorkingCopy, IsWorkingCopy, HasEntries, IsTrueNode, IsTrueOf, is_present, is_dir, node_path}
use Rattle.svn_model.specs.Nodes.{base_node_by, base_node}
use Rattle.svn_model.specs.Builders.{checkout, placed, forgotten}
use Rattle.svn_model.specs.Effects.{joined_path}
use Rattle.svn_model.specs.Refusals.{is_missing_revision, is_nowhere, is_too_deep, is_file_kind, is_repos_file, checkout_fault}
use Rattle.svn_model.specs.Refusals.{forget_fault}
use Rattle.law_copy.specs.Laws.{EndsNamed}
use Rattle.law_copy.specs.CopyLaws.{KeepsCopy, commits_keep_copies_true, a_checkout_is_a_true_copy, placing_keeps_a_copy}
use Rattle.law_copy.specs.CopyLaws.{switching_keeps_a_copy, forgetting_keeps_a_copy}
use Rattle.law_copy.proofs.OneNode.{dir_present, present_stands}
use Rattle.law_copy.proofs.Parts.{outside_true, IsTree, tree_true, tree_parents, tree_names, tree_repos_paths, tree_paths}
use Rattle.law_copy.proofs.Parts.{replaced_shape}

-- ---- commits

module _ (h h' : History) (looks : (r : ℕ) (q : Path) → r < length h.roots → look h' r q ≡ look h r q)
    (nodes : (n : ℕ) → n < length h.nodes → node_at h' n ≡ node_at h n)
    (exist : NodesExist h) where
  inside : {X : Type 0} (xs : List X) (i : ℕ) → is_some (slice_get xs i) ≡ true → i < length xs
  inside [] i q = absurd (true≢false (sym q))
  inside (x ∷ xs) zero q = omega arith
  inside (x ∷ xs) (suc i) q = omega (arith, inside xs i q)

  still_looked : (r : ℕ) (q : Path) (n : ℕ) → look h r q ≡ Some n → look h' r q ≡ Some n
  still_looked r q n e = looks r q (inside h.roots r (by (slice_get h.roots r) e)) ∙ e
    where
      by : (o : Option ℕ) → option_and_then (λ m. walk (node_at h) m q) o ≡ Some n → is_some o ≡ true
      by None k = cc
      by (Some m) k = refl

  same_row : (r : ℕ) (q : Path) (n : ℕ) → look h r q ≡ Some n → row_or_empty (node_at h' n) ≡ row_or_empty (node_at h n)
  same_row r q n e = ap row_or_empty (nodes n (inside h.nodes n (exist r q n e)))

  still_true : (w : WorkingCopy) (p : Path) (found : Option BaseNode) → IsTrueNode h w p found → IsTrueNode h' w p found
  still_true w p None t = tt
  still_true w p (Some NotPresent) t = tt
  still_true w p (Some (FileNode r q text props)) t =
      let row = same_row r q t.0 t.1 in (
        t.0,
        still_looked r q t.0 t.1,
        record {
          kind = ap (λ (x : NodeRow). x.kind) row ∙ t.2.kind;
          same_text = t.2.same_text ∙ ap (λ (x : NodeRow). x.text) (sym row);
          same_props = t.2.same_props ∙ ap (λ (x : NodeRow). x.props) (sym row);
        },
      )
  still_true w p (Some (DirNode r q complete props)) t =
      let row = same_row r q t.0 t.1 in (
        t.0,
        still_looked r q t.0 t.1,
        record {
          kind = ap (λ (x : NodeRow). x.kind) row ∙ t.2.kind;
          same_props = λ c. t.2.same_props c ∙ ap (λ (x : NodeRow). x.props) (sym row);
          has_entries = λ c. subst (λ (x : NodeRow). HasEntries w p (keys_of x.entries)) (sym row) (t.2.has_entries c);
        },
      )

pub commits_keep : commits_keep_copies_true
commits_keep h h' changes w exist commit t p = still_true h h' commit.1.old_revisions commit.1.old_nodes exist w p (w p) (t p)

-- ---- checkouts

module _ (h : History) (q : Path) (r : ℕ) where
  own_tree : IsTree h (checkout h q r) [] q r
  own_tree s = refl

  checkout_true : IsTrueOf h (checkout h q r)
  checkout_true s = tree_true h (checkout h q r) [] q r own_tree s

  checkout_root : checkout_fault h q r ≡ None → is_dir (checkout h q r []) ≡ true
  checkout_root f =
      let one = cond_none (is_missing_revision h r) NoSuchRevision _ f in
      let two = cond_none (is_nowhere h q r) Missing _ one.1 in
      let three = cond_none (is_repos_file h (look h r q)) BadRoot None two.1 in
      ap (λ p. is_dir (option_map (base_node h r p) (look h r p))) (append-nil q) ∙ by (look h r q) two.0 three.0
    where
      dir : (k : Kind) (text : List ℕ) (props : List (List ℕ × List ℕ)) → is_file_kind k ≡ false
          → is_dir (Some (base_node_by k r q text props)) ≡ true
      dir File text props e = absurd (true≢false e)
      dir Directory text props e = refl

      by : (o : Option ℕ) → not (is_some o) ≡ false → is_repos_file h o ≡ false → is_dir (option_map (base_node h r q) o) ≡ true
      by None e k = absurd (true≢false e)
      by (Some n) e k = dir (kind_of h n) (text_of h n) (props_of h n) k

  checkout_shape : IsHistory h → checkout_fault h q r ≡ None → IsWorkingCopy (checkout h q r)
  checkout_shape history f = record {
    root = checkout_root f;
    parents = λ p name some. tree_parents h (checkout h q r) [] q r own_tree history p name some;
    names = λ p name some. tree_names h (checkout h q r) [] q r own_tree history p name some;
    repos_paths = λ p present. tree_repos_paths h (checkout h q r) [] q r own_tree history p present;
    paths = λ p present. tree_paths h (checkout h q r) [] q r own_tree history (omega arith) p present;
  }

pub checks_out : a_checkout_is_a_true_copy
checks_out h q r history f = (checkout_shape h q r history f, checkout_true h q r)

-- ---- places and switches

module _ (h : History) (w : WorkingCopy) (at q : Path) (r : ℕ) where
  abbrev new : WorkingCopy
  new = placed h w at q r

  new_tree : IsTree h new at q r
  new_tree s =
      ap (λ b. cond b (checkout h q r (drop (length at) (at ++ s))) (w (at ++ s))) (within_append at s)
      ∙ ap (checkout h q r) (drop-append_seam at s)

  new_outside : (p : Path) → is_within at p ≡ false → new p ≡ w p
  new_outside p e = ap (λ b. cond b (checkout h q r (drop (length at) p)) (w p)) e

  module _ (n : ℕ) (found : look h r q ≡ Some n) where
    there : new at ≢ None
    there none =
        no_node (sym
        (ap new (sym (append-nil at)) ∙ new_tree [] ∙ ap (λ p. option_map (base_node h r p) (look h r p)) (append-nil q)
        ∙ ap (option_map (base_node h r q)) found) ∙ none)
      where
        no_node : Some (base_node h r q n) ≡ None → ⊥
        no_node e = cc

    placed_true : IsTrueOf h w → IsTrueOf h new
    placed_true t p = by (is_within at p) refl
      where
        by : (b : Bool) → is_within at p ≡ b → IsTrueNode h new p (new p)
        by false e = outside_true h w new at new_outside there p e (t p)
        by true e =
            let z = split_within at p e in
            subst (λ x. IsTrueNode h new x (new x)) (sym z.1) (tree_true h new at q r new_tree z.0)

    placed_keeps : IsHistory h → IsWorkingCopy w → EndsNamed at → is_root at ≡ false → is_dir (w (parent at)) ≡ true
        → length at ≤ path_limit + length q → KeepsCopy h w new
    placed_keeps history shape named root above near = record {
      shape = replaced_shape w new at shape (record {
        not_root = root;
        outside = new_outside;
        above = λ p name e. ap (λ x. is_dir (w x)) (sym (ap parent e ∙ parent-child p name)) ∙ above;
        named = named;
        parents = λ s name some. tree_parents h new at q r new_tree history s name some;
        names = λ s name some. tree_names h new at q r new_tree history s name some;
        repos_paths = λ s present. tree_repos_paths h new at q r new_tree history s present;
        paths = λ s present. tree_paths h new at q r new_tree history near s present;
      });
      true_of = placed_true;
    }

pub switches : switching_keeps_a_copy
switches h w at q r history shape named f =
    let one = cond_none (is_root at) IsRoot _ f in
    let two = cond_none (is_missing_revision h r) NoSuchRevision _ one.1 in
    let three = cond_none (not (is_dir (w (parent at)))) NoParent _ two.1 in
    let four = cond_none (is_too_deep at q) TooDeep _ three.1 in
    let five = cond_none (is_nowhere h q r) Missing None four.1 in
    let there = some_value (look h r q) (not-false (is_some (look h r q)) five.0) in
    let deep = or_parts (nat_lt path_limit (length q)) (nat_lt (path_limit + length q) (length at)) four.0 in
    placed_keeps h w at q r there.0 there.1 history shape named one.0 (not-false (is_dir (w (parent at))) three.0)
    (ltb-false (path_limit + length q) (length at) deep.1)

-- the path under the parent's repository path is near enough
near_joined : (w : WorkingCopy) (at : Path) → IsWorkingCopy w → is_dir (w (parent at)) ≡ true
    → length at ≤ path_limit + length (joined_path w at)
near_joined w at shape above =
    let one : length (parent at) ≤ path_limit + length (node_path (w (parent at))) =
    shape.paths (parent at) (dir_present (w (parent at)) above) in
    let two : length (joined_path w at) ≡ length (node_path (w (parent at))) + length (last_name at) =
    length-append (node_path (w (parent at))) (last_name at) in
    let three : length at ≤ length (parent at) + length (last_name at) = parts at in
    omega arith
  where
    parts : (p : Path) → length p ≤ length (parent p) + length (last_name p)
    parts [] = omega arith
    parts (m ∷ []) = omega arith
    parts (m ∷ k ∷ p) = omega (arith, parts (k ∷ p))

pub places : placing_keeps_a_copy
places h w at r history shape named f =
    let one = cond_none (is_root at) IsRoot _ f in
    let two = cond_none (is_missing_revision h r) NoSuchRevision _ one.1 in
    let three = cond_none (not (is_dir (w (parent at)))) NoParent _ two.1 in
    let four = cond_none (is_nowhere h (joined_path w at) r) Missing None three.1 in
    let there = some_value (look h r (joined_path w at)) (not-false (is_some (look h r (joined_path w at))) four.0) in
    let above = not-false (is_dir (w (parent at))) three.0 in
    placed_keeps h w at (joined_path w at) r there.0 there.1 history shape named one.0 above (near_joined w at shape above)

-- ---- what is forgotten

module _ (w : WorkingCopy) (at : Path) where
  abbrev left : WorkingCopy
  left = forgotten w at

  eq_within : (p q : Path) → path_eq p q ≡ true → is_within p q ≡ true
  eq_within [] [] e = refl
  eq_within [] (n ∷ q) e = refl
  eq_within (m ∷ p) [] e = e
  eq_within (m ∷ p) (n ∷ q) e =
      let parts = and_parts (bytes_eq m n) (path_eq p q) e in
      ap (λ b. b && is_within p q) parts.0 ∙ eq_within p q parts.1

  left_outside : (p : Path) → is_within at p ≡ false → left p ≡ w p
  left_outside p e =
      ap (λ b. cond b (Some NotPresent) (cond (is_within at p) None (w p))) (by (path_eq at p) refl)
      ∙ ap (λ b. cond b None (w p)) e
    where
      by : (b : Bool) → path_eq at p ≡ b → b ≡ false
      by true k = sym (eq_within at p k) ∙ e
      by false k = refl

  left_here : left at ≡ Some NotPresent
  left_here = ap (λ b. cond b (Some NotPresent) (cond (is_within at at) None (w at))) (path_eq-same at)

  -- within the path nothing is present, and below it there is nothing
  left_within : (p : Path) → is_within at p ≡ true → (left p ≡ Some NotPresent) ⊎ (left p ≡ None)
  left_within p e = by (path_eq at p)
    where
      by : (b : Bool)
          → (cond b (Some NotPresent) (cond (is_within at p) None (w p)) ≡ Some NotPresent)
          ⊎ (cond b (Some NotPresent) (cond (is_within at p) None (w p)) ≡ None)
      by true = inl refl
      by false = inr (ap (λ b. cond b None (w p)) e)

  forgotten_true : (h : History) → IsTrueOf h w → IsTrueOf h left
  forgotten_true h t p = by (is_within at p) refl
    where
      there : left at ≢ None
      there none = no_node (sym left_here ∙ none)
        where
          no_node : Some NotPresent ≡ None → ⊥
          no_node e = cc

      by : (b : Bool) → is_within at p ≡ b → IsTrueNode h left p (left p)
      by false e = outside_true h w left at left_outside there p e (t p)
      by true e = at_end (left_within p e)
        where
          at_end : (left p ≡ Some NotPresent) ⊎ (left p ≡ None) → IsTrueNode h left p (left p)
          at_end (inl k) = subst (IsTrueNode h left p) (sym k) tt
          at_end (inr k) = subst (IsTrueNode h left p) (sym k) tt

  module _ (shape : IsWorkingCopy w) (f : forget_fault w at ≡ None) where
    present_at : is_present (w at) ≡ true
    present_at = not-false (is_present (w at)) (cond_none (not (is_present (w at))) Missing None (cond_none (is_root at) IsRoot _ f).1).0

    -- nothing is a child of what isn't present
    no_child : (s : Path) (name : Name) → left (child (at ++ s) name) ≢ None → ⊥
    no_child s name some = by (path_eq at (child (at ++ s) name)) refl
      where
        within : is_within at (child (at ++ s) name) ≡ true
        within = ap (is_within at) (append_assoc at s (name ∷ [])) ∙ within_append at (child s name)

        longer : at ≡ child (at ++ s) name → ⊥
        longer e =
            let one : length at ≡ length (child (at ++ s) name) = ap length e in
            let two : length (child (at ++ s) name) ≡ length (at ++ s) + 1 = length-append (at ++ s) (name ∷ []) in
            let three : length (at ++ s) ≡ length at + length s = length-append at s in
            absurd (omega arith)

        by : (b : Bool) → path_eq at (child (at ++ s) name) ≡ b → ⊥
        by true e = longer (same_path at (child (at ++ s) name) e)
        by false e =
            some (ap (λ b. cond b (Some NotPresent) (cond (is_within at (child (at ++ s) name)) None (w (child (at ++ s) name)))) e
            ∙ ap (λ b. cond b None (w (child (at ++ s) name))) within)

    absent : (s : Path) → is_present (left (at ++ s)) ≡ true → ⊥
    absent s present = by (left_within (at ++ s) (within_append at s))
      where
        by : (left (at ++ s) ≡ Some NotPresent) ⊎ (left (at ++ s) ≡ None) → ⊥
        by (inl k) = true≢false (sym present ∙ ap is_present k)
        by (inr k) = true≢false (sym present ∙ ap is_present k)

    forgotten_shape : IsWorkingCopy left
    forgotten_shape = replaced_shape w left at shape (record {
      not_root = (cond_none (is_root at) IsRoot _ f).0;
      outside = left_outside;
      above = λ p name e. shape.parents p name (λ none. present_stands (w at) present_at (ap w e ∙ none));
      named = λ p name e. shape.names p name (λ none. present_stands (w at) present_at (ap w e ∙ none));
      parents = λ s name some. absurd (no_child s name some);
      names = λ s name some. absurd (no_child s name some);
      repos_paths = λ s present. absurd (absent s present);
      paths = λ s present. absurd (absent s present);
    })

pub forgets : forgetting_keeps_a_copy
forgets h w at shape f = record { shape = forgotten_shape w at shape f; true_of = forgotten_true w at h }
