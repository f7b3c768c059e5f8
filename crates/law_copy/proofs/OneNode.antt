-- The shape of a copy after one node was changed, after a delete and after the end.
use Rattle.std.proofs.Common.{◌≡◌, ◌≢◌, ℕ, ◌+◌, ◌≤◌, Bool, true, false, cond, ◌&&◌, List, [], ◌∷◌, ◌++◌, length, refl, sym, ◌∙◌, ap, subst}
use Rattle.std.proofs.Common.{true≢false, arith}
use Rattle.std.specs.Prelude.{Option, Some, None, nat_lt}
use Rattle.std.specs.List.{list_any}
use Rattle.std.specs.BTreeMap.{is_at}
use Rattle.std.proofs.lemmas.Bool.Decides.{nat_tests}
use Rattle.std.proofs.lemmas.List.{length-append}
use Rattle.std.proofs.lemmas.Option.{same_Some}
use Rattle.std.proofs.lemmas.Bool.{or_parts}
use Rattle.svn_types.specs.Names.{Path, IsName, path_cmp}
use Rattle.svn_types.specs.Paths.{path_eq, is_within, is_root, child, parent, last_name}
use Rattle.svn_types.specs.Limits.{path_limit}
use Rattle.svn_types.proofs.PathLemmas.{same_path, is_within-longer}
use Rattle.svn_types.proofs.PathsInOrder.{at_path}
use Rattle.svn_editor.specs.declared.mode.Mode.{Mode}
use Rattle.svn_editor.specs.declared.mode.Mode.TheVariants.{Update, SwitchTo}
use Rattle.svn_model.specs.declared.base_node.BaseNode.{BaseNode}
use Rattle.svn_model.specs.declared.base_node.BaseNode.TheVariants.{File as FileNode, Dir as DirNode, NotPresent}
use Rattle.svn_model.specs.Nodes.{WorkingCopy, IsWorkingCopy, get_in, is_dir, is_present, node_path}
use Rattle.svn_model.specs.Effects.{joined_path, moved_path, settled, is_settled_deep}

-- ---- parts of paths

pub split_last : (m : List ℕ) (p : Path) → (n : List ℕ) × (m ∷ p ≡ child (parent (m ∷ p)) n)
split_last m [] = (m, refl)
split_last m (k ∷ p) = let r = split_last k p in (r.0, ap (λ (q : Path). m ∷ q) r.1)

pub parts_length : (p : Path) → length p ≡ length (parent p) + length (last_name p)
parts_length [] = refl
parts_length (m ∷ []) = refl
parts_length (m ∷ k ∷ p) = let r = parts_length (k ∷ p) in omega (arith, r)

-- ---- nodes

pub dir_present : (o : Option BaseNode) → is_dir o ≡ true → is_present o ≡ true
dir_present (Some (DirNode r q c ps)) h = refl
dir_present o h = absurd (true≢false (sym h))

pub present_stands : (o : Option BaseNode) → is_present o ≡ true → o ≢ None
present_stands o h none = true≢false (sym h ∙ ap is_present none)

pub short_enough : (n : ℕ) → nat_lt path_limit n ≡ false → n ≤ path_limit
short_enough n h = grind (arith, nat_tests)

-- a path and the repository path of what is there
abbrev pub Fits : Path → Option BaseNode → Type 0
Fits p o = (length (node_path o) ≤ path_limit) × (length p ≤ path_limit + length (node_path o))

module _ (w : WorkingCopy) (s : IsWorkingCopy w) where
  pub parent_dir : (p : Path) → w p ≢ None → is_dir (w (parent p)) ≡ true
  parent_dir [] some = s.root
  parent_dir (m ∷ p) some =
      let r = split_last m p in
      s.parents (parent (m ∷ p)) r.0 (λ none. some (ap w r.1 ∙ none))

  pub above_old : (p : Path) → w p ≢ None → (q : Path) (name : List ℕ) → p ≡ child q name → (is_dir (w q) ≡ true) × IsName name
  above_old p some q name e =
      let stands : w (child q name) ≢ None = λ none. some (ap w e ∙ none) in
      (s.parents q name stands, s.names q name stands)

  pub joined_fits : (p : Path) → is_dir (w (parent p)) ≡ true → length p ≤ path_limit + length (joined_path w p)
  joined_fits p h =
      let l = length-append (node_path (w (parent p))) (last_name p) in
      let k = s.paths (parent p) (dir_present (w (parent p)) h) in
      let m = parts_length p in
      omega (arith, l, k, m)

  pub moved_fits : (mode : Mode) (p : Path) → is_present (w p) ≡ true
      → length p ≤ path_limit + length (moved_path mode w p (node_path (w p)))
  moved_fits Update p h = s.paths p h
  moved_fits (SwitchTo root) [] h = omega arith
  moved_fits (SwitchTo root) (m ∷ p) h = joined_fits (m ∷ p) (parent_dir (m ∷ p) (present_stands (w (m ∷ p)) h))

  module _ (p : Path) (new : Option BaseNode) (w2 : WorkingCopy) (is : (q : Path) → w2 q ≡ cond (path_eq p q) new (w q))
      (dir : is_dir (w p) ≡ true → is_dir new ≡ true)
      (above : new ≢ None → (q : Path) (name : List ℕ) → p ≡ child q name → (is_dir (w q) ≡ true) × IsName name)
      (fits : is_present new ≡ true → Fits p new) where
    dir_stays : (q : Path) → is_dir (w q) ≡ true → is_dir (w2 q) ≡ true
    dir_stays q h = ap is_dir (is q) ∙ by (path_eq p q) refl
      where
        by : (b : Bool) → path_eq p q ≡ b → is_dir (cond b new (w q)) ≡ true
        by true e = dir (ap (λ (x : Path). is_dir (w x)) (same_path p q e) ∙ h)
        by false e = h

    stands : (q : Path) (name : List ℕ) → w2 (child q name) ≢ None → (is_dir (w q) ≡ true) × IsName name
    stands q name some = by (path_eq p (child q name)) refl (is (child q name))
      where
        by : (b : Bool) → path_eq p (child q name) ≡ b → w2 (child q name) ≡ cond b new (w (child q name))
            → (is_dir (w q) ≡ true) × IsName name
        by true e k = above (λ none. some (k ∙ none)) q name (same_path p (child q name) e)
        by false e k = above_old (child q name) (λ none. some (k ∙ none)) q name refl

    short : (q : Path) → is_present (w2 q) ≡ true → Fits q (w2 q)
    short q h = by (path_eq p q) refl (is q)
      where
        by : (b : Bool) → path_eq p q ≡ b → w2 q ≡ cond b new (w q) → Fits q (w2 q)
        by true e k =
            let f = fits (sym (ap is_present k) ∙ h) in
            subst (Fits q) (sym k) (subst (λ (x : Path). Fits x new) (same_path p q e) f)
        by false e k =
            let f = sym (ap is_present k) ∙ h in
            subst (Fits q) (sym k) (s.repos_paths q f, s.paths q f)

    pub one_changed : IsWorkingCopy w2
    one_changed = record {
      root = dir_stays [] s.root;
      parents = λ q name some. dir_stays q (stands q name some).0;
      names = λ q name some. (stands q name some).1;
      repos_paths = λ q h. (short q h).0;
      paths = λ q h. (short q h).1;
    }

  -- ---- a delete

  module _ (p : Path) (below : is_root p ≡ false) (w2 : WorkingCopy) (is : (q : Path) → cond (is_within p q) None (w q) ≡ w2 q) where
    kept : (q : Path) → w2 q ≢ None → (is_within p q ≡ false) × (w q ≡ w2 q)
    kept q some = by (is_within p q) refl (is q)
      where
        by : (b : Bool) → is_within p q ≡ b → cond b None (w q) ≡ w2 q → (is_within p q ≡ false) × (w q ≡ w2 q)
        by true e k = absurd (some (sym k))
        by false e k = (e, k)

    stays : (q : Path) → is_within p q ≡ false → w q ≡ w2 q
    stays q h = sym (ap (λ b. cond b None (w q)) h) ∙ is q

    root_apart : (p : Path) → is_root p ≡ false → is_within p [] ≡ false
    root_apart [] h = absurd (true≢false h)
    root_apart (m ∷ p) h = refl

    parent_apart : (q : Path) (name : List ℕ) → is_within p (child q name) ≡ false → is_within p q ≡ false
    parent_apart q name h = by (is_within p q) refl
      where
        by : (b : Bool) → is_within p q ≡ b → b ≡ false
        by true e = sym (is_within-longer p q name e) ∙ h
        by false e = refl

    pub deleted_shape : IsWorkingCopy w2
    deleted_shape = record {
      root = ap is_dir (sym (stays [] (root_apart p below))) ∙ s.root;
      parents = λ q name some.
          let k = kept (child q name) some in
          ap is_dir (sym (stays q (parent_apart q name k.0))) ∙ s.parents q name (λ none. some (sym k.1 ∙ none));
      names = λ q name some. let k = kept (child q name) some in s.names q name (λ none. some (sym k.1 ∙ none));
      repos_paths =
          λ q h. let k = kept q (present_stands (w2 q) h) in
          subst (λ o. length (node_path o) ≤ path_limit) k.1 (s.repos_paths q (ap is_present k.1 ∙ h));
      paths =
          λ q h. let k = kept q (present_stands (w2 q) h) in
          subst (λ o. length q ≤ path_limit + length (node_path o)) k.1 (s.paths q (ap is_present k.1 ∙ h));
    }

-- ---- the end

pub settled_present : (mode : Mode) (target : ℕ) (p : Path) (o : Option BaseNode) → settled mode target p o ≢ None → is_present o ≡ true
settled_present mode target p (Some (FileNode r q text props)) h = refl
settled_present mode target p (Some (DirNode r q complete props)) h = refl
settled_present mode target p (Some NotPresent) h = absurd (h refl)
settled_present mode target p None h = absurd (h refl)

pub settled_is_dir : (mode : Mode) (target : ℕ) (p : Path) (o : Option BaseNode) → is_dir o ≡ true → is_dir (settled mode target p o) ≡ true
settled_is_dir mode target p (Some (DirNode r q c ps)) h = refl
settled_is_dir mode target p o h = absurd (true≢false (sym h))

update_path : (target : ℕ) (p : Path) (o : Option BaseNode) → is_present o ≡ true → node_path (settled Update target p o) ≡ node_path o
update_path target p (Some (FileNode r q text props)) h = refl
update_path target p (Some (DirNode r q complete props)) h = refl
update_path target p o h = absurd (true≢false (sym h))

switch_path : (root : Path) (target : ℕ) (p : Path) (o : Option BaseNode) → is_present o ≡ true
    → node_path (settled (SwitchTo root) target p o) ≡ root ++ p
switch_path root target p (Some (FileNode r q text props)) h = refl
switch_path root target p (Some (DirNode r q complete props)) h = refl
switch_path root target p o h = absurd (true≢false (sym h))

-- a node passes the test of the whole list
pub none_deep : (mode : Mode) (nodes : List (Path × BaseNode)) → list_any (is_settled_deep mode) nodes ≡ false → (p : Path) (n : BaseNode)
    → get_in nodes p ≡ Some n → is_settled_deep mode (p, n) ≡ false
none_deep mode [] h p n e = absurd (none e)
  where
    none : None ≡ Some n → ⊥
    none k = cc
none_deep mode (x ∷ nodes) h p n e =
    by (is_at (path_cmp p) x.0) refl e (or_parts (is_settled_deep mode x) (list_any (is_settled_deep mode) nodes) h)
    (λ parts f. none_deep mode nodes parts p n f)
  where
    by : (b : Bool) → is_at (path_cmp p) x.0 ≡ b → cond b (Some x.1) (get_in nodes p) ≡ Some n
        → (is_settled_deep mode x ≡ false) × (list_any (is_settled_deep mode) nodes ≡ false)
        → (list_any (is_settled_deep mode) nodes ≡ false → get_in nodes p ≡ Some n → is_settled_deep mode (p, n) ≡ false)
        → is_settled_deep mode (p, n) ≡ false
    by true k f parts ih =
        let same : p ≡ x.0 = same_path p x.0 (sym (at_path p x.0) ∙ k) in
        let node : x.1 ≡ n = same_Some x.1 n f in
        (λ i. is_settled_deep mode (same i, sym node i)) ∙ parts.0
    by false k f parts ih = ih parts.1 f

module _ (mode : Mode) (target : ℕ) (nodes : List (Path × BaseNode)) (s : IsWorkingCopy (get_in nodes))
    (shallow : list_any (is_settled_deep mode) nodes ≡ false) where
  present_at : (p : Path) → is_present (get_in nodes p) ≡ true → (mode : Mode) → list_any (is_settled_deep mode) nodes ≡ false
      → Fits p (settled mode target p (get_in nodes p))
  present_at p h Update deep =
      let same = update_path target p (get_in nodes p) h in
      let a = s.repos_paths p h in
      let b = s.paths p h in
      (omega (arith, a, ap length same), omega (arith, b, ap length same))
  present_at p h (SwitchTo root) deep =
      let same = switch_path root target p (get_in nodes p) h in
      let k = by (get_in nodes p) refl h in
      let l = length-append root p in
      (omega (arith, k, l, ap length same), omega (arith, l, ap length same))
    where
      by : (o : Option BaseNode) → get_in nodes p ≡ o → is_present o ≡ true → length root + length p ≤ path_limit
      by None e x = absurd (true≢false (sym x))
      by (Some n) e x =
          short_enough (length root + length p)
          (sym (ap (λ b. b && nat_lt path_limit (length root + length p)) x) ∙ none_deep (SwitchTo root) nodes deep p n e)

  was_present : (p : Path) → settled mode target p (get_in nodes p) ≢ None → is_present (get_in nodes p) ≡ true
  was_present p h = settled_present mode target p (get_in nodes p) h

  was_there : (p : Path) → settled mode target p (get_in nodes p) ≢ None → get_in nodes p ≢ None
  was_there p h = present_stands (get_in nodes p) (was_present p h)

  pub settled_shape : IsWorkingCopy (λ p. settled mode target p (get_in nodes p))
  settled_shape = record {
    root = settled_is_dir mode target [] (get_in nodes []) s.root;
    parents = λ p name some. settled_is_dir mode target p (get_in nodes p) (s.parents p name (was_there (child p name) some));
    names = λ p name some. s.names p name (was_there (child p name) some);
    repos_paths = λ p h. (present_at p (was_present p (present_stands (settled mode target p (get_in nodes p)) h)) mode shallow).0;
    paths = λ p h. (present_at p (was_present p (present_stands (settled mode target p (get_in nodes p)) h)) mode shallow).1;
  }
