-- A copy in which something is at a path and below it in the place of what was there.
use Rattle.std.proofs.Common.{◌≡◌, ◌≢◌, ℕ, ◌+◌, ◌≤◌, Bool, true, false, ◌&&◌, List, [], ◌∷◌, ◌++◌, length, refl, sym, ◌∙◌, ap, subst}
use Rattle.std.proofs.Common.{true≢false, append_assoc, length-append, arith}
use Rattle.std.specs.Prelude.{Option, Some, None, option_map, bytes_eq}
use Rattle.std.specs.Map.{keys_of}
use Rattle.std.proofs.lemmas.Bool.{and_parts}
use Rattle.svn_lists.proofs.Equality.{same_bytes}
use Rattle.svn_types.specs.Names.{Path, IsName}
use Rattle.svn_types.specs.Paths.{is_within, is_root, child}
use Rattle.svn_types.specs.Pairs.{value_of}
use Rattle.svn_types.specs.declared.kind.Kind.{Kind}
use Rattle.svn_types.specs.declared.kind.Kind.TheVariants.{File, Directory}
use Rattle.svn_repo.specs.History.{History, look}
use Rattle.svn_repo.specs.Readings.{IsHistory, kind_of, text_of, props_of, entries_of}
use Rattle.svn_types.specs.Limits.{path_limit}
use Rattle.svn_types.proofs.NameLemmas.{Name, value_of_name}
use Rattle.svn_types.proofs.PathLemmas.{split_within, is_within-longer}
use Rattle.svn_model.specs.declared.base_node.BaseNode.{BaseNode}
use Rattle.svn_model.specs.declared.base_node.BaseNode.TheVariants.{File as FileNode, Dir as DirNode, NotPresent}
use Rattle.svn_model.specs.Nodes.{WorkingCopy, IsWorkingCopy, IsTrueNode, is_present, is_dir, node_path, base_node_by, base_node}
use Rattle.svn_model.specs.Builders.{checkout}
use Rattle.svn_model.proofs.Children.{entry_below, look-child}
use Rattle.law_copy.specs.Laws.{EndsNamed}
use Rattle.law_copy.proofs.OneNode.{present_stands}
use Rattle.law_copy.proofs.Entries.{allowed_name, entries_stand, entries_kept}

-- ---- paths

-- a child within a path that its parent isn't within is that path
pub first_within : (at p : Path) (name : Name) → is_within at (child p name) ≡ true → is_within at p ≡ false → at ≡ child p name
first_within [] p name h n = absurd (true≢false n)
first_within (m ∷ []) [] name h n = ap (λ (x : Name). x ∷ []) (same_bytes m name (and_parts (bytes_eq m name) true h).0)
first_within (m ∷ k ∷ at) [] name h n = absurd (true≢false (sym (and_parts (bytes_eq m name) false h).1))
first_within (m ∷ at) (x ∷ p) name h n =
    let parts = and_parts (bytes_eq m x) (is_within at (child p name)) h in
    let rest = first_within at p name parts.1 (sym (ap (λ b. b && is_within at p) parts.0) ∙ n) in
    let same = same_bytes m x parts.0 in
    λ i. same i ∷ rest i

-- ---- truth

-- where what is at no path within the part changes, and the part's root is there, each node outside stays true
pub outside_true : (h : History) (w w' : WorkingCopy) (at : Path) → ((p : Path) → is_within at p ≡ false → w' p ≡ w p) → w' at ≢ None
    → (p : Path) → is_within at p ≡ false → IsTrueNode h w p (w p) → IsTrueNode h w' p (w' p)
outside_true h w w' at same there p out t = subst (IsTrueNode h w' p) (sym (same p out)) (by (w p) t)
  where
    stays : (name : Name) → w (child p name) ≢ None → w' (child p name) ≢ None
    stays name some none = at_child (is_within at (child p name)) refl
      where
        at_child : (b : Bool) → is_within at (child p name) ≡ b → ⊥
        at_child true e = there (ap w' (first_within at p name e out) ∙ none)
        at_child false e = some (sym (same (child p name) e) ∙ none)

    by : (found : Option BaseNode) → IsTrueNode h w p found → IsTrueNode h w' p found
    by None z = tt
    by (Some NotPresent) z = tt
    by (Some (FileNode r q text props)) z = z
    by (Some (DirNode r q complete props)) z = (
      z.0,
      z.1,
      record {
        kind = z.2.kind;
        same_props = z.2.same_props;
        has_entries = λ c. entries_kept w' w p (keys_of (entries_of h z.0)) stays (z.2.has_entries c);
      },
    )

-- ---- a tree of the repository

-- at the path and below is the tree that revision r has at q
abbrev pub IsTree : History → WorkingCopy → Path → Path → ℕ → Type 0
IsTree h v at q r = (s : Path) → v (at ++ s) ≡ checkout h q r s

module _ (h : History) (v : WorkingCopy) (at q : Path) (r : ℕ) (tree : IsTree h v at q r) where
  no_node : (m : ℕ) (p : Path) → None ≡ Some (base_node h r p m) → ⊥
  no_node m p e = cc

  -- what is at a child is an entry of the node above
  entry_stands : (s : Path) (n : ℕ) (name : Name) (m : ℕ) → look h r (q ++ s) ≡ Some n → value_of (entries_of h n) name ≡ Some m
      → v (child (at ++ s) name) ≢ None
  entry_stands s n name m e f none =
      let found : look h r (q ++ child s name) ≡ Some m =
      ap (look h r) (sym (append_assoc q s (name ∷ []))) ∙ look-child h r (q ++ s) name ∙ ap (λ o. entry_below h o name) e ∙ f in
      no_node m (q ++ child s name)
      (sym none ∙ ap v (append_assoc at s (name ∷ [])) ∙ tree (child s name) ∙ ap (option_map (base_node h r (q ++ child s name))) found)

  tree_node_true : (s : Path) (n : ℕ) → look h r (q ++ s) ≡ Some n → (k : Kind) → kind_of h n ≡ k
      → IsTrueNode h v (at ++ s) (Some (base_node_by k r (q ++ s) (text_of h n) (props_of h n)))
  tree_node_true s n e File k = (n, e, record { kind = k; same_text = refl; same_props = refl })
  tree_node_true s n e Directory k = (
    n,
    e,
    record {
      kind = k;
      same_props = λ c. refl;
      has_entries =
          λ c. entries_stand v (at ++ s) (keys_of (entries_of h n))
          (λ name some. let f = value_of_name (entries_of h n) name some in entry_stands s n name f.0 e f.1);
    },
  )

  -- the tree is true
  pub tree_true : (s : Path) → IsTrueNode h v (at ++ s) (v (at ++ s))
  tree_true s = subst (IsTrueNode h v (at ++ s)) (sym (tree s)) (by (look h r (q ++ s)) refl)
    where
      by : (o : Option ℕ) → look h r (q ++ s) ≡ o → IsTrueNode h v (at ++ s) (option_map (base_node h r (q ++ s)) o)
      by None e = tt
      by (Some n) e = tree_node_true s n e (kind_of h n) refl

  looked : (s : Path) → v (at ++ s) ≢ None → (n : ℕ) × (look h r (q ++ s) ≡ Some n)
  looked s some = by (look h r (q ++ s)) refl
    where
      by : (o : Option ℕ) → look h r (q ++ s) ≡ o → (n : ℕ) × (look h r (q ++ s) ≡ Some n)
      by None e = absurd (some (tree s ∙ ap (option_map (base_node h r (q ++ s))) e))
      by (Some n) e = (n, e)

  node_is : (s : Path) (n : ℕ) → look h r (q ++ s) ≡ Some n → v (at ++ s) ≡ Some (base_node h r (q ++ s) n)
  node_is s n e = tree s ∙ ap (option_map (base_node h r (q ++ s))) e

  dir_of : (k : Kind) (p : Path) (text : List ℕ) (props : List (List ℕ × List ℕ)) → k ≡ Directory
      → is_dir (Some (base_node_by k r p text props)) ≡ true
  dir_of File p text props e = let z : File ≡ Directory = e in cc
  dir_of Directory p text props e = refl

  path_of : (k : Kind) (p : Path) (text : List ℕ) (props : List (List ℕ × List ℕ)) → node_path (Some (base_node_by k r p text props)) ≡ p
  path_of File p text props = refl
  path_of Directory p text props = refl

  module _ (history : IsHistory h) where
    -- a child's parent is a directory of the tree
    parent_looked : (s : Path) (name : Name) → v (child (at ++ s) name) ≢ None
        → (n : ℕ) × (m : ℕ) × (look h r (q ++ s) ≡ Some n) × (value_of (entries_of h n) name ≡ Some m)
    parent_looked s name some = by (look h r (q ++ s)) refl
      where
        below : (n : ℕ) × (look h r (q ++ child s name) ≡ Some n)
        below = looked (child s name) (λ none. some (ap v (append_assoc at s (name ∷ [])) ∙ none))

        entry : entry_below h (look h r (q ++ s)) name ≡ Some below.0
        entry = sym (look-child h r (q ++ s) name) ∙ ap (look h r) (append_assoc q s (name ∷ [])) ∙ below.1

        none : None ≡ Some below.0 → ⊥
        none e = cc

        by : (o : Option ℕ) → look h r (q ++ s) ≡ o
            → (n : ℕ) × (m : ℕ) × (look h r (q ++ s) ≡ Some n) × (value_of (entries_of h n) name ≡ Some m)
        by None e = absurd (none (sym (ap (λ o. entry_below h o name) e) ∙ entry))
        by (Some n) e = (n, below.0, e, sym (ap (λ o. entry_below h o name) e) ∙ entry)

    directory : (s : Path) (n m : ℕ) (name : Name) → look h r (q ++ s) ≡ Some n → value_of (entries_of h n) name ≡ Some m
        → kind_of h n ≡ Directory
    directory s n m name e f = by (kind_of h n) refl
      where
        none : None ≡ Some m → ⊥
        none z = cc

        by : (k : Kind) → kind_of h n ≡ k → k ≡ Directory
        by File k = absurd (none (sym (ap (λ es. value_of es name) (history.files_are_leaves r (q ++ s) n e k)) ∙ f))
        by Directory k = refl

    pub tree_parents : (s : Path) (name : Name) → v (child (at ++ s) name) ≢ None → is_dir (v (at ++ s)) ≡ true
    tree_parents s name some =
        let z = parent_looked s name some in
        ap is_dir (node_is s z.0 z.2) ∙ dir_of (kind_of h z.0) (q ++ s) (text_of h z.0) (props_of h z.0) (directory s z.0 z.1 name z.2 z.3)

    pub tree_names : (s : Path) (name : Name) → v (child (at ++ s) name) ≢ None → IsName name
    tree_names s name some =
        let z = parent_looked s name some in
        allowed_name (entries_of h z.0) name z.1 (history.entries_named r (q ++ s) z.0 z.2) z.3

    tree_path : (s : Path) (n : ℕ) → look h r (q ++ s) ≡ Some n → node_path (v (at ++ s)) ≡ q ++ s
    tree_path s n e = ap node_path (node_is s n e) ∙ path_of (kind_of h n) (q ++ s) (text_of h n) (props_of h n)

    pub tree_repos_paths : (s : Path) → is_present (v (at ++ s)) ≡ true → length (node_path (v (at ++ s))) ≤ path_limit
    tree_repos_paths s present =
        let z = looked s (present_stands (v (at ++ s)) present) in
        subst (λ p. length p ≤ path_limit) (sym (tree_path s z.0 z.1)) (history.paths_short r (q ++ s) z.0 z.1)

    pub tree_paths : length at ≤ path_limit + length q → (s : Path) → is_present (v (at ++ s)) ≡ true
        → length (at ++ s) ≤ path_limit + length (node_path (v (at ++ s)))
    tree_paths near s present =
        let z = looked s (present_stands (v (at ++ s)) present) in
        let one : length (at ++ s) ≡ length at + length s = length-append at s in
        let two : length (q ++ s) ≡ length q + length s = length-append q s in
        subst (λ p. length (at ++ s) ≤ path_limit + length p) (sym (tree_path s z.0 z.1)) (omega arith)

-- ---- the shape

-- at a path and below is something else, which has the shape of a part
pub record Replaces (w w' : WorkingCopy) (at : Path) : Type 0 where
  pub not_root : is_root at ≡ false
  pub outside : (p : Path) → is_within at p ≡ false → w' p ≡ w p
  pub above : (p : Path) (name : Name) → at ≡ child p name → is_dir (w p) ≡ true
  pub named : EndsNamed at
  pub parents : (s : Path) (name : Name) → w' (child (at ++ s) name) ≢ None → is_dir (w' (at ++ s)) ≡ true
  pub names : (s : Path) (name : Name) → w' (child (at ++ s) name) ≢ None → IsName name
  pub repos_paths : (s : Path) → is_present (w' (at ++ s)) ≡ true → length (node_path (w' (at ++ s))) ≤ path_limit
  pub paths : (s : Path) → is_present (w' (at ++ s)) ≡ true → length (at ++ s) ≤ path_limit + length (node_path (w' (at ++ s)))

module _ (w w' : WorkingCopy) (at : Path) (shape : IsWorkingCopy w) (part : Replaces w w' at) where
  root_outside : is_within at [] ≡ false
  root_outside = by at part.not_root
    where
      by : (a : Path) → is_root a ≡ false → is_within a [] ≡ false
      by [] e = absurd (true≢false e)
      by (m ∷ a) e = refl

  parent_outside : (p : Path) (name : Name) → is_within at (child p name) ≡ false → is_within at p ≡ false
  parent_outside p name e = by (is_within at p) refl
    where
      by : (b : Bool) → is_within at p ≡ b → b ≡ false
      by true z = sym (is_within-longer at p name z) ∙ e
      by false z = refl

  new_parents : (p : Path) (name : Name) → w' (child p name) ≢ None → is_dir (w' p) ≡ true
  new_parents p name some = by (is_within at (child p name)) (is_within at p) refl refl
    where
      by : (b c : Bool) → is_within at (child p name) ≡ b → is_within at p ≡ c → is_dir (w' p) ≡ true
      by false c e f =
          let out = parent_outside p name e in
          ap is_dir (part.outside p out) ∙ shape.parents p name (λ none. some (part.outside (child p name) e ∙ none))
      by true false e f = ap is_dir (part.outside p f) ∙ part.above p name (first_within at p name e f)
      by true true e f =
          let z = split_within at p f in
          ap (λ x. is_dir (w' x)) z.1 ∙ part.parents z.0 name (λ none. some (ap (λ x. w' (child x name)) z.1 ∙ none))

  new_names : (p : Path) (name : Name) → w' (child p name) ≢ None → IsName name
  new_names p name some = by (is_within at (child p name)) (is_within at p) refl refl
    where
      by : (b c : Bool) → is_within at (child p name) ≡ b → is_within at p ≡ c → IsName name
      by false c e f = shape.names p name (λ none. some (part.outside (child p name) e ∙ none))
      by true false e f = part.named p name (first_within at p name e f)
      by true true e f =
          let z = split_within at p f in
          part.names z.0 name (λ none. some (ap (λ x. w' (child x name)) z.1 ∙ none))

  -- what holds of each present node outside and within holds of each
  each : (P : Path → Path → Type 0) → ((p : Path) → is_present (w p) ≡ true → P p (node_path (w p)))
      → ((s : Path) → is_present (w' (at ++ s)) ≡ true → P (at ++ s) (node_path (w' (at ++ s))))
      → (p : Path) → is_present (w' p) ≡ true → P p (node_path (w' p))
  each P old new p present = by (is_within at p) refl
    where
      by : (b : Bool) → is_within at p ≡ b → P p (node_path (w' p))
      by false e = subst (λ o. P p (node_path o)) (sym (part.outside p e)) (old p (sym (ap is_present (part.outside p e)) ∙ present))
      by true e =
          let z = split_within at p e in
          subst (λ x. P x (node_path (w' x))) (sym z.1) (new z.0 (ap (λ x. is_present (w' x)) (sym z.1) ∙ present))

  pub replaced_shape : IsWorkingCopy w'
  replaced_shape = record {
    root = ap is_dir (part.outside [] root_outside) ∙ shape.root;
    parents = new_parents;
    names = new_names;
    repos_paths = each (λ p q. length q ≤ path_limit) shape.repos_paths part.repos_paths;
    paths = each (λ p q. length p ≤ path_limit + length q) shape.paths part.paths;
  }
