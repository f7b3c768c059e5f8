-- No path is untrue exactly where the copy is true.
use Rattle.std.proofs.Common.{◌≡◌, ◌≢◌, ℕ, Bool, true, false, ◌&&◌, ◌||◌, not, List, [], ◌∷◌, refl, sym, ◌∙◌, ap, subst, true≢false}
use Rattle.std.specs.Prelude.{Option, Some, None, is_none, cond, bytes_eq}
use Rattle.std.specs.Map.{keys_of}
use Rattle.std.specs.Cmp.Lexicographic.{pointwise_decides, bytes_decides}
use Rattle.std.proofs.lemmas.Bool.{and_parts, or_parts, not-false}
use Rattle.svn_types.specs.Names.{Path}
use Rattle.svn_types.specs.Paths.{path_eq, child}
use Rattle.svn_types.specs.declared.kind.Kind.{Kind}
use Rattle.svn_types.specs.declared.kind.Kind.TheVariants.{File, Directory}
use Rattle.svn_types.proofs.PathLemmas.{same_path}
use Rattle.svn_repo.specs.History.{History, look}
use Rattle.svn_repo.specs.Readings.{kind_of, text_of, props_of, entries_of, is_directory}
use Rattle.svn_model.specs.declared.base_node.BaseNode.{BaseNode}
use Rattle.svn_model.specs.declared.base_node.BaseNode.TheVariants.{File as FileNode, Dir as DirNode, NotPresent}
use Rattle.svn_model.specs.Nodes.{WorkingCopy, get_in, HasEntries, IsTrueDir, IsTrueNode, IsTrueOf}
use Rattle.svn_model.specs.Truth.{Properties, prop_eq, props_eq, is_untrue_file, lacks_entry, is_untrue_dir, is_untrue, first_untrue_in}
use Rattle.law_copy.specs.CopyLaws.{truth_is_tested}
use Rattle.law_copy.proofs.NodeLists.{get_in-first, AllIn, all_in}

-- ---- equal properties

pub prop_decides : (a b : List ℕ × List ℕ) → (prop_eq a b ≡ true → a ≡ b) × (a ≡ b → prop_eq a b ≡ true)
prop_decides a b = (
  λ e.
      let parts = and_parts (bytes_eq a.0 b.0) (bytes_eq a.1 b.1) e in
      let one = (bytes_decides a.0 b.0).0 parts.0 in
      let two = (bytes_decides a.1 b.1).0 parts.1 in
      λ i. (one i, two i),
  λ e. ap (λ x. x && bytes_eq a.1 b.1) ((bytes_decides a.0 b.0).1 (ap (λ (x : List ℕ × List ℕ). x.0) e))
      ∙ (bytes_decides a.1 b.1).1 (ap (λ (x : List ℕ × List ℕ). x.1) e),
)

same_props : (a b : Properties) → props_eq a b ≡ true → a ≡ b
same_props a b e = (pointwise_decides prop_decides a b).0 e

props_same : (a b : Properties) → a ≡ b → props_eq a b ≡ true
props_same a b e = (pointwise_decides prop_decides a b).1 e

-- ---- kinds

file_kind : (k : Kind) → is_directory k ≡ false → k ≡ File
file_kind File e = refl
file_kind Directory e = absurd (true≢false e)

dir_kind : (k : Kind) → is_directory k ≡ true → k ≡ Directory
dir_kind File e = absurd (true≢false (sym e))
dir_kind Directory e = refl

-- ---- entries

none_lacking : (w : WorkingCopy) (p : Path) (names : List (List ℕ)) → lacks_entry w p names ≡ false → HasEntries w p names
none_lacking w p [] h = tt
none_lacking w p (name ∷ names) h =
    let parts = or_parts (is_none (w (child p name))) (lacks_entry w p names) h in
    (λ e. true≢false (sym (ap is_none e) ∙ parts.0), none_lacking w p names parts.1)

nothing_lacks : (w : WorkingCopy) (p : Path) (names : List (List ℕ)) → HasEntries w p names → lacks_entry w p names ≡ false
nothing_lacks w p [] h = refl
nothing_lacks w p (name ∷ names) h = ap (λ b. b || lacks_entry w p names) (by (w (child p name)) h.0) ∙ nothing_lacks w p names h.1
  where
    by : (o : Option BaseNode) → o ≢ None → is_none o ≡ false
    by None n = absurd (n refl)
    by (Some b) n = refl

-- ---- one node

module _ (h : History) (w : WorkingCopy) (p : Path) where
  file_true : (r : ℕ) (q : Path) (text : List ℕ) (props : Properties) (o : Option ℕ) → look h r q ≡ o
      → is_untrue_file h text props o ≡ false → IsTrueNode h w p (Some (FileNode r q text props))
  file_true r q text props None e f = absurd (true≢false f)
  file_true r q text props (Some n) e f =
      let first = or_parts (is_directory (kind_of h n) || not (bytes_eq text (text_of h n))) (not (props_eq props (props_of h n))) f in
      let second = or_parts (is_directory (kind_of h n)) (not (bytes_eq text (text_of h n))) first.0 in (
        n,
        e,
        record {
          kind = file_kind (kind_of h n) second.0;
          same_text = (bytes_decides text (text_of h n)).0 (not-false _ second.1);
          same_props = same_props props (props_of h n) (not-false _ first.1);
        },
      )

  dir_true : (r : ℕ) (q : Path) (complete : Bool) (props : Properties) (o : Option ℕ) → look h r q ≡ o
      → is_untrue_dir h w p complete props o ≡ false → IsTrueNode h w p (Some (DirNode r q complete props))
  dir_true r q complete props None e f = absurd (true≢false f)
  dir_true r q complete props (Some n) e f =
      let first =
      or_parts (not (is_directory (kind_of h n)))
      (complete && (not (props_eq props (props_of h n)) || lacks_entry w p (keys_of (entries_of h n)))) f in (
        n,
        e,
        record {
          kind = dir_kind (kind_of h n) (not-false _ first.0);
          same_props = λ c. same_props props (props_of h n) (not-false _ (whole c first.1).0);
          has_entries = λ c. none_lacking w p (keys_of (entries_of h n)) (whole c first.1).1;
        },
      )
    where
      whole : complete ≡ true → (complete && (not (props_eq props (props_of h n)) || lacks_entry w p (keys_of (entries_of h n)))) ≡ false
          → (not (props_eq props (props_of h n)) ≡ false) × (lacks_entry w p (keys_of (entries_of h n)) ≡ false)
      whole c k =
          or_parts (not (props_eq props (props_of h n))) (lacks_entry w p (keys_of (entries_of h n)))
          (sym (ap (λ b. b && (not (props_eq props (props_of h n)) || lacks_entry w p (keys_of (entries_of h n)))) c) ∙ k)

  node_true : (b : BaseNode) → is_untrue h w p b ≡ false → IsTrueNode h w p (Some b)
  node_true NotPresent f = tt
  node_true (FileNode r q text props) f = file_true r q text props (look h r q) refl f
  node_true (DirNode r q complete props) f = dir_true r q complete props (look h r q) refl f

  true_passes : (b : BaseNode) → IsTrueNode h w p (Some b) → is_untrue h w p b ≡ false
  true_passes NotPresent t = refl
  true_passes (FileNode r q text props) t =
      ap (is_untrue_file h text props) t.1
      ∙ ap (λ k. is_directory k || not (bytes_eq text (text_of h t.0)) || not (props_eq props (props_of h t.0))) t.2.kind
      ∙ ap (λ x. not x || not (props_eq props (props_of h t.0))) ((bytes_decides text (text_of h t.0)).1 t.2.same_text)
      ∙ ap not (props_same props (props_of h t.0) t.2.same_props)
  true_passes (DirNode r q complete props) t =
      ap (is_untrue_dir h w p complete props) t.1
      ∙ ap
      (λ k. not (is_directory k) || complete && (not (props_eq props (props_of h t.0)) || lacks_entry w p (keys_of (entries_of h t.0))))
      t.2.kind
      ∙ by complete t.2
    where
      by : (c : Bool) → IsTrueDir h t.0 w p c props
          → (c && (not (props_eq props (props_of h t.0)) || lacks_entry w p (keys_of (entries_of h t.0)))) ≡ false
      by false d = refl
      by true d =
          ap (λ x. not x || lacks_entry w p (keys_of (entries_of h t.0))) (props_same props (props_of h t.0) (d.same_props refl))
          ∙ nothing_lacks w p (keys_of (entries_of h t.0)) (d.has_entries refl)

-- ---- all nodes

module _ (h : History) (w : WorkingCopy) where
  -- where no element is untrue each is true, and so is what is found in the list
  all_true : (es : List (Path × BaseNode)) → first_untrue_in h w es ≡ None → (p : Path) → IsTrueNode h w p (get_in es p)
  all_true [] f p = tt
  all_true (e ∷ es) f p = by (is_untrue h w e.0 e.1) refl f (λ g. all_true es g p)
    where
      some : Some e.0 ≡ None → ⊥
      some q = cc

      by : (b : Bool) → is_untrue h w e.0 e.1 ≡ b → cond b (Some e.0) (first_untrue_in h w es) ≡ None
          → (first_untrue_in h w es ≡ None → IsTrueNode h w p (get_in es p))
          → IsTrueNode h w p (get_in (e ∷ es) p)
      by true k g ih = absurd (some g)
      by false k g ih = subst (IsTrueNode h w p) (sym (get_in-first e es p)) (at (path_eq e.0 p) refl (ih g))
        where
          at : (b : Bool) → path_eq e.0 p ≡ b → IsTrueNode h w p (get_in es p) → IsTrueNode h w p (cond b (Some e.1) (get_in es p))
          at true z rest = subst (λ q. IsTrueNode h w q (Some e.1)) (same_path e.0 p z) (node_true h w e.0 e.1 k)
          at false z rest = rest

  none_untrue : IsTrueOf h w → (es : List (Path × BaseNode)) → AllIn w es → first_untrue_in h w es ≡ None
  none_untrue t [] a = refl
  none_untrue t (e ∷ es) a =
      ap (λ b. cond b (Some e.0) (first_untrue_in h w es)) (true_passes h w e.0 e.1 (subst (IsTrueNode h w e.0) a.0 (t e.0)))
      ∙ none_untrue t es a.1

pub tests_truth : truth_is_tested
tests_truth h nodes order = (λ f p. all_true h (get_in nodes) nodes f p, λ t. none_untrue h (get_in nodes) t nodes (all_in nodes order))
