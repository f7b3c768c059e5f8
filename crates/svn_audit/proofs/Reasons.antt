-- The first reason of a node is there exactly where the test of truth fails.
use Rattle.std.proofs.Common.{◌≡◌, ℕ, Bool, true, false, ◌&&◌, ◌||◌, not, cond, List, [], ◌∷◌, refl, sym, ap, ◌∙◌}
use Rattle.std.proofs.Common.{Option, Some, None, true≢false}
use Rattle.std.specs.Prelude.{bytes_eq, is_none, slice_get, filter_map}
use Rattle.std.specs.List.{cons_option}
use Rattle.std.specs.Option.{is_some, option_or, option_map}
use Rattle.std.specs.List.Sorted.{IsStrictlySortedBy}
use Rattle.std.specs.Map.{keys_of}
use Rattle.std.specs.Cmp.Lexicographic.{pointwise_decides}
use Rattle.svn_lists.proofs.Equality.{bytes_eq-same}
use Rattle.svn_types.specs.declared.kind.Kind.TheVariants.{File, Directory}
use Rattle.svn_types.specs.Names.{Path, name_cmp}
use Rattle.svn_types.specs.Paths.{child}
use Rattle.svn_types.specs.Pairs.{InNameOrder, value_of}
use Rattle.svn_types.specs.Props.{PropChange, is_same_value, with_changes, names_of_both, change_between, changes_between}
use Rattle.svn_repo.specs.History.{History, look}
use Rattle.svn_repo.specs.Readings.{IsHistory, kind_of, text_of, props_of, entries_of, is_directory}
use Rattle.svn_model.specs.declared.base_node.BaseNode.{BaseNode}
use Rattle.svn_model.specs.declared.base_node.BaseNode.TheVariants.{File as FileNode, Dir as DirNode, NotPresent}
use Rattle.svn_model.specs.Nodes.{WorkingCopy, node_props, present_props}
use Rattle.svn_model.specs.Truth.{Properties, props_eq, is_untrue_file, is_untrue_dir, is_untrue, lacks_entry}
use Rattle.law_copy.proofs.TruthTests.{prop_decides}
use Rattle.law_update.proofs.PropChanges.{with_changes-between}
use Rattle.svn_wc.specs.Truths.{looked}
use Rattle.svn_audit.specs.declared.reason.Reason.{Reason}
use Rattle.svn_audit.specs.declared.reason.Reason.TheVariants.{AnotherKind, AnotherText, AnotherProperty, Lacks}
use Rattle.svn_audit.specs.Untrue.{first_changed, first_lacking, file_reason, whole_reason, dir_reason, missing_reason, found_reason, node_reason}

some_mapped : {A B : Type 0} (f : A → B) (o : Option A) → is_some (option_map f o) ≡ is_some o
some_mapped f None = refl
some_mapped f (Some x) = refl

-- ---- properties

same_value : (o : Option (List ℕ)) → is_same_value o o ≡ true
same_value None = refl
same_value (Some v) = bytes_eq-same v

none_changed : (a : Properties) (names : List (List ℕ)) → filter_map (change_between a a) names ≡ []
none_changed a [] = refl
none_changed a (n ∷ ns) =
    ap (λ b. cons_option (cond b None (Some (n, value_of a n))) (filter_map (change_between a a) ns)) (same_value (value_of a n))
    ∙ none_changed a ns

-- what is the same has no change
pub unchanged : (a : Properties) → first_changed a a ≡ None
unchanged a = ap (λ (cs : List PropChange). option_map (λ c. c.0) (slice_get cs 0)) (none_changed a (names_of_both a a))

no_first : (cs : List PropChange) → option_map (λ c. c.0) (slice_get cs 0) ≡ None → cs ≡ []
no_first [] e = refl
no_first (c ∷ cs) e = absurd (true≢false (ap is_some e))

-- what has no change is the same
pub same_unchanged : (a b : Properties) → InNameOrder a → InNameOrder b → first_changed a b ≡ None → a ≡ b
same_unchanged a b h k e = sym (ap (with_changes a) (no_first (changes_between a b) e)) ∙ with_changes-between a b h k

equal : (a b : Properties) → props_eq a b ≡ true → a ≡ b
equal a b e = (pointwise_decides prop_decides a b).0 e

changed_some : (a b : Properties) → InNameOrder a → InNameOrder b → is_some (first_changed a b) ≡ not (props_eq a b)
changed_some a b h k = by (props_eq a b) refl
  where
    by : (x : Bool) → props_eq a b ≡ x → is_some (first_changed a b) ≡ not x
    by true e = ap is_some (ap (first_changed a) (sym (equal a b e)) ∙ unchanged a)
    by false e = differ (first_changed a b) refl
      where
        differ : (o : Option (List ℕ)) → first_changed a b ≡ o → is_some o ≡ true
        differ (Some name) f = refl
        differ None f = absurd (true≢false (sym ((pointwise_decides prop_decides a b).1 (same_unchanged a b h k f)) ∙ e))

-- ---- entries

lacking_some : (w : WorkingCopy) (p : Path) (names : List (List ℕ)) → is_some (first_lacking w p names) ≡ lacks_entry w p names
lacking_some w p [] = refl
lacking_some w p (n ∷ ns) = by (is_none (w (child p n))) (lacking_some w p ns)
  where
    by : (b : Bool) → is_some (first_lacking w p ns) ≡ lacks_entry w p ns
        → is_some (cond b (Some n) (first_lacking w p ns)) ≡ (b || lacks_entry w p ns)
    by true h = refl
    by false h = h

-- ---- one node

either : (f g : List ℕ → Reason) (x y : Option (List ℕ)) → is_some (option_or (option_map f x) (option_map g y)) ≡ (is_some x || is_some y)
either f g None y = some_mapped g y
either f g (Some n) y = refl

file_some : (h : History) (text : List ℕ) (props : Properties) (n : ℕ) → InNameOrder props → InNameOrder (props_of h n)
    → is_some (file_reason h text props n) ≡ is_untrue_file h text props (Some n)
file_some h text props n one two = by (is_directory (kind_of h n)) (not (bytes_eq text (text_of h n)))
  where
    by : (a b : Bool)
        → is_some (cond a (Some (AnotherKind Directory)) (cond b (Some AnotherText) (option_map AnotherProperty (first_changed props (props_of h n)))))
        ≡ ((a || b) || not (props_eq props (props_of h n)))
    by true b = refl
    by false true = refl
    by false false = some_mapped AnotherProperty (first_changed props (props_of h n)) ∙ changed_some props (props_of h n) one two

whole_some : (h : History) (w : WorkingCopy) (p : Path) (props : Properties) (n : ℕ) → InNameOrder props → InNameOrder (props_of h n)
    → is_some (whole_reason h w p props n) ≡ (not (props_eq props (props_of h n)) || lacks_entry w p (keys_of (entries_of h n)))
whole_some h w p props n one two =
    either AnotherProperty Lacks (first_changed props (props_of h n)) (first_lacking w p (keys_of (entries_of h n)))
    ∙ ap (λ b. b || is_some (first_lacking w p (keys_of (entries_of h n)))) (changed_some props (props_of h n) one two)
    ∙ ap (λ b. not (props_eq props (props_of h n)) || b) (lacking_some w p (keys_of (entries_of h n)))

dir_some : (h : History) (w : WorkingCopy) (p : Path) (complete : Bool) (props : Properties) (n : ℕ) → InNameOrder props
    → InNameOrder (props_of h n) → is_some (dir_reason h w p complete props n) ≡ is_untrue_dir h w p complete props (Some n)
dir_some h w p complete props n one two = by (not (is_directory (kind_of h n))) complete
  where
    by : (a c : Bool)
        → is_some (cond a (Some (AnotherKind File)) (cond c (whole_reason h w p props n) None))
        ≡ (a || c && (not (props_eq props (props_of h n)) || lacks_entry w p (keys_of (entries_of h n))))
    by true c = refl
    by false true = whole_some h w p props n one two
    by false false = refl

-- the properties of the repository's node are in order
abbrev pub AreOrdered : History → BaseNode → Type 0
AreOrdered h node = (n : ℕ) → looked h node ≡ Some n → InNameOrder (props_of h n)

sorted-nil : IsStrictlySortedBy name_cmp []
unfolding IsStrictlySortedBy
sorted-nil = tt

-- a node without properties has them in order
pub no_props : (node : BaseNode) → present_props node ≡ None → InNameOrder (node_props (Some node))
no_props (FileNode r q text props) e = absurd (true≢false (ap is_some e))
no_props (DirNode r q complete props) e = absurd (true≢false (ap is_some e))
no_props NotPresent e = sorted-nil

pub ordered_there : (h : History) → IsHistory h → (node : BaseNode) → AreOrdered h node
ordered_there h history (FileNode r q text props) n e = history.props_in_order r q n e
ordered_there h history (DirNode r q complete props) n e = history.props_in_order r q n e
ordered_there h history NotPresent n e = absurd (true≢false (sym (ap is_some e)))

pub reason_some : (h : History) (w : WorkingCopy) (p : Path) (node : BaseNode) → InNameOrder (node_props (Some node)) → AreOrdered h node
    → is_some (node_reason h w p node) ≡ is_untrue h w p node
reason_some h w p NotPresent one two = refl
reason_some h w p (FileNode r q text props) one two = by (look h r q) two
  where
    by : (o : Option ℕ) → ((n : ℕ) → o ≡ Some n → InNameOrder (props_of h n))
        → is_some (found_reason (missing_reason h r) (file_reason h text props) o) ≡ is_untrue_file h text props o
    by None ordered = refl
    by (Some n) ordered = file_some h text props n one (ordered n refl)
reason_some h w p (DirNode r q complete props) one two = by (look h r q) two
  where
    by : (o : Option ℕ) → ((n : ℕ) → o ≡ Some n → InNameOrder (props_of h n))
        → is_some (found_reason (missing_reason h r) (dir_reason h w p complete props) o)
        ≡ is_untrue_dir h w p complete props o
    by None ordered = refl
    by (Some n) ordered = dir_some h w p complete props n one (ordered n refl)
