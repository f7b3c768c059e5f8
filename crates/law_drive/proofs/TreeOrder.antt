-- The steps of a tree are in order of their keys.
use Rattle.std.proofs.Common.{◌≡◌, ℕ, zero, suc, Bool, true, false, ◌&&◌, ◌||◌, List, [], ◌∷◌, ◌++◌, refl, sym, ◌∙◌, ap, subst, true≢false}
use Rattle.std.proofs.Common.{append_assoc, append-nil}
use Rattle.std.specs.Prelude.{Option, Some, None, cond, map}
use Rattle.std.specs.List.{list_any, AllByRecursion}
use Rattle.std.specs.declared.cmp.Ordering.{Ordering}
use Rattle.std.specs.declared.cmp.Ordering.TheVariants.{Less, Equal, Greater}
use Rattle.std.specs.Ordering.{is_gt, is_lt, ordering_then}
use Rattle.std.specs.Cmp.Lexicographic.{slice_cmp}
use Rattle.std.proofs.lemmas.Cmp.{tied_itself}
use Rattle.std.proofs.lemmas.Bool.{or_right, or_left, or_parts, not-false}
use Rattle.std.proofs.lemmas.List.Folds.{list_any-append}
use Rattle.svn_lists.proofs.Every.{all-append, all_map}
use Rattle.svn_lists.proofs.Somewhere.{none_any}
use Rattle.svn_types.specs.Names.{Path, name_cmp}
use Rattle.svn_types.specs.Paths.{child}
use Rattle.svn_types.specs.declared.kind.Kind.{Kind}
use Rattle.svn_types.specs.declared.kind.Kind.TheVariants.{File, Directory}
use Rattle.svn_types.specs.Props.{PropChange, changes_between}
use Rattle.svn_types.proofs.NameLemmas.{Name}
use Rattle.svn_repo.specs.Readings.{kind_of, text_of, props_of}
use Rattle.svn_editor.specs.Steps.{Action, Delete, Open, Add, Change, Text, Close, Step, steps_at}
use Rattle.svn_model.specs.Sources.{governing_revision}
use Rattle.svn_model.specs.Follow.{DriveInput, follow, source_node, target_node}
use Rattle.svn_model.specs.Steps.{Mark, Named, End, mark_cmp, key, key_of, comes_after, has_text, is_text, is_touched, is_gone}
use Rattle.svn_model.specs.Steps.{gone_actions, text_actions, source_text, InKeyOrder}
use Rattle.svn_model.specs.Tree.{names_below, is_entered, enters_directory, entry_actions, old_props, file_end, is_late, first_of, last_of}
use Rattle.svn_model.specs.Tree.{late_of, first_at, last_at, late_at, first_actions, last_actions, late_actions, by_names, below_of}
use Rattle.svn_model.specs.Tree.{steps_by, no_actions, tree_steps, late_steps, drive_steps}
use Rattle.law_drive.proofs.Keys.{marks_total, keys_total}
use Rattle.law_drive.proofs.Ways.{Ordered, not_before, ordered_below}
use Rattle.law_drive.proofs.TreePaths.{three_parts}

-- ---- keys that begin alike

cmp-prefix : (x a b : List Mark) → slice_cmp mark_cmp (x ++ a) (x ++ b) ≡ slice_cmp mark_cmp a b
cmp-prefix [] a b = refl
cmp-prefix (m ∷ x) a b = ap (λ o. ordering_then o (slice_cmp mark_cmp (x ++ a) (x ++ b))) (tied_itself marks_total m) ∙ cmp-prefix x a b

-- a prefix comes first
not_gt-prefix : (x a : List Mark) → is_gt (slice_cmp mark_cmp x (x ++ a)) ≡ false
not_gt-prefix [] [] = refl
not_gt-prefix [] (m ∷ a) = refl
not_gt-prefix (m ∷ x) a = ap (λ o. is_gt (ordering_then o (slice_cmp mark_cmp x (x ++ a)))) (tied_itself marks_total m) ∙ not_gt-prefix x a

map-child : (p : Path) (name : Name) → map Named (child p name) ≡ map Named p ++ Named name ∷ []
map-child [] name = refl
map-child (m ∷ p) name = ap (λ (l : List Mark). Named m ∷ l) (map-child p name)

module _ (d : DriveInput) (late : Bool) where
  -- ---- lists in order

  abbrev NoneBefore : List Step → Step → Type 0
  NoneBefore ys x = list_any (comes_after d late x) ys ≡ false

  append_in_order : (xs ys : List Step) → InKeyOrder d late xs → InKeyOrder d late ys → AllByRecursion (NoneBefore ys) xs
      → InKeyOrder d late (xs ++ ys)
  append_in_order [] ys h k a = k
  append_in_order (x ∷ xs) ys h k a = (
    list_any-append (comes_after d late x) xs ys ∙ ap (λ b. b || list_any (comes_after d late x) ys) h.0 ∙ a.0,
    append_in_order xs ys h.1 k a.1,
  )

  -- where each of the first is before each of the second
  all_before : (P Q : Step → Type 0) → ((x y : Step) → P x → Q y → comes_after d late x y ≡ false) → (xs ys : List Step)
      → AllByRecursion P xs → AllByRecursion Q ys
      → AllByRecursion (NoneBefore ys) xs
  all_before P Q f xs ys h k =
      all_map P (NoneBefore ys)
      (λ x px. none_any (comes_after d late x) ys (all_map Q (λ y. comes_after d late x y ≡ false) (λ y qy. f x y px qy) ys k)) xs h

  abbrev HasKey : List Mark → Step → Type 0
  HasKey k s = key_of d late s ≡ k

  -- steps of one key are in order
  same_key_in_order : (k : List Mark) (xs : List Step) → AllByRecursion (HasKey k) xs → InKeyOrder d late xs
  same_key_in_order k [] h = tt
  same_key_in_order k (x ∷ xs) h = (
    none_any (comes_after d late x) xs
        (all_map (HasKey k) (λ y. comes_after d late x y ≡ false)
        (λ y e. ap (λ a. is_gt (slice_cmp mark_cmp a (key_of d late y))) h.0 ∙ ap (λ b. is_gt (slice_cmp mark_cmp k b)) e
        ∙ ap is_gt (tied_itself keys_total k)) xs h.1),
    same_key_in_order k xs h.1,
  )

  -- ---- a tree in order

  module _ (front back : Path → List Action) (pre : List Mark)
      (fronts : (p : Path) → AllByRecursion (HasKey (pre ++ map Named p)) (steps_at p (front p)))
      (backs : (p : Path) → AllByRecursion (HasKey ((pre ++ map Named p) ++ (End ∷ []))) (steps_at p (back p))) where
    abbrev base : Path → List Mark
    base p = pre ++ map Named p

    -- the key begins with the path
    abbrev Under : Path → Step → Type 0
    Under p s = (r : List Mark) × (key_of d late s ≡ base p ++ r)

    -- with the path and that name, or a later one
    abbrev UnderName : Path → Name → Step → Type 0
    UnderName p m s = (r : List Mark) × (key_of d late s ≡ base p ++ Named m ∷ r)

    abbrev UnderLater : Path → Name → Step → Type 0
    UnderLater p n s = (m : Name) × (is_lt (name_cmp n m) ≡ true) × UnderName p m s

    abbrev UnderSome : Path → Step → Type 0
    UnderSome p s = (m : Name) × UnderName p m s

    base-child : (p : Path) (m : Name) (r : List Mark) → base (child p m) ++ r ≡ base p ++ Named m ∷ r
    base-child p m r =
        ap (λ l. (pre ++ l) ++ r) (map-child p m) ∙ ap (λ l. l ++ r) (sym (append_assoc pre (map Named p) (Named m ∷ [])))
        ∙ append_assoc (base p) (Named m ∷ []) r

    to_name : (p : Path) (m : Name) (s : Step) → Under (child p m) s → UnderName p m s
    to_name p m s u = (u.0, u.1 ∙ base-child p m u.0)

    to_path : (p : Path) (s : Step) → UnderSome p s → Under p s
    to_path p s u = (Named u.0 ∷ u.1.0, u.1.1)

    -- ---- where the keys lie

    abbrev AllUnder : ℕ → Path → Type 0
    AllUnder n p = AllByRecursion (Under p) (steps_by d front back n p)

    names_under : (n : ℕ) (p : Path) → ((m : Name) → AllUnder n (child p m)) → (ns : List Name)
        → AllByRecursion (UnderSome p) (by_names (steps_by d front back n) p ns)
    names_under n p h [] = tt
    names_under n p h (m ∷ ns) =
        all-append (UnderSome p) (steps_by d front back n (child p m)) (by_names (steps_by d front back n) p ns)
        (all_map (Under (child p m)) (UnderSome p) (λ s u. (m, to_name p m s u)) (steps_by d front back n (child p m)) (h m))
        (names_under n p h ns)

    below_under : (n : ℕ) (p : Path) → ((m : Name) → AllUnder n (child p m))
        → AllByRecursion (UnderSome p) (below_of d (steps_by d front back n) p)
    below_under n p h = by (enters_directory d p)
      where
        by : (b : Bool) → AllByRecursion (UnderSome p) (cond b (by_names (steps_by d front back n) p (names_below d p)) [])
        by true = names_under n p h (names_below d p)
        by false = tt

    tree_under : (n : ℕ) (p : Path) → AllUnder n p
    tree_under zero p = tt
    tree_under (suc n) p =
        all-append (Under p) (steps_at p (front p)) (below_of d (steps_by d front back n) p ++ steps_at p (back p))
        (all_map (HasKey (base p)) (Under p) (λ s e. ([], e ∙ sym (append-nil (base p)))) (steps_at p (front p)) (fronts p))
        (all-append (Under p) (below_of d (steps_by d front back n) p) (steps_at p (back p))
        (all_map (UnderSome p) (Under p) (to_path p) (below_of d (steps_by d front back n) p)
        (below_under n p (λ m. tree_under n (child p m))))
        (all_map (HasKey (base p ++ (End ∷ []))) (Under p) (λ s e. (End ∷ [], e)) (steps_at p (back p)) (backs p)))

    later_under : (n : ℕ) (p : Path) (k : Name) (ns : List Name) → list_any (not_before k) ns ≡ false
        → AllByRecursion (UnderLater p k) (by_names (steps_by d front back n) p ns)
    later_under n p k [] h = tt
    later_under n p k (m ∷ ns) h =
        let parts = or_parts (not_before k m) (list_any (not_before k) ns) h in
        all-append (UnderLater p k) (steps_by d front back n (child p m)) (by_names (steps_by d front back n) p ns)
        (all_map (Under (child p m)) (UnderLater p k) (λ s u. (m, not-false (is_lt (name_cmp k m)) parts.0, to_name p m s u))
        (steps_by d front back n (child p m)) (tree_under n (child p m)))
        (later_under n p k ns parts.1)

    -- ---- which keys come first

    compare : (x y : Step) (a b : List Mark) → key_of d late x ≡ a → key_of d late y ≡ b → is_gt (slice_cmp mark_cmp a b) ≡ false
        → comes_after d late x y ≡ false
    compare x y a b e f g = ap (λ k. is_gt (slice_cmp mark_cmp k (key_of d late y))) e ∙ ap (λ k. is_gt (slice_cmp mark_cmp a k)) f ∙ g

    front_first : (p : Path) (x y : Step) → HasKey (base p) x → Under p y → comes_after d late x y ≡ false
    front_first p x y e u = compare x y (base p) (base p ++ u.0) e u.1 (not_gt-prefix (base p) u.0)

    back_last : (p : Path) (x y : Step) → UnderSome p x → HasKey (base p ++ (End ∷ [])) y → comes_after d late x y ≡ false
    back_last p x y u e =
        compare x y (base p ++ Named u.0 ∷ u.1.0) (base p ++ (End ∷ [])) u.1.1 e
        (ap is_gt (cmp-prefix (base p) (Named u.0 ∷ u.1.0) (End ∷ [])))

    by_name : (p : Path) (n : Name) (x y : Step) → UnderName p n x → UnderLater p n y → comes_after d late x y ≡ false
    by_name p n x y u l =
        compare x y (base p ++ Named n ∷ u.0) (base p ++ Named l.0 ∷ l.2.0) u.1 l.2.1
        (ap is_gt (cmp-prefix (base p) (Named n ∷ u.0) (Named l.0 ∷ l.2.0)) ∙ less (name_cmp n l.0) l.1)
      where
        less : (o : Ordering) → is_lt o ≡ true → is_gt (ordering_then o (slice_cmp mark_cmp u.0 l.2.0)) ≡ false
        less Less e = refl
        less Equal e = absurd (true≢false (sym e))
        less Greater e = absurd (true≢false (sym e))

    -- ---- the order

    abbrev IsOrdered : ℕ → Path → Type 0
    IsOrdered n p = InKeyOrder d late (steps_by d front back n p)

    names_in_order : (n : ℕ) (p : Path) → ((m : Name) → IsOrdered n (child p m)) → (ns : List Name) → Ordered ns
        → InKeyOrder d late (by_names (steps_by d front back n) p ns)
    names_in_order n p h [] o = tt
    names_in_order n p h (m ∷ ns) o =
        append_in_order (steps_by d front back n (child p m)) (by_names (steps_by d front back n) p ns) (h m) (names_in_order n p h ns o.1)
        (all_before (UnderName p m) (UnderLater p m) (by_name p m) (steps_by d front back n (child p m))
        (by_names (steps_by d front back n) p ns)
        (all_map (Under (child p m)) (UnderName p m) (to_name p m) (steps_by d front back n (child p m)) (tree_under n (child p m)))
        (later_under n p m ns o.0))

    below_in_order : (n : ℕ) (p : Path) → ((m : Name) → IsOrdered n (child p m))
        → InKeyOrder d late (below_of d (steps_by d front back n) p)
    below_in_order n p h = by (enters_directory d p)
      where
        by : (b : Bool) → InKeyOrder d late (cond b (by_names (steps_by d front back n) p (names_below d p)) [])
        by true = names_in_order n p h (names_below d p) (ordered_below d p)
        by false = tt

    pub tree_in_order : (n : ℕ) (p : Path) → IsOrdered n p
    tree_in_order zero p = tt
    tree_in_order (suc n) p =
        let under = below_under n p (λ m. tree_under n (child p m)) in
        append_in_order (steps_at p (front p)) (below_of d (steps_by d front back n) p ++ steps_at p (back p))
        (same_key_in_order (base p) (steps_at p (front p)) (fronts p))
        (append_in_order (below_of d (steps_by d front back n) p) (steps_at p (back p))
        (below_in_order n p (λ m. tree_in_order n (child p m)))
        (same_key_in_order (base p ++ (End ∷ [])) (steps_at p (back p)) (backs p))
        (all_before (UnderSome p) (HasKey (base p ++ (End ∷ []))) (back_last p) (below_of d (steps_by d front back n) p)
        (steps_at p (back p)) under (backs p)))
        (all_before (HasKey (base p)) (Under p) (front_first p) (steps_at p (front p))
        (below_of d (steps_by d front back n) p ++ steps_at p (back p)) (fronts p)
        (all-append (Under p) (below_of d (steps_by d front back n) p) (steps_at p (back p))
        (all_map (UnderSome p) (Under p) (to_path p) (below_of d (steps_by d front back n) p) under)
        (all_map (HasKey (base p ++ (End ∷ []))) (Under p) (λ s e. (End ∷ [], e)) (steps_at p (back p)) (backs p))))

    -- what holds of all fronts and backs holds of the tree
    each_name : (P : Step → Type 0) (n : ℕ) (p : Path) → ((m : Name) → AllByRecursion P (steps_by d front back n (child p m)))
        → (ns : List Name)
        → AllByRecursion P (by_names (steps_by d front back n) p ns)
    each_name P n p h [] = tt
    each_name P n p h (m ∷ ns) =
        all-append P (steps_by d front back n (child p m)) (by_names (steps_by d front back n) p ns) (h m) (each_name P n p h ns)

    each_below : (P : Step → Type 0) (n : ℕ) (p : Path) → ((m : Name) → AllByRecursion P (steps_by d front back n (child p m)))
        → AllByRecursion P (below_of d (steps_by d front back n) p)
    each_below P n p h = by (enters_directory d p)
      where
        by : (x : Bool) → AllByRecursion P (cond x (by_names (steps_by d front back n) p (names_below d p)) [])
        by true = each_name P n p h (names_below d p)
        by false = tt

    pub all_in_tree : (P : Step → Type 0) → ((p : Path) → AllByRecursion P (steps_at p (front p)))
        → ((p : Path) → AllByRecursion P (steps_at p (back p)))
        → (n : ℕ) (p : Path) → AllByRecursion P (steps_by d front back n p)
    all_in_tree P f b zero p = tt
    all_in_tree P f b (suc n) p =
        all-append P (steps_at p (front p)) (below_of d (steps_by d front back n) p ++ steps_at p (back p)) (f p)
        (all-append P (below_of d (steps_by d front back n) p) (steps_at p (back p))
        (each_below P n p (λ m. all_in_tree P f b n (child p m))) (b p))

  -- ---- the keys of the three parts

  abbrev AtKey : Path → List Mark → List Action → Type 0
  AtKey p k acts = AllByRecursion (HasKey k) (steps_at p acts)

  both_parts : (p : Path) (k : List Mark) (xs ys : List Action) → AtKey p k xs → AtKey p k ys → AtKey p k (xs ++ ys)
  both_parts p k [] ys h g = g
  both_parts p k (x ∷ xs) ys h g = (h.0, both_parts p k xs ys h.1 g)

  change_keys : (p : Path) (k : Kind) (cs : List PropChange) → AtKey p (map Named p) (map (Change k) cs)
  change_keys p k [] = tt
  change_keys p k (c ∷ cs) = (refl, change_keys p k cs)

  entry_keys : (p : Path) (n : ℕ) (k : Kind) → AtKey p (map Named p) (entry_actions d p n k)
  entry_keys p n k = (enter (is_touched d p), change_keys p k (changes_between (old_props d p) (props_of d.history n)))
    where
      enter : (t : Bool) → key d late p (cond t (Open k (governing_revision (follow d p).here)) (Add k)) ≡ map Named p
      enter true = refl
      enter false = refl

  gone_keys : (p : Path) → AtKey p (map Named p) (gone_actions d p)
  gone_keys p = by (is_gone d p)
    where
      by : (g : Bool) → AtKey p (map Named p) (cond g (Delete (governing_revision (follow d p).here) ∷ []) [])
      by true = (refl, tt)
      by false = tt

  abbrev late_key : Bool → Path → List Mark
  late_key l p = cond l (End ∷ map Named p) (map Named p)

  -- the end of a file: its text is a text of the path
  end_keys : (p : Path) (n : ℕ) → (list_any is_text (file_end d p n) ≡ true → has_text d p ≡ true)
      → AtKey p (late_key (is_late d late p) p) (file_end d p n)
  end_keys p n h = by_touched (is_touched d p) h
    where
      close : List Action
      close = Close File (Some (d.checksum (text_of d.history n))) ∷ []

      text_key : (s : Option (List ℕ)) (t : List ℕ) → has_text d p ≡ true → key d late p (Text s t) ≡ late_key (is_late d late p) p
      text_key s t e = sym (ap (λ b. cond b (End ∷ map Named p) (map Named p)) (ap (λ b. late && b) e ∙ same late))
        where
          same : (b : Bool) → (b && true) ≡ b
          same true = refl
          same false = refl

      by_same : (b : Bool) (old new : List ℕ)
          → (list_any is_text (cond b [] (Text (Some (d.checksum old)) new ∷ []) ++ close) ≡ true → has_text d p ≡ true)
          → AtKey p (late_key (is_late d late p) p) (cond b [] (Text (Some (d.checksum old)) new ∷ []) ++ close)
      by_same true old new f = (refl, tt)
      by_same false old new f = (text_key (Some (d.checksum old)) new (f refl), (refl, tt))

      by_touched : (t : Bool)
          → (list_any is_text
          (cond t (text_actions d (source_text d (source_node d p)) (text_of d.history n)) (Text None (text_of d.history n) ∷ [])
          ++ close) ≡ true
          → has_text d p ≡ true)
          → AtKey p (late_key (is_late d late p) p)
          (cond t (text_actions d (source_text d (source_node d p)) (text_of d.history n)) (Text None (text_of d.history n) ∷ [])
          ++ close)
      by_touched true f = by_same _ (source_text d (source_node d p)) (text_of d.history n) f
      by_touched false f = (text_key None (text_of d.history n) (f refl), (refl, tt))

  -- a text in one of the parts is a text of the path
  text_of_part : (p : Path) → list_any is_text (first_at d late p (target_node d p)) ≡ true → has_text d p ≡ true
  text_of_part p e =
      sym (ap (list_any is_text) (three_parts d late p))
      ∙ list_any-append is_text (first_actions d late p) (last_actions d p ++ late_actions d late p)
      ∙ or_left (list_any is_text (first_actions d late p)) (list_any is_text (last_actions d p ++ late_actions d late p))
      (list_any-append is_text (gone_actions d p) (first_at d late p (target_node d p))
      ∙ or_right (list_any is_text (gone_actions d p)) (list_any is_text (first_at d late p (target_node d p))) e)

  text_of_late : (p : Path) → list_any is_text (late_actions d late p) ≡ true → has_text d p ≡ true
  text_of_late p e =
      sym (ap (list_any is_text) (three_parts d late p))
      ∙ list_any-append is_text (first_actions d late p) (last_actions d p ++ late_actions d late p)
      ∙ or_right (list_any is_text (first_actions d late p)) (list_any is_text (last_actions d p ++ late_actions d late p))
      (list_any-append is_text (last_actions d p) (late_actions d late p)
      ∙ or_right (list_any is_text (last_actions d p)) (list_any is_text (late_actions d late p)) e)

  first_keys : (p : Path) → AtKey p (map Named p) (first_actions d late p)
  first_keys p =
      both_parts p (map Named p) (gone_actions d p) (first_at d late p (target_node d p)) (gone_keys p)
      (by (target_node d p) (text_of_part p))
    where
      by_late : (n : ℕ) (l : Bool) → is_late d late p ≡ l
          → (list_any is_text (entry_actions d p n File ++ cond l [] (file_end d p n)) ≡ true → has_text d p ≡ true)
          → AtKey p (map Named p) (cond l [] (file_end d p n))
      by_late n true e f = tt
      by_late n false e f =
          subst (λ b. AtKey p (late_key b p) (file_end d p n)) e
          (end_keys p n
          (λ t. f (list_any-append is_text (entry_actions d p n File) (file_end d p n)
          ∙ or_right (list_any is_text (entry_actions d p n File)) (list_any is_text (file_end d p n)) t)))

      by_kind : (n : ℕ) (k : Kind) → (list_any is_text (first_of d late p n k) ≡ true → has_text d p ≡ true)
          → AtKey p (map Named p) (first_of d late p n k)
      by_kind n Directory f = entry_keys p n Directory
      by_kind n File f =
          both_parts p (map Named p) (entry_actions d p n File) (cond (is_late d late p) [] (file_end d p n)) (entry_keys p n File)
          (by_late n (is_late d late p) refl f)

      by_entered : (n : ℕ) (k : Kind) (b : Bool) → (list_any is_text (cond b (first_of d late p n k) []) ≡ true → has_text d p ≡ true)
          → AtKey p (map Named p) (cond b (first_of d late p n k) [])
      by_entered n k true f = by_kind n k f
      by_entered n k false f = tt

      by : (o : Option ℕ) → (list_any is_text (first_at d late p o) ≡ true → has_text d p ≡ true)
          → AtKey p (map Named p) (first_at d late p o)
      by None f = tt
      by (Some n) f = by_entered n (kind_of d.history n) (is_entered d p) f

  last_keys : (p : Path) → AtKey p (map Named p ++ (End ∷ [])) (last_actions d p)
  last_keys p = by (target_node d p)
    where
      by_kind : (k : Kind) → AtKey p (map Named p ++ (End ∷ [])) (last_of k)
      by_kind Directory = (refl, tt)
      by_kind File = tt

      by_entered : (k : Kind) (b : Bool) → AtKey p (map Named p ++ (End ∷ [])) (cond b (last_of k) [])
      by_entered k true = by_kind k
      by_entered k false = tt

      by : (o : Option ℕ) → AtKey p (map Named p ++ (End ∷ [])) (last_at d p o)
      by None = tt
      by (Some n) = by_entered (kind_of d.history n) (is_entered d p)

  late_keys : (p : Path) → AtKey p (End ∷ map Named p) (late_actions d late p)
  late_keys p = by (target_node d p) (text_of_late p)
    where
      by_late : (n : ℕ) (l : Bool) → is_late d late p ≡ l → (list_any is_text (cond l (file_end d p n) []) ≡ true → has_text d p ≡ true)
          → AtKey p (End ∷ map Named p) (cond l (file_end d p n) [])
      by_late n true e f = subst (λ b. AtKey p (late_key b p) (file_end d p n)) e (end_keys p n f)
      by_late n false e f = tt

      by_kind : (n : ℕ) (k : Kind) → (list_any is_text (late_of d late p n k) ≡ true → has_text d p ≡ true)
          → AtKey p (End ∷ map Named p) (late_of d late p n k)
      by_kind n Directory f = tt
      by_kind n File f = by_late n (is_late d late p) refl f

      by_entered : (n : ℕ) (k : Kind) (b : Bool) → (list_any is_text (cond b (late_of d late p n k) []) ≡ true → has_text d p ≡ true)
          → AtKey p (End ∷ map Named p) (cond b (late_of d late p n k) [])
      by_entered n k true f = by_kind n k f
      by_entered n k false f = tt

      by : (o : Option ℕ) → (list_any is_text (late_at d late p o) ≡ true → has_text d p ≡ true)
          → AtKey p (End ∷ map Named p) (late_at d late p o)
      by None f = tt
      by (Some n) f = by_entered n (kind_of d.history n) (is_entered d p) f

  -- ---- the whole list

  -- a key of the tree is no later than one of the texts that wait
  abbrev Early : Step → Type 0
  Early s = (k : List Mark) → is_gt (slice_cmp mark_cmp (key_of d late s) (End ∷ k)) ≡ false

  abbrev Waits : Step → Type 0
  Waits s = (k : List Mark) × (key_of d late s ≡ End ∷ k)

  early_path : (p : Path) (k : List Mark) → is_gt (slice_cmp mark_cmp (map Named p) (End ∷ k)) ≡ false
  early_path [] k = refl
  early_path (n ∷ p) k = refl

  early_close : (p : Path) (k : List Mark) → is_gt (slice_cmp mark_cmp (map Named p ++ (End ∷ [])) (End ∷ k)) ≡ false
  early_close [] [] = refl
  early_close [] (m ∷ k) = refl
  early_close (n ∷ p) k = refl

  nil_backs : (p : Path) → AllByRecursion (HasKey (((End ∷ []) ++ map Named p) ++ (End ∷ []))) (steps_at p (no_actions p))
  nil_backs p = tt

  all_early : (n : ℕ) → AllByRecursion Early (tree_steps d late n [])
  all_early n =
      all_in_tree (first_actions d late) (last_actions d) [] first_keys last_keys Early
      (λ p. all_map (HasKey (map Named p)) Early (λ s e k. ap (λ x. is_gt (slice_cmp mark_cmp x (End ∷ k))) e ∙ early_path p k)
      (steps_at p (first_actions d late p)) (first_keys p))
      (λ p. all_map (HasKey (map Named p ++ (End ∷ []))) Early
      (λ s e k. ap (λ x. is_gt (slice_cmp mark_cmp x (End ∷ k))) e ∙ early_close p k) (steps_at p (last_actions d p)) (last_keys p))
      n []

  all_wait : (n : ℕ) → AllByRecursion Waits (late_steps d late n [])
  all_wait n =
      all_in_tree (late_actions d late) no_actions (End ∷ []) late_keys nil_backs Waits
      (λ p. all_map (HasKey (End ∷ map Named p)) Waits (λ s e. (map Named p, e)) (steps_at p (late_actions d late p)) (late_keys p))
      (λ p. tt) n []

  pub in_key_order : (n : ℕ) → InKeyOrder d late (drive_steps d late n)
  in_key_order n =
      append_in_order (tree_steps d late n []) (late_steps d late n [])
      (tree_in_order (first_actions d late) (last_actions d) [] first_keys last_keys n [])
      (tree_in_order (late_actions d late) no_actions (End ∷ []) late_keys nil_backs n [])
      (all_before Early Waits (λ x y e w. ap (λ k. is_gt (slice_cmp mark_cmp (key_of d late x) k)) w.1 ∙ e w.0) (tree_steps d late n [])
      (late_steps d late n []) (all_early n) (all_wait n))
