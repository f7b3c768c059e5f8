-- The steps of a tree at one path: what is done there, once.
use Rattle.std.proofs.Common.{◌≡◌, ◌≢◌, ℕ, zero, suc, ◌≤◌, ◌<◌, Bool, true, false, ◌||◌, List, [], ◌∷◌, ◌++◌, length, refl, sym, ◌∙◌}
use Rattle.std.proofs.Common.{ap, subst, true≢false, append_assoc, append-nil, arith}
use Rattle.std.specs.Prelude.{Option, Some, None, cond, map, filter, bytes_eq}
use Rattle.std.proofs.lemmas.List.Elements.{filter-append}
use Rattle.std.proofs.lemmas.Bool.{or_right, false_from_ne_true}
use Rattle.svn_lists.proofs.Equality.{bytes_eq-same, same_bytes}
use Rattle.svn_lists.proofs.Parts.{empty_parts}
use Rattle.svn_types.specs.Names.{Path}
use Rattle.svn_types.specs.Paths.{path_eq, is_within, child}
use Rattle.svn_types.specs.declared.kind.Kind.{Kind}
use Rattle.svn_types.specs.declared.kind.Kind.TheVariants.{File, Directory}
use Rattle.svn_types.specs.Props.{changes_between}
use Rattle.svn_types.proofs.NameLemmas.{Name, has_name}
use Rattle.svn_types.proofs.PathLemmas.{same_path, path_eq-same, is_within-same, below_from_child, path_eq-longer, within_shorter}
use Rattle.svn_types.proofs.PathLemmas.{within_other}
use Rattle.svn_repo.specs.Readings.{kind_of, text_of, props_of}
use Rattle.svn_editor.specs.Steps.{Action, Open, Add, Change, Text, Close, Step, steps_at}
use Rattle.svn_model.specs.Sources.{governing_revision}
use Rattle.svn_model.specs.Follow.{DriveInput, follow, source_node, target_node}
use Rattle.svn_model.specs.Steps.{is_touched, is_new, source_props, source_text, gone_actions, text_actions, touched_actions, new_actions}
use Rattle.svn_model.specs.Steps.{entered_actions, path_actions, path_steps}
use Rattle.svn_model.specs.Tree.{names_below, enters_directory, is_late, first_of, last_of, late_of, first_at, last_at, late_at}
use Rattle.svn_model.specs.Tree.{first_actions, last_actions, late_actions, by_names, below_of, steps_by, no_actions, tree_steps}
use Rattle.svn_model.specs.Tree.{late_steps, drive_steps}
use Rattle.law_drive.proofs.Classes.{Served}
use Rattle.law_drive.proofs.Ways.{Ordered, ordered_below, ordered_apart, on_the_way, actions_short}

-- ---- the three parts of a path's actions

module _ (d : DriveInput) (late : Bool) (p : Path) where
  -- the parts of what is done at a path that is entered, or isn't
  abbrev entered_parts : ℕ → Kind → Bool → Type 0
  entered_parts n k b =
      cond b (first_of d late p n k) [] ++ (cond b (last_of k) [] ++ cond b (late_of d late p n k) [])
      ≡ cond (is_touched d p) (touched_actions d p n k) (cond (is_new d p) (new_actions d n k) [])

  parts_of : (n : ℕ) (k : Kind) → entered_parts n k (is_touched d p || is_new d p)
  parts_of n k = by (is_touched d p) (is_new d p) (is_late d late p) k
    where
      enter : Bool → Kind → Action
      enter t l = cond t (Open l (governing_revision (follow d p).here)) (Add l)

      changes : Bool → Kind → List Action
      changes t l = map (Change l) (changes_between (cond t (source_props d p (source_node d p)) []) (props_of d.history n))

      texts : Bool → List Action
      texts t = cond t (text_actions d (source_text d (source_node d p)) (text_of d.history n)) (Text None (text_of d.history n) ∷ [])

      close : List Action
      close = Close File (Some (d.checksum (text_of d.history n))) ∷ []

      firsts : Bool → Bool → Kind → List Action
      firsts t l Directory = enter t Directory ∷ changes t Directory
      firsts t l File = (enter t File ∷ changes t File) ++ cond l [] (texts t ++ close)

      lates : Bool → Bool → Kind → List Action
      lates t l Directory = []
      lates t l File = cond l (texts t ++ close) []

      by : (t m l : Bool) (k : Kind) → cond (t || m) (firsts t l k) [] ++ (cond (t || m) (last_of k) [] ++ cond (t || m) (lates t l k) [])
          ≡ cond t (touched_actions d p n k) (cond m (new_actions d n k) [])
      by true m l Directory = refl
      by true m false File = append-nil _ ∙ sym (append_assoc (enter true File ∷ changes true File) (texts true) close)
      by true m true File =
          ap (λ l. l ++ (texts true ++ close)) (append-nil (enter true File ∷ changes true File))
          ∙ sym (append_assoc (enter true File ∷ changes true File) (texts true) close)
      by false true l Directory = refl
      by false true false File = append-nil _
      by false true true File = ap (λ l. l ++ (texts false ++ close)) (append-nil (enter false File ∷ changes false File))
      by false false l k = refl

  entered_of : (o : Option ℕ) → first_at d late p o ++ (last_at d p o ++ late_at d late p o) ≡ entered_actions d p o
  entered_of None = refl
  entered_of (Some n) = parts_of n (kind_of d.history n)

  -- the three parts together are the actions of the path
  pub three_parts : first_actions d late p ++ (last_actions d p ++ late_actions d late p) ≡ path_actions d p
  three_parts =
      append_assoc (gone_actions d p) (first_at d late p (target_node d p)) (last_actions d p ++ late_actions d late p)
      ∙ ap (λ l. gone_actions d p ++ l) (entered_of (target_node d p))

-- ---- steps at one path

abbrev pub is_at : Path → Step → Bool
is_at p s = path_eq s.path p

filter-other : (p q : Path) (acts : List Action) → path_eq q p ≡ false → filter (is_at p) (steps_at q acts) ≡ []
filter-other p q [] h = refl
filter-other p q (a ∷ acts) h =
    ap (λ b. cond b (record { path = q; action = a } ∷ filter (is_at p) (steps_at q acts)) (filter (is_at p) (steps_at q acts))) h
    ∙ filter-other p q acts h

filter-own : (p : Path) (acts : List Action) → filter (is_at p) (steps_at p acts) ≡ steps_at p acts
filter-own p [] = refl
filter-own p (a ∷ acts) =
    ap (λ b. cond b (record { path = p; action = a } ∷ filter (is_at p) (steps_at p acts)) (filter (is_at p) (steps_at p acts)))
    (path_eq-same p)
    ∙ ap (λ (l : List Step). record { path = p; action = a } ∷ l) (filter-own p acts)

pub steps_at-append : (p : Path) (xs ys : List Action) → steps_at p (xs ++ ys) ≡ steps_at p xs ++ steps_at p ys
steps_at-append p [] ys = refl
steps_at-append p (x ∷ xs) ys = ap (λ (l : List Step). record { path = p; action = x } ∷ l) (steps_at-append p xs ys)

module _ (d : DriveInput) (front back : Path → List Action) (x : Path) where
  abbrev here : ℕ → Path → List Step
  here n q = filter (is_at x) (steps_by d front back n q)

  abbrev among : ℕ → Path → List (List ℕ) → List Step
  among n q ns = filter (is_at x) (by_names (steps_by d front back n) q ns)

  abbrev below : ℕ → Path → List Step
  below n q = filter (is_at x) (below_of d (steps_by d front back n) q)

  here-suc : (n : ℕ) (q : Path)
      → here (suc n) q ≡ filter (is_at x) (steps_at q (front q)) ++ (below n q ++ filter (is_at x) (steps_at q (back q)))
  here-suc n q =
      filter-append (is_at x) (steps_at q (front q)) (below_of d (steps_by d front back n) q ++ steps_at q (back q))
      ∙ ap (λ l. filter (is_at x) (steps_at q (front q)) ++ l)
      (filter-append (is_at x) (below_of d (steps_by d front back n) q) (steps_at q (back q)))

  among-cons : (n : ℕ) (q : Path) (m : Name) (ns : List (List ℕ)) → among n q (m ∷ ns) ≡ here n (child q m) ++ among n q ns
  among-cons n q m ns = filter-append (is_at x) (steps_by d front back n (child q m)) (by_names (steps_by d front back n) q ns)

  among_none : (n : ℕ) (q : Path) (ns : List (List ℕ)) → ((m : Name) → has_name ns m ≡ true → here n (child q m) ≡ []) → among n q ns ≡ []
  among_none n q [] h = refl
  among_none n q (m ∷ ns) h =
      among-cons n q m ns
      ∙ ap (λ l. l ++ among n q ns) (h m (ap (λ b. b || has_name ns m) (bytes_eq-same m)))
      ∙ among_none n q ns (λ k e. h k (or_right (bytes_eq m k) (has_name ns k) e))

  -- where one of the names leads to the path, and the others don't
  among_one : (n : ℕ) (q : Path) (name : Name) (ns : List (List ℕ)) → Ordered ns → has_name ns name ≡ true
      → ((m : Name) → bytes_eq m name ≡ false → here n (child q m) ≡ [])
      → among n q ns ≡ here n (child q name)
  among_one n q name [] o h k = absurd (true≢false (sym h))
  among_one n q name (m ∷ ns) o h k = among-cons n q m ns ∙ by (bytes_eq m name) refl h (among_one n q name ns o.1)
    where
      by : (b : Bool) → bytes_eq m name ≡ b → (b || has_name ns name) ≡ true
          → (has_name ns name ≡ true → ((m : Name) → bytes_eq m name ≡ false → here n (child q m) ≡ [])
          → among n q ns ≡ here n (child q name))
          → here n (child q m) ++ among n q ns ≡ here n (child q name)
      by true e i ih =
          let same = same_bytes m name e in
          ap (λ l. here n (child q m) ++ l) (among_none n q ns (λ y z. k y (apart y z)))
          ∙ append-nil (here n (child q m)) ∙ ap (λ y. here n (child q y)) same
        where
          apart : (y : Name) → has_name ns y ≡ true → bytes_eq y name ≡ false
          apart y z =
              false_from_ne_true (bytes_eq y name)
              (λ u. true≢false (sym z ∙ ap (has_name ns) (same_bytes y name u ∙ sym (same_bytes m name e)) ∙ ordered_apart m ns o.0))
      by false e i ih = ap (λ l. l ++ among n q ns) (k m e) ∙ ih i k

  below_none : (n : ℕ) (q : Path) → ((m : Name) → here n (child q m) ≡ []) → below n q ≡ []
  below_none n q h = by (enters_directory d q)
    where
      by : (b : Bool) → filter (is_at x) (cond b (by_names (steps_by d front back n) q (names_below d q)) []) ≡ []
      by true = among_none n q (names_below d q) (λ m e. h m)
      by false = refl

  three : (xs ys zs : List Step) → xs ≡ [] → ys ≡ [] → zs ≡ [] → xs ++ (ys ++ zs) ≡ []
  three xs ys zs a b c = ap (λ l. l ++ (ys ++ zs)) a ∙ ap (λ l. l ++ zs) b ∙ c

  not_within : (q : Path) → is_within q x ≡ false → path_eq q x ≡ false
  not_within q h = false_from_ne_true (path_eq q x) (λ e. true≢false (sym (is_within-same q) ∙ ap (is_within q) (same_path q x e) ∙ h))

  -- the tree at a path that this one isn't within has no step of it
  outside : (n : ℕ) (q : Path) → is_within q x ≡ false → here n q ≡ []
  outside zero q h = refl
  outside (suc n) q h =
      here-suc n q
      ∙ three (filter (is_at x) (steps_at q (front q))) (below n q) (filter (is_at x) (steps_at q (back q)))
      (filter-other x q (front q) (not_within q h)) (below_none n q (λ m. outside n (child q m) (longer m)))
      (filter-other x q (back q) (not_within q h))
    where
      longer : (m : Name) → is_within (child q m) x ≡ false
      longer m = false_from_ne_true (is_within (child q m) x) (λ e. true≢false (sym (below_from_child q x m e).0 ∙ h))

  -- nor has any tree, where nothing is done at the path
  nowhere : front x ≡ [] → back x ≡ [] → (n : ℕ) (q : Path) → here n q ≡ []
  nowhere f b zero q = refl
  nowhere f b (suc n) q =
      here-suc n q
      ∙ three (filter (is_at x) (steps_at q (front q))) (below n q) (filter (is_at x) (steps_at q (back q)))
      (by front f (path_eq q x) refl) (below_none n q (λ m. nowhere f b n (child q m))) (by back b (path_eq q x) refl)
    where
      by : (part : Path → List Action) → part x ≡ [] → (e : Bool) → path_eq q x ≡ e → filter (is_at x) (steps_at q (part q)) ≡ []
      by part f true e = ap (λ l. filter (is_at x) (steps_at q l)) (ap part (same_path q x e) ∙ f)
      by part f false e = filter-other x q (part q) e

  -- at each path above, a directory is entered, and the next name is among those below
  abbrev OnTheWay : Type 0
  OnTheWay =
      (q : Path) (name : Name) (r : Path) → q ++ name ∷ r ≡ x → (enters_directory d q ≡ true) × (has_name (names_below d q) name ≡ true)

  at_own : (n : ℕ) → here (suc n) x ≡ steps_at x (front x) ++ steps_at x (back x)
  at_own n =
      here-suc n x
      ∙ ap (λ l. l ++ (below n x ++ filter (is_at x) (steps_at x (back x)))) (filter-own x (front x))
      ∙ ap (λ l. steps_at x (front x) ++ (l ++ filter (is_at x) (steps_at x (back x))))
      (below_none n x (λ m. outside n (child x m) (within_shorter x m [])))
      ∙ ap (λ l. steps_at x (front x) ++ l) (filter-own x (back x))

  -- the tree has the steps of a path that isn't too far down
  inside : OnTheWay → (r : Path) (n : ℕ) (q : Path) → length r < n → q ++ r ≡ x → here n q ≡ steps_at x (front x) ++ steps_at x (back x)
  inside way r zero q l e = absurd (omega arith)
  inside way [] (suc n) q l e =
      subst (λ y. here (suc n) y ≡ steps_at x (front x) ++ steps_at x (back x)) (sym (sym (append-nil q) ∙ e)) (at_own n)
  inside way (name ∷ r) (suc n) q l e =
      let w = way q name r e in
      let shorter : length r < n = omega arith in
      here-suc n q
      ∙ ap (λ l. l ++ (below n q ++ filter (is_at x) (steps_at q (back q)))) (filter-other x q (front q) apart)
      ∙ ap (λ l. below n q ++ l) (filter-other x q (back q) apart)
      ∙ append-nil (below n q)
      ∙ ap (λ b. filter (is_at x) (cond b (by_names (steps_by d front back n) q (names_below d q)) [])) w.0
      ∙ among_one n q name (names_below d q) (ordered_below d q) w.1 (λ m z. outside n (child q m) (elsewhere m z))
      ∙ inside way r n (child q name) shorter (append_assoc q (name ∷ []) r ∙ e)
    where
      apart : path_eq q x ≡ false
      apart = ap (path_eq q) (sym e) ∙ path_eq-longer q name r

      elsewhere : (m : Name) → bytes_eq m name ≡ false → is_within (child q m) x ≡ false
      elsewhere m z = ap (is_within (child q m)) (sym e) ∙ within_other q r m name z

module _ (d : DriveInput) (setting : Served d) (late : Bool) (height : ℕ) (enough : 129 ≤ height) where
  abbrev tree : Path → List Step
  tree x = filter (is_at x) (tree_steps d late height [])

  abbrev waiting : Path → List Step
  waiting x = filter (is_at x) (late_steps d late height [])

  together : (x : Path)
      → (steps_at x (first_actions d late x) ++ steps_at x (last_actions d x))
      ++ (steps_at x (late_actions d late x) ++ []) ≡ path_steps d x
  together x =
      append_assoc (steps_at x (first_actions d late x)) (steps_at x (last_actions d x)) (steps_at x (late_actions d late x) ++ [])
      ∙ ap (λ l. steps_at x (first_actions d late x) ++ (steps_at x (last_actions d x) ++ l))
      (append-nil (steps_at x (late_actions d late x)))
      ∙ ap (λ l. steps_at x (first_actions d late x) ++ l) (sym (steps_at-append x (last_actions d x) (late_actions d late x)))
      ∙ sym (steps_at-append x (first_actions d late x) (last_actions d x ++ late_actions d late x))
      ∙ ap (steps_at x) (three_parts d late x)

  -- the whole list has the steps of each path
  pub at_each_path : (x : Path) → filter (is_at x) (drive_steps d late height) ≡ path_steps d x
  at_each_path x =
      filter-append (is_at x) (tree_steps d late height []) (late_steps d late height []) ∙ by (path_actions d x) refl
    where
      by : (l : List Action) → path_actions d x ≡ l → tree x ++ waiting x ≡ path_steps d x
      by [] e =
          let one = empty_parts (first_actions d late x) (last_actions d x ++ late_actions d late x) (three_parts d late x ∙ e) in
          let two = empty_parts (last_actions d x) (late_actions d late x) one.1 in
          ap (λ l. l ++ waiting x) (nowhere d (first_actions d late) (last_actions d) x one.0 two.0 height [])
          ∙ nowhere d (late_actions d late) no_actions x two.1 refl height []
          ∙ sym (ap (steps_at x) e)
      by (a ∷ l) e =
          let some : path_actions d x ≢ [] = λ z. cons (sym e ∙ z) in
          let short : length x ≤ 128 = actions_short d setting x some in
          let way : (q : Path) (name : Name) (r : Path) → q ++ name ∷ r ≡ x
          → (enters_directory d q ≡ true) × (has_name (names_below d q) name ≡ true)
          = λ q name r u. on_the_way d setting q name r (λ z. some (sym (ap (path_actions d) u) ∙ z)) in
          ap (λ l. l ++ waiting x) (inside d (first_actions d late) (last_actions d) x way x height [] (omega arith) refl)
          ∙ ap (λ l. (steps_at x (first_actions d late x) ++ steps_at x (last_actions d x)) ++ l)
          (inside d (late_actions d late) no_actions x way x height [] (omega arith) refl)
          ∙ together x
        where
          cons : a ∷ l ≡ [] → ⊥
          cons q = cc
