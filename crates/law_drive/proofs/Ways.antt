-- Names in their order, and the names that lead to a path with actions.
use Rattle.std.proofs.Common.{◌≡◌, ◌≢◌, ℕ, ◌+◌, ◌≤◌, Bool, true, false, ◌&&◌, ◌||◌, not, List, [], ◌∷◌, ◌++◌, length, refl, sym, ◌∙◌, ap}
use Rattle.std.proofs.Common.{subst, true≢false, append_assoc, append-nil, length-append, arith}
use Rattle.std.specs.Prelude.{Option, Some, None, is_some, cond, fold, bytes_eq}
use Rattle.std.specs.List.{list_any}
use Rattle.std.specs.BTreeSet.{insert_key}
use Rattle.std.specs.declared.cmp.Ordering.{Ordering}
use Rattle.std.specs.declared.cmp.Ordering.TheVariants.{Less, Equal, Greater}
use Rattle.std.specs.Ordering.{is_lt, match_ordering}
use Rattle.std.proofs.lemmas.List.Folds.{list_any-append}
use Rattle.std.proofs.lemmas.Option.{none-some}
use Rattle.std.proofs.lemmas.Bool.{or_left, or_right, or_parts, false_from_ne_true, not-false}
use Rattle.svn_lists.proofs.Equality.{bytes_eq-same, bytes_eq-symm}
use Rattle.svn_types.specs.Names.{Path, name_cmp}
use Rattle.svn_types.specs.Paths.{path_eq, child}
use Rattle.svn_types.specs.declared.kind.Kind.TheVariants.{Directory}
use Rattle.svn_types.proofs.NameLemmas.{Name, has_name, has_name-fold, named_value, lt_chain, lt_apart}
use Rattle.svn_types.proofs.NameLemmas.{flipped}
use Rattle.svn_types.proofs.PathLemmas.{same_path, path_ind}
use Rattle.svn_repo.specs.History.{look}
use Rattle.svn_repo.specs.Readings.{is_directory, is_directory_at, are_related, entries_of}
use Rattle.svn_report.specs.declared.entry.ReportEntry.{ReportEntry}
use Rattle.svn_report.specs.Reports.{entry_at}
use Rattle.svn_editor.specs.declared.mode.Mode.{Mode}
use Rattle.svn_editor.specs.declared.mode.Mode.TheVariants.{Update, SwitchTo}
use Rattle.svn_editor.specs.Steps.{Delete}
use Rattle.svn_model.specs.Sources.{Reported, source, starts_empty, reported, governing_revision}
use Rattle.svn_model.specs.Follow.{DriveInput, candidate, follow, is_kept, target_path, source_node, target_node}
use Rattle.svn_model.specs.Steps.{entered_actions, path_actions}
use Rattle.svn_model.specs.Tree.{entry_names, next_name, names_in, names_below, enters_directory}
use Rattle.svn_model.proofs.Children.{entry_below, look-child, follow-here}
use Rattle.law_drive.proofs.Reporting.{is_child, own-is, hidden_below, source_inherits, source-open, shown_source}
use Rattle.law_drive.proofs.Classes.{Served, entered_below, kept_related, target_path-child, own_path, switched_to}
use Rattle.law_drive.proofs.Courses.{is_entry_of, entered_entry}

-- ---- names in order are apart

abbrev pub not_before : Name → Name → Bool
not_before n m = not (is_lt (name_cmp n m))

-- each name is before all later ones
abbrev pub Ordered : List (List ℕ) → Type 0
Ordered [] = Unit {0}
Ordered (n ∷ ns) = (list_any (not_before n) ns ≡ false) × Ordered ns

none_before : (n k : Name) (ms : List (List ℕ)) → is_lt (name_cmp n k) ≡ true → list_any (not_before k) ms ≡ false
    → list_any (not_before n) ms ≡ false
none_before n k [] h e = refl
none_before n k (m ∷ ms) h e =
    let parts = or_parts (not_before k m) (list_any (not_before k) ms) e in
    ap (λ b. not b || list_any (not_before n) ms) (lt_chain n k m h (not-false (is_lt (name_cmp k m)) parts.0))
    ∙ none_before n k ms h parts.1

any-insert_key : (f : Name → Bool) (ms : List (List ℕ)) (n : Name) → f n ≡ false → list_any f ms ≡ false
    → list_any f (insert_key name_cmp ms n) ≡ false
any-insert_key f [] n h e = ap (λ b. b || false) h
any-insert_key f (k ∷ ms) n h e = by (name_cmp n k) (or_parts (f k) (list_any f ms) e) (any-insert_key f ms n h)
  where
    by : (o : Ordering) → (f k ≡ false) × (list_any f ms ≡ false) → (list_any f ms ≡ false → list_any f (insert_key name_cmp ms n) ≡ false)
        → list_any f (match_ordering o (n ∷ k ∷ ms) (k ∷ ms) (k ∷ insert_key name_cmp ms n)) ≡ false
    by Less parts ih = ap (λ b. b || (f k || list_any f ms)) h ∙ e
    by Equal parts ih = e
    by Greater parts ih = ap (λ b. b || list_any f (insert_key name_cmp ms n)) parts.0 ∙ ih parts.1

ordered-insert_key : (ms : List (List ℕ)) (n : Name) → Ordered ms → Ordered (insert_key name_cmp ms n)
ordered-insert_key [] n h = (refl, tt)
ordered-insert_key (k ∷ ms) n h = by (name_cmp n k) refl (ordered-insert_key ms n h.1)
  where
    by : (o : Ordering) → name_cmp n k ≡ o → Ordered (insert_key name_cmp ms n)
        → Ordered (match_ordering o (n ∷ k ∷ ms) (k ∷ ms) (k ∷ insert_key name_cmp ms n))
    by Less c ih = (ap (λ b. not b || list_any (not_before n) ms) (ap is_lt c) ∙ none_before n k ms (ap is_lt c) h.0, h)
    by Equal c ih = h
    by Greater c ih = (any-insert_key (not_before k) ms n (ap not (flipped n k c)) h.0, ih)

pub ordered-fold : (xs ms : List (List ℕ)) → Ordered ms → Ordered (fold (insert_key name_cmp) ms xs)
ordered-fold [] ms h = h
ordered-fold (x ∷ xs) ms h = ordered-fold xs (insert_key name_cmp ms x) (ordered-insert_key ms x h)

pub ordered_apart : (n : Name) (ns : List (List ℕ)) → list_any (not_before n) ns ≡ false → has_name ns n ≡ false
ordered_apart n [] h = refl
ordered_apart n (m ∷ ns) h =
    let parts = or_parts (not_before n m) (list_any (not_before n) ns) h in
    ap (λ b. b || has_name ns n) (bytes_eq-symm m n ∙ lt_apart n m (not-false (is_lt (name_cmp n m)) parts.0)) ∙ ordered_apart n ns parts.1

pub ordered_below : (d : DriveInput) (q : Path) → Ordered (names_below d q)
ordered_below d q = ordered-fold (entry_names d (source_node d q) ++ entry_names d (target_node d q) ++ names_in q d.report.entries) [] tt

-- ---- names that are found

pub named_below : (d : DriveInput) (o : Option ℕ) (name : Name) (n : ℕ) → entry_below d.history o name ≡ Some n
    → has_name (entry_names d o) name ≡ true
named_below d None name n h = absurd (none-some n h)
named_below d (Some m) name n h = named_value (entries_of d.history m) name n h

next_name-child : (p : Path) (name : Name) → next_name p (child p name) ≡ name ∷ []
next_name-child [] name = refl
next_name-child (m ∷ p) name = ap (λ b. cond b (next_name p (child p name)) []) (bytes_eq-same m) ∙ next_name-child p name

named_in : (p : Path) (name : Name) (es : List (Path × ReportEntry)) (x : ReportEntry) → entry_at es (child p name) ≡ Some x
    → has_name (names_in p es) name ≡ true
named_in p name [] x h = absurd (none-some x h)
named_in p name (e ∷ es) x h =
    list_any-append (λ n. bytes_eq n name) (next_name p e.0) (names_in p es) ∙ by (path_eq e.0 (child p name)) refl h (named_in p name es x)
  where
    by : (b : Bool) → path_eq e.0 (child p name) ≡ b → cond b (Some e.1) (entry_at es (child p name)) ≡ Some x
        → (entry_at es (child p name) ≡ Some x → has_name (names_in p es) name ≡ true)
        → (has_name (next_name p e.0) name || has_name (names_in p es) name) ≡ true
    by true q k ih =
        or_left (has_name (next_name p e.0) name) (has_name (names_in p es) name)
        (ap (λ y. has_name (next_name p y) name) (same_path e.0 (child p name) q) ∙ ap (λ ns. has_name ns name) (next_name-child p name)
        ∙ ap (λ b. b || false) (bytes_eq-same name))
    by false q k ih = or_right (has_name (next_name p e.0) name) (has_name (names_in p es) name) (ih k)

module _ (d : DriveInput) (setting : Served d) where
  abbrev says : Path → Reported
  says p = reported d.report p

  abbrev in_source : Path → Name → Bool
  in_source q name = has_name (entry_names d (source_node d q)) name

  abbrev in_target : Path → Name → Bool
  in_target q name = has_name (entry_names d (target_node d q)) name

  abbrev in_report : Path → Name → Bool
  in_report q name = has_name (names_in q d.report.entries) name

  found : (q : Path) (name : Name) → (in_source q name || in_target q name || in_report q name) ≡ true
      → has_name (names_below d q) name ≡ true
  found q name h =
      has_name-fold (entry_names d (source_node d q) ++ entry_names d (target_node d q) ++ names_in q d.report.entries) [] name
      ∙ list_any-append (λ n. bytes_eq n name) (entry_names d (source_node d q) ++ entry_names d (target_node d q))
      (names_in q d.report.entries)
      ∙ ap (λ b. b || in_report q name)
      (list_any-append (λ n. bytes_eq n name) (entry_names d (source_node d q)) (entry_names d (target_node d q)))
      ∙ h

  -- the source of a child is an entry of the source above, or the report names it
  source_named : (q : Path) (name : Name) (n : ℕ) → source_node d (child q name) ≡ Some n → (in_source q name || in_report q name) ≡ true
  source_named q name n s = by_own (says (child q name)).own refl
    where
      here : source d.history (says (child q name)) ≡ Some n
      here = sym (ap (source d.history) (follow-here d (child q name))) ∙ s

      by_source : (says (child q name)).own ≡ None → (o : Option ℕ) (e : Bool) → source d.history (says q) ≡ o
          → starts_empty (says q).governing ≡ e → in_source q name ≡ true
      by_source own None e u v =
          absurd (none-some n (sym (source_inherits d.history (says q) (says (child q name)) name (is_child d.report q name) own u) ∙ here))
      by_source own (Some m) true u v =
          absurd (none-some n (sym (hidden_below d.history (says q) (says (child q name)) name (is_child d.report q name) own v) ∙ here))
      by_source own (Some m) false u v =
          ap (λ o. has_name (entry_names d o) name) (ap (source d.history) (follow-here d q) ∙ u)
          ∙ named_value (entries_of d.history m) name n
          (sym (source-open d.history (says q) (says (child q name)) name m (is_child d.report q name) own u v) ∙ here)

      by_own : (o : Option ReportEntry) → (says (child q name)).own ≡ o → (in_source q name || in_report q name) ≡ true
      by_own (Some x) e =
          or_right (in_source q name) (in_report q name) (named_in q name d.report.entries x (sym (own-is d.report (child q name)) ∙ e))
      by_own None e =
          or_left (in_source q name) (in_report q name)
          (by_source e (source d.history (says q)) (starts_empty (says q).governing) refl refl)

  -- ---- a path with actions has a source, or is new

  related_none : (t : Option ℕ) → are_related d.history None t ≡ true → ⊥
  related_none t e = true≢false (sym e)

  pub new_path : (p : Path) (name : Name) → source_node d (child p name) ≡ None
      → target_path d (child p name) ≡ child (target_path d p) name
  new_path p name s =
      target_path-child d p name
      ∙ ap
      (λ b. cond b (candidate d.mode (reported d.report (child p name)).repos_path (child (target_path d p) name))
      (child (target_path d p) name))
      (false_from_ne_true (is_kept d (child p name)) related)
    where
      related : is_kept d (child p name) ≡ true → ⊥
      related e =
          related_none (target_node d (child p name))
          (sym (ap (λ o. are_related d.history o (target_node d (child p name))) s) ∙ kept_related d setting (child p name) e)

  -- where a path with actions has no source, it has a target
  pub has_either : (p : Path) → path_actions d p ≢ [] → source_node d p ≡ None → (n : ℕ) × (target_node d p ≡ Some n)
  has_either p some s = by (target_node d p) refl
    where
      by : (o : Option ℕ) → target_node d p ≡ o → (n : ℕ) × (o ≡ Some n)
      by (Some n) e = (n, refl)
      by None e = absurd (some
          (ap (λ o. cond (is_some o && not (follow d p).is_kept && (follow d p).parent_is_kept)
          (Delete (governing_revision (follow d p).here) ∷ []) []
          ++ entered_actions d p (target_node d p)) s
          ∙ ap (λ o. entered_actions d p o) e))

  child_named : (q : Path) (name : Name) → path_actions d (child q name) ≢ [] → has_name (names_below d q) name ≡ true
  child_named q name some = found q name (by (source_node d (child q name)) refl)
    where
      three : (a b c : Bool) → (a || c) ≡ true → (a || b || c) ≡ true
      three true b c e = refl
      three false true c e = refl
      three false false c e = e

      middle : (a b c : Bool) → b ≡ true → (a || b || c) ≡ true
      middle true b c e = refl
      middle false true c e = refl
      middle false false c e = absurd (true≢false (sym e))

      by : (o : Option ℕ) → source_node d (child q name) ≡ o → (in_source q name || in_target q name || in_report q name) ≡ true
      by (Some n) e = three (in_source q name) (in_target q name) (in_report q name) (source_named q name n e)
      by None e =
          let t = has_either (child q name) some e in
          middle (in_source q name) (in_target q name) (in_report q name)
          (named_below d (target_node d q) name t.0
          (sym (ap (look d.history d.target) (new_path q name e) ∙ look-child d.history d.target (target_path d q) name) ∙ t.1))

  -- a path has actions where one below it has
  actions_above : (p : Path) (name : Name) → path_actions d (child p name) ≢ [] → path_actions d p ≢ []
  actions_above p name some z =
      let e = entered_below d setting p name some in
      true≢false (sym (entered_entry d p e.node Directory e.target e.directory e.entered) ∙ ap (list_any (is_entry_of Directory)) z)

  actions_upto : (r p : Path) → path_actions d (p ++ r) ≢ [] → path_actions d p ≢ []
  actions_upto [] p some = λ z. some (ap (path_actions d) (append-nil p) ∙ z)
  actions_upto (name ∷ r) p some =
      actions_above p name (actions_upto r (child p name) (λ z. some (ap (path_actions d) (sym (append_assoc p (name ∷ []) r)) ∙ z)))

  -- the way to a path with actions: at each path above, a directory is entered, and the next name is among those below
  pub on_the_way : (q : Path) (name : Name) (r : Path) → path_actions d (q ++ name ∷ r) ≢ []
      → (enters_directory d q ≡ true) × (has_name (names_below d q) name ≡ true)
  on_the_way q name r some =
      let below : path_actions d (child q name) ≢ [] =
      actions_upto r (child q name) (λ z. some (ap (path_actions d) (sym (append_assoc q (name ∷ []) r)) ∙ z)) in
      let e = entered_below d setting q name below in (
        ap (λ b. b && is_directory_at d.history (target_node d q)) e.entered
            ∙ ap (is_directory_at d.history) e.target ∙ ap is_directory e.directory,
        child_named q name below,
      )

  -- ---- paths with actions aren't too long

  source_short : (p : Path) (n : ℕ) → source_node d p ≡ Some n → length p ≤ 128
  source_short p n s =
      let one : length p ≤ length (says p).repos_path + 64 = setting.near p in
      let two : length (says p).repos_path ≤ 64 =
      setting.history.paths_short (governing_revision (says p)) (says p).repos_path n
      (shown_source d.history (says p) n (sym (ap (source d.history) (follow-here d p)) ∙ s)).1 in
      omega arith

  -- in an update a path in the result is at most 64 names longer than its path in the target
  abbrev pub IsNear : Path → Type 0
  IsNear p = (n : ℕ) → target_node d p ≡ Some n → length p ≤ 64 + length (target_path d p)

  near : d.mode ≡ Update → (p : Path) → IsNear p
  near m = path_ind IsNear (λ n t. omega arith) more
    where
      more : (p : Path) (name : Name) → IsNear p → IsNear (child p name)
      more p name ih n t = by (is_kept d (child p name)) refl
        where
          by_target : (o : Option ℕ) → target_node d p ≡ o → entry_below d.history o name ≡ Some n → (m : ℕ) × (o ≡ Some m)
          by_target None e u = absurd (none-some n u)
          by_target (Some k) e u = (k, refl)

          by : (k : Bool) → is_kept d (child p name) ≡ k → length (child p name) ≤ 64 + length (target_path d (child p name))
          by true k =
              let one : length (child p name) ≤ length (says (child p name)).repos_path + 64 = setting.near (child p name) in
              let same : length (target_path d (child p name)) ≡ length (says (child p name)).repos_path =
              ap length (own_path d setting m (child p name) k) in
              omega arith
          by false k =
              let path : target_path d (child p name) ≡ child (target_path d p) name =
              target_path-child d p name
              ∙ ap (λ b. cond b (candidate d.mode (reported d.report (child p name)).repos_path (child (target_path d p) name))
              (child (target_path d p) name)) k in
              let up =
              by_target (target_node d p) refl
              (sym (ap (look d.history d.target) path ∙ look-child d.history d.target (target_path d p) name) ∙ t) in
              let shorter : length p ≤ 64 + length (target_path d p) = ih up.0 up.1 in
              let one : length (child p name) ≡ length p + 1 = length-append p (name ∷ []) in
              let two : length (child (target_path d p) name) ≡ length (target_path d p) + 1 =
              length-append (target_path d p) (name ∷ []) in
              subst (λ q. length (child p name) ≤ 64 + length q) (sym path) (omega arith)

  -- a path in the result is at most 64 names longer than its path in the target
  pub near_target : (p : Path) → IsNear p
  near_target p = by d.mode refl
    where
      by : (m : Mode) → d.mode ≡ m → IsNear p
      by Update e = near e p
      by (SwitchTo root) e =
          λ n t. let one : length (target_path d p) ≡ length root + length p = ap length (switched_to d root e p) ∙ length-append root p in
          omega arith

  target_bound : (p : Path) (n : ℕ) → target_node d p ≡ Some n → length p ≤ 128
  target_bound p n t =
      let one : length p ≤ 64 + length (target_path d p) = near_target p n t in
      let two : length (target_path d p) ≤ 64 = setting.history.paths_short d.target (target_path d p) n t in
      omega arith

  pub actions_short : (p : Path) → path_actions d p ≢ [] → length p ≤ 128
  actions_short p some = by (source_node d p) refl
    where
      by : (o : Option ℕ) → source_node d p ≡ o → length p ≤ 128
      by (Some n) e = source_short p n e
      by None e = let t = has_either p some e in target_bound p t.0 t.1
