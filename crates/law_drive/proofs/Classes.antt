-- A path has steps only below a directory that is opened or added.
use Rattle.std.proofs.Common.{append_assoc, append-nil, ◌≡◌, ◌≢◌, ℕ, ◌+◌, ◌≤◌, Bool, true, false, ◌&&◌, ◌||◌, not, List, [], ◌∷◌, ◌++◌}
use Rattle.std.proofs.Common.{length, refl, sym, ◌∙◌, ap, true≢false}
use Rattle.std.specs.Prelude.{Option, Some, None, is_some, cond}
use Rattle.std.specs.List.{list_any}
use Rattle.std.proofs.lemmas.Bool.{eqb-true, or_parts, and_parts, not-false}
use Rattle.std.proofs.Math.Bool.{and-false}
use Rattle.std.proofs.lemmas.Option.{same_Some}
use Rattle.svn_lists.proofs.Tests.{nat_eq-same}
use Rattle.svn_types.specs.Names.{Path}
use Rattle.svn_types.specs.Paths.{path_eq, is_below, child, is_root}
use Rattle.svn_types.specs.declared.kind.Kind.{Kind}
use Rattle.svn_types.specs.declared.kind.Kind.TheVariants.{File, Directory}
use Rattle.svn_types.specs.Pairs.{value_of}
use Rattle.svn_types.proofs.NameLemmas.{Name}
use Rattle.svn_types.proofs.PathLemmas.{same_path, path_ind, is_root-child, is_below-longer}
pub use Rattle.svn_types.proofs.PathLemmas.{is_below-child, below_from_child as is_within-longer}
use Rattle.svn_repo.specs.Readings.{is_directory, IsHistory, are_related, is_directory_at, line_of, kind_of, entries_of}
use Rattle.svn_repo.specs.History.{History, look}
use Rattle.svn_report.specs.declared.entry.ReportEntry.{ReportEntry}
use Rattle.svn_report.specs.Reports.{entry_at, has_entry_below}
use Rattle.svn_model.specs.Sources.{Reported, reported, starts_empty, is_set_or_link, linked_or, source, governing_revision}
use Rattle.svn_editor.specs.declared.mode.Mode.{Mode}
use Rattle.svn_editor.specs.declared.mode.Mode.TheVariants.{Update, SwitchTo}
use Rattle.svn_editor.specs.Steps.{Delete}
use Rattle.svn_model.specs.Steps.{is_touched, is_new, is_gone, starts_empty_at, touched_actions, new_actions, entered_actions, path_actions}
use Rattle.svn_editor.specs.Calls.{number_eq}
use Rattle.svn_model.specs.Follow.{DriveInput, Followed, candidate, root_path, follow, follow_child, is_kept, target_path, source_node}
use Rattle.svn_model.specs.Follow.{target_node}
use Rattle.svn_model.proofs.Children.{entry_below, look-child, follow-child, follow-here, parent_is_kept-child}
use Rattle.law_drive.proofs.Reporting.{is_child, own_governs, own-is, open_above, source_below, shown_source, source-open}

-- ---- paths below a path

none_below-child : (es : List (Path × ReportEntry)) (p : Path) (name : Name) → list_any (λ e. is_below p e.0) es ≡ false
    → list_any (λ e. is_below (child p name) e.0) es ≡ false
none_below-child [] p name h = refl
none_below-child (e ∷ es) p name h =
    let parts = or_parts (is_below p e.0) (list_any (λ f. is_below p f.0) es) h in
    by (is_below (child p name) e.0) refl parts.0 (none_below-child es p name parts.1)
  where
    by : (b : Bool) → is_below (child p name) e.0 ≡ b → is_below p e.0 ≡ false → list_any (λ f. is_below (child p name) f.0) es ≡ false
        → (b || list_any (λ f. is_below (child p name) f.0) es) ≡ false
    by true q k ih = absurd (true≢false (sym (is_below-longer p e.0 name q) ∙ k))
    by false q k ih = ih

none_at-child : (es : List (Path × ReportEntry)) (p : Path) (name : Name) → list_any (λ e. is_below p e.0) es ≡ false
    → entry_at es (child p name) ≡ None
none_at-child [] p name h = refl
none_at-child (e ∷ es) p name h =
    let parts = or_parts (is_below p e.0) (list_any (λ f. is_below p f.0) es) h in
    by (path_eq e.0 (child p name)) refl parts.0 (none_at-child es p name parts.1)
  where
    by : (b : Bool) → path_eq e.0 (child p name) ≡ b → is_below p e.0 ≡ false → entry_at es (child p name) ≡ None
        → cond b (Some e.1) (entry_at es (child p name)) ≡ None
    by true q k ih = absurd (true≢false (sym (ap (is_below p) (same_path e.0 (child p name) q) ∙ is_below-child p name) ∙ k))
    by false q k ih = ih

-- ---- kept paths

module _ (d : DriveInput) where
  -- the candidate at which a child would be kept
  abbrev candidate_at : Path → Name → Path
  candidate_at p name = candidate d.mode (reported d.report (child p name)).repos_path (child (target_path d p) name)

  here-child : (p : Path) (name : Name) → (follow_child d (follow d p) name).here ≡ reported d.report (child p name)
  here-child p name = sym (ap (λ (f : Followed). f.here) (follow-child d p name)) ∙ follow-here d (child p name)

  pub is_kept-child : (p : Path) (name : Name)
      → is_kept d (child p name)
      ≡ (is_kept d p && are_related d.history (source_node d (child p name)) (look d.history d.target (candidate_at p name)))
  is_kept-child p name =
      ap (λ (f : Followed). f.is_kept) (follow-child d p name)
      ∙ ap
      (λ s. is_kept d p
      && are_related d.history (source d.history s)
      (look d.history d.target (candidate d.mode s.repos_path (child (target_path d p) name))))
      (here-child p name)
      ∙ ap (λ s. is_kept d p && are_related d.history (source d.history s) (look d.history d.target (candidate_at p name)))
      (sym (follow-here d (child p name)))

  pub target_path-child : (p : Path) (name : Name)
      → target_path d (child p name) ≡ cond (is_kept d (child p name)) (candidate_at p name) (child (target_path d p) name)
  target_path-child p name =
      ap (λ (f : Followed). f.target_path) (follow-child d p name)
      ∙ ap
      (λ k. cond k (candidate d.mode (follow_child d (follow d p) name).here.repos_path (child (target_path d p) name))
      (child (target_path d p) name))
      (sym (ap (λ (f : Followed). f.is_kept) (follow-child d p name)))
      ∙ ap
      (λ s. cond (is_kept d (child p name)) (candidate d.mode s.repos_path (child (target_path d p) name))
      (child (target_path d p) name))
      (here-child p name)

-- in a switch the new root and the path make the path in the target
pub switched_to : (d : DriveInput) (root : Path) → d.mode ≡ SwitchTo root → (p : Path) → target_path d p ≡ root ++ p
switched_to d root m =
    path_ind (λ p. target_path d p ≡ root ++ p) (ap (λ x. root_path x d.report.root) m ∙ sym (append-nil root)) (λ p name ih.
    target_path-child d p name
    ∙ ap (λ x. cond (is_kept d (child p name)) (candidate x (reported d.report (child p name)).repos_path (child (target_path d p) name))
    (child (target_path d p) name)) m
    ∙ same (is_kept d (child p name)) (child (target_path d p) name) ∙ ap (λ q. child q name) ih ∙ append_assoc root p (name ∷ []))
  where
    same : (b : Bool) (x : Path) → cond b x x ≡ x
    same true x = refl
    same false x = refl

-- a request that can be served: the target has the root, what is reported is in directories, and no path is much longer than its
-- repository path
pub record Served (d : DriveInput) : Type 0 where
  pub history : IsHistory d.history
  pub has_target : are_related d.history (source_node d []) (target_node d []) ≡ true
  pub parents : (p : Path) (name : Name) → is_some (source_node d (child p name)) ≡ true
      → is_directory_at d.history (source_node d p) ≡ true
  pub near : (p : Path) → length p ≤ length (reported d.report p).repos_path + 64

pub none_related : (h : History) (o : Option ℕ) → are_related h o None ≡ true → ⊥
none_related h None q = true≢false (sym q)
none_related h (Some m) q = true≢false (sym q)

pub both_nodes : (h : History) (a b : Option ℕ) → are_related h a b ≡ true → number_eq a b ≡ true → (n : ℕ) × (a ≡ Some n) × (b ≡ Some n)
both_nodes h None b r e = absurd (true≢false (sym r))
both_nodes h (Some m) None r e = absurd (true≢false (sym r))
both_nodes h (Some m) (Some n) r e = (n, ap Some (eqb-true m n e), refl)

module _ (d : DriveInput) (setting : Served d) where
  abbrev h : History
  h = d.history

  abbrev says : Path → Reported
  says p = reported d.report p

  pub kept_related : (p : Path) → is_kept d p ≡ true → are_related h (source_node d p) (target_node d p) ≡ true
  kept_related =
      path_ind (λ p. is_kept d p ≡ true → are_related h (source_node d p) (target_node d p) ≡ true) (λ k. setting.has_target) child_case
    where
      child_case : (p : Path) (name : Name) → (is_kept d p ≡ true → are_related h (source_node d p) (target_node d p) ≡ true)
          → is_kept d (child p name) ≡ true → are_related h (source_node d (child p name)) (target_node d (child p name)) ≡ true
      child_case p name ih k =
          let parts =
          and_parts (is_kept d p) (are_related h (source_node d (child p name)) (look h d.target (candidate_at d p name)))
          (sym (is_kept-child d p name) ∙ k) in
          ap (λ q. are_related h (source_node d (child p name)) (look h d.target q))
          (target_path-child d p name ∙ ap (λ b. cond b (candidate_at d p name) (child (target_path d p) name)) k) ∙ parts.1

  -- in an update a kept path leads to its own repository path
  pub own_path : d.mode ≡ Update → (p : Path) → is_kept d p ≡ true → target_path d p ≡ (says p).repos_path
  own_path e =
      path_ind (λ p. is_kept d p ≡ true → target_path d p ≡ (says p).repos_path) (λ k. ap (λ m. root_path m d.report.root) e)
      (λ p name ih k.
      target_path-child d p name ∙ ap (λ b. cond b (candidate_at d p name) (child (target_path d p) name)) k
      ∙ ap (λ m. candidate m (says (child p name)).repos_path (child (target_path d p) name)) e)

  pub kept_path : (m : Mode) → d.mode ≡ m → (p : Path) → is_kept d p ≡ true → (name : Name) → (says (child p name)).own ≡ None
      → candidate m (says (child p name)).repos_path (child (target_path d p) name) ≡ child (target_path d p) name
  kept_path (SwitchTo root) e p k name o = refl
  kept_path Update e p k name o =
      (is_child d.report p name).repos_path ∙ ap (λ x. linked_or x (child (says p).repos_path name)) o
      ∙ ap (λ q. child q name) (sym (own_path e p k))

  -- a kept path that isn't touched has one node in source and target, is complete, and has no entry below
  pub untouched_same : (p : Path) → is_kept d p ≡ true → is_touched d p ≡ false
      → (n : ℕ) × (source_node d p ≡ Some n) × (target_node d p ≡ Some n) × (starts_empty_at d p ≡ false)
      × (has_entry_below d.report.entries p ≡ false)
  untouched_same p k t =
      let or1 =
      or_parts (is_root p || not (number_eq (source_node d p) (target_node d p)) || starts_empty_at d p)
      (has_entry_below d.report.entries p)
      (sym (ap
      (λ b. b && (is_root p || not (number_eq (source_node d p) (target_node d p)) || starts_empty_at d p
      || has_entry_below d.report.entries p))
      k) ∙ t) in
      let or2 = or_parts (is_root p || not (number_eq (source_node d p) (target_node d p))) (starts_empty_at d p) or1.0 in
      let or3 = or_parts (is_root p) (not (number_eq (source_node d p) (target_node d p))) or2.0 in
      let both = both_nodes h (source_node d p) (target_node d p) (kept_related p k) (not-false _ or3.1) in
      (both.0, both.1, both.2, or2.1, or1.1)

  -- the source and the target of a child are the entry of the node that both have at the path
  record SameBelow (p : Path) (name : Name) : Type 0 where
    node : Option ℕ
    in_source : source_node d (child p name) ≡ node
    in_target : look h d.target (candidate_at d p name) ≡ node
    in_place : look h d.target (child (target_path d p) name) ≡ node
    no_entry : (says (child p name)).own ≡ None
    none_below : has_entry_below d.report.entries (child p name) ≡ false

  same_below : (p : Path) (name : Name) → is_kept d p ≡ true → is_touched d p ≡ false → SameBelow p name
  same_below p name k t =
      let same = untouched_same p k t in
      let n = same.0 in
      let own : (says (child p name)).own ≡ None = own-is d.report (child p name) ∙ none_at-child d.report.entries p name same.4 in
      let src : source h (says p) ≡ Some n = sym (ap (source h) (follow-here d p)) ∙ same.1 in
      let place : look h d.target (child (target_path d p) name) ≡ value_of (entries_of h n) name =
      look-child h d.target (target_path d p) name ∙ ap (λ x. entry_below h x name) same.2 in
      record {
        node = value_of (entries_of h n) name;
        in_source =
            ap (source h) (follow-here d (child p name))
            ∙ from_source n own src (kind_of h n) refl
            (sym (ap (λ b. starts_empty (follow d p).here.own && b) (ap (is_directory_at h) same.1)) ∙ same.3) same.2;
        in_target = ap (look h d.target) (kept_path d.mode refl p k name own) ∙ place;
        in_place = place;
        no_entry = own;
        none_below = none_below-child d.report.entries p name same.4;
      }
    where
      from_source : (n : ℕ) → (says (child p name)).own ≡ None → source h (says p) ≡ Some n → (kind : Kind) → kind_of h n ≡ kind
          → (starts_empty (follow d p).here.own && is_directory (kind_of h n)) ≡ false → target_node d p ≡ Some n
          → source h (says (child p name)) ≡ value_of (entries_of h n) name
      from_source n own src File kd st tgt =
          let leaf = setting.history.files_are_leaves d.target (target_path d p) n tgt kd in
          source_below h (says p) (says (child p name)) name (is_child d.report p name) own
          (ap (λ x. entry_below h x name) (shown_source h (says p) n src).1 ∙ ap (λ es. value_of es name) leaf)
          ∙ sym (ap (λ es. value_of es name) leaf)
      from_source n own src Directory kd st tgt =
          source-open h (says p) (says (child p name)) name n (is_child d.report p name) own src
          (open_above (says p) (own_governs d.report p)
          (shown (is_set_or_link (says p).governing) (is_some (says p).own || not (starts_empty (says p).governing))
          (shown_source h (says p) n src).0)
          (and_dir (starts_empty (says p).own) (is_directory (kind_of h n)) (ap is_directory kd)
          (ap (λ s. starts_empty s.own && is_directory (kind_of h n)) (sym (follow-here d p)) ∙ st)))
        where
          shown : (k v : Bool) → not (k && v) ≡ false → v ≡ true
          shown true true q = refl
          shown true false q = absurd (true≢false q)
          shown false v q = absurd (true≢false q)

          and_dir : (x y : Bool) → y ≡ true → (x && y) ≡ false → x ≡ false
          and_dir true true r q = absurd (true≢false q)
          and_dir true false r q = absurd (true≢false (sym r))
          and_dir false y r q = refl

  no_actions : (c : Path) → is_gone d c ≡ false → entered_actions d c (target_node d c) ≡ [] → path_actions d c ≡ []
  no_actions c g e = ap (λ b. cond b (Delete (governing_revision (follow d c).here) ∷ []) [] ++ entered_actions d c (target_node d c)) g ∙ e

  no_entered : (c : Path) → is_touched d c ≡ false → is_new d c ≡ false → (o : Option ℕ) → entered_actions d c o ≡ []
  no_entered c t n None = refl
  no_entered c t n (Some m) =
      ap (λ b. cond b (touched_actions d c m (kind_of h m)) (cond (is_new d c) (new_actions d m (kind_of h m)) [])) t
      ∙ ap (λ b. cond b (new_actions d m (kind_of h m)) []) n

  -- nothing is done below a path that is kept and not touched
  pub untouched_child : (p : Path) (name : Name) → is_kept d p ≡ true → is_touched d p ≡ false → path_actions d (child p name) ≡ []
  untouched_child p name k t = by s.node refl
    where
      s : SameBelow p name
      s = same_below p name k t

      c : Path
      c = child p name

      by : (o : Option ℕ) → s.node ≡ o → path_actions d c ≡ []
      by None q =
          let kept : is_kept d c ≡ false =
          is_kept-child d p name ∙ ap (λ o. is_kept d p && are_related h o (look h d.target (candidate_at d p name))) (s.in_source ∙ q)
          ∙ and-false (is_kept d p) in
          let target : target_node d c ≡ None =
          ap (look h d.target) (target_path-child d p name ∙ ap (λ b. cond b (candidate_at d p name) (child (target_path d p) name)) kept)
          ∙ s.in_place ∙ q in
          no_actions c (ap (λ o. is_some o && not (follow d c).is_kept && (follow d c).parent_is_kept) (s.in_source ∙ q))
          (ap (entered_actions d c) target)
      by (Some m) q =
          let kept : is_kept d c ≡ true =
          is_kept-child d p name ∙ ap (λ b. b && are_related h (source_node d c) (look h d.target (candidate_at d p name))) k
          ∙ ap (λ o. are_related h o (look h d.target (candidate_at d p name))) (s.in_source ∙ q)
          ∙ ap (are_related h (Some m)) (s.in_target ∙ q) ∙ nat_eq-same (line_of h m) in
          let target : target_node d c ≡ Some m =
          ap (look h d.target) (target_path-child d p name ∙ ap (λ b. cond b (candidate_at d p name) (child (target_path d p) name)) kept)
          ∙ s.in_target ∙ q in
          let same : number_eq (source_node d c) (target_node d c) ≡ true =
          ap (λ o. number_eq o (target_node d c)) (s.in_source ∙ q) ∙ ap (number_eq (Some m)) target ∙ nat_eq-same m in
          let own : (follow d c).here.own ≡ None = ap (λ (x : Reported). x.own) (follow-here d c) ∙ s.no_entry in
          let touched : is_touched d c ≡ false =
          ap
          (λ b. (follow d c).is_kept
          && (b || not (number_eq (source_node d c) (target_node d c)) || starts_empty_at d c
          || has_entry_below d.report.entries c))
          (is_root-child p name)
          ∙ ap (λ b. (follow d c).is_kept && (not b || starts_empty_at d c || has_entry_below d.report.entries c)) same
          ∙ ap (λ o. (follow d c).is_kept && (starts_empty o && is_directory_at h (source_node d c) || has_entry_below d.report.entries c))
          own
          ∙ ap (λ b. (follow d c).is_kept && b) s.none_below
          ∙ and-false (follow d c).is_kept in
          no_actions c
          (ap (λ b. is_some (source_node d c) && not b && (follow d c).parent_is_kept) kept
          ∙ and_and_false (is_some (source_node d c)) (follow d c).parent_is_kept)
          (no_entered c touched (ap (λ b. not b && is_some (target_node d c)) kept) (target_node d c))
        where
          and_and_false : (x y : Bool) → (x && false && y) ≡ false
          and_and_false true y = refl
          and_and_false false y = refl

  -- nothing is done below a path that is neither kept nor in the result
  pub outside_child : (p : Path) (name : Name) → is_kept d p ≡ false → target_node d p ≡ None → path_actions d (child p name) ≡ []
  outside_child p name k t =
      let c = child p name in
      let kept : is_kept d c ≡ false =
      is_kept-child d p name ∙ ap (λ b. b && are_related h (source_node d c) (look h d.target (candidate_at d p name))) k in
      let target : target_node d c ≡ None =
      ap (look h d.target) (target_path-child d p name ∙ ap (λ b. cond b (candidate_at d p name) (child (target_path d p) name)) kept)
      ∙ look-child h d.target (target_path d p) name ∙ ap (λ x. entry_below h x name) t in
      no_actions c
      (ap (λ b. is_some (source_node d c) && not (follow d c).is_kept && b) (parent_is_kept-child d p name ∙ k)
      ∙ and-false (is_some (source_node d c) && not (follow d c).is_kept))
      (ap (entered_actions d c) target)

  -- where a child has a source, the path's is a directory
  pub source_is_directory : (p : Path) (name : Name) → is_some (source_node d (child p name)) ≡ true
      → (m : ℕ) × (source_node d p ≡ Some m) × (kind_of h m ≡ Directory)
  source_is_directory p name k = by (source_node d p) (setting.parents p name k)
    where
      is_dir : (k : Kind) → is_directory k ≡ true → k ≡ Directory
      is_dir File e = absurd (true≢false (sym e))
      is_dir Directory e = refl

      by : (o : Option ℕ) → is_directory_at h o ≡ true → (m : ℕ) × (o ≡ Some m) × (kind_of h m ≡ Directory)
      by None e = absurd (true≢false (sym e))
      by (Some m) e = (m, refl, is_dir (kind_of h m) e)

  related_source : (m : ℕ) (o : Option ℕ) → are_related h (Some m) o ≡ true → (n : ℕ) × (o ≡ Some n) × (line_of h m ≡ line_of h n)
  related_source m None q = absurd (true≢false (sym q))
  related_source m (Some n) q = (n, refl, eqb-true (line_of h m) (line_of h n) q)

  standing : (p : Path) (m : ℕ) → source_node d p ≡ Some m → look h (governing_revision (says p)) (says p).repos_path ≡ Some m
  standing p m e = (shown_source h (says p) m (sym (ap (source h) (follow-here d p)) ∙ e)).1

  -- a directory in the source that is kept is one in the target
  pub kept_directory : (p : Path) (m n : ℕ) → is_kept d p ≡ true → source_node d p ≡ Some m → target_node d p ≡ Some n
      → kind_of h n ≡ kind_of h m
  kept_directory p m n k s t =
      let r =
      related_source m (Some n)
      (sym (ap (λ o. are_related h o (Some n)) s) ∙ sym (ap (are_related h (source_node d p)) t) ∙ kept_related p k) in
      let same : r.0 ≡ n = same_Some r.0 n (sym r.1) in
      sym (setting.history.one_line_one_kind (governing_revision (says p)) d.target (says p).repos_path (target_path d p) m n
      (standing p m s) t (r.2 ∙ ap (line_of h) same))

  -- nothing is done below a file
  file_child : (p : Path) (name : Name) (n : ℕ) → target_node d p ≡ Some n → kind_of h n ≡ File → path_actions d (child p name) ≡ []
  file_child p name n t f = by (is_some (source_node d c)) (is_kept d p) refl refl
    where
      c : Path
      c = child p name

      place : look h d.target (child (target_path d p) name) ≡ None
      place =
          look-child h d.target (target_path d p) name ∙ ap (λ x. entry_below h x name) t
          ∙ ap (λ es. value_of es name) (setting.history.files_are_leaves d.target (target_path d p) n t f)

      not_kept : is_kept d c ≡ false → is_gone d c ≡ false → path_actions d c ≡ []
      not_kept k g =
          no_actions c g
          (ap (entered_actions d c)
          (ap (look h d.target)
          (target_path-child d p name ∙ ap (λ b. cond b (candidate_at d p name) (child (target_path d p) name)) k)
          ∙ place))

      no_source : is_some (source_node d c) ≡ false → source_node d c ≡ None
      no_source = by_value (source_node d c)
        where
          by_value : (o : Option ℕ) → is_some o ≡ false → o ≡ None
          by_value None q = refl
          by_value (Some m) q = absurd (true≢false q)

      by : (b k : Bool) → is_some (source_node d c) ≡ b → is_kept d p ≡ k → path_actions d c ≡ []
      by b false q r =
          let kept : is_kept d c ≡ false =
          is_kept-child d p name ∙ ap (λ x. x && are_related h (source_node d c) (look h d.target (candidate_at d p name))) r in
          not_kept kept
          (ap (λ x. is_some (source_node d c) && not (follow d c).is_kept && x) (parent_is_kept-child d p name ∙ r)
          ∙ and-false (is_some (source_node d c) && not (follow d c).is_kept))
      by false true q r =
          let kept : is_kept d c ≡ false =
          is_kept-child d p name ∙ ap (λ o. is_kept d p && are_related h o (look h d.target (candidate_at d p name))) (no_source q)
          ∙ and-false (is_kept d p) in
          not_kept kept (ap (λ x. x && not (follow d c).is_kept && (follow d c).parent_is_kept) q)
      by true true q r =
          let s = source_is_directory p name q in
          let one : Directory ≡ File = sym s.2 ∙ sym (kept_directory p s.0 n r s.1 t) ∙ f in
          cc

  -- what a path is below which something is done
  pub record EnteredDirectory (p : Path) : Type 0 where
    pub node : ℕ
    pub target : target_node d p ≡ Some node
    pub directory : kind_of h node ≡ Directory
    pub entered : (is_touched d p || is_new d p) ≡ true

  pub entered_below : (p : Path) (name : Name) → (path_actions d (child p name) ≢ []) → EnteredDirectory p
  entered_below p name some = by (target_node d p) (is_kept d p) (is_touched d p) refl refl refl
    where
      by : (o : Option ℕ) (k t : Bool) → target_node d p ≡ o → is_kept d p ≡ k → is_touched d p ≡ t → EnteredDirectory p
      by None false t q r u = absurd (some (outside_child p name r q))
      by None true t q r u = absurd (none_related h (source_node d p) (sym (ap (are_related h (source_node d p)) q) ∙ kept_related p r))
      by (Some n) true false q r u = absurd (some (untouched_child p name r u))
      by (Some n) k true q r u = by_kind (kind_of h n) refl
        where
          by_kind : (kind : Kind) → kind_of h n ≡ kind → EnteredDirectory p
          by_kind File f = absurd (some (file_child p name n q f))
          by_kind Directory f = record { node = n; target = q; directory = f; entered = ap (λ b. b || is_new d p) u }
      by (Some n) false false q r u = by_kind (kind_of h n) refl
        where
          by_kind : (kind : Kind) → kind_of h n ≡ kind → EnteredDirectory p
          by_kind File f = absurd (some (file_child p name n q f))
          by_kind Directory f = record {
            node = n;
            target = q;
            directory = f;
            entered = ap (λ b. b || is_new d p) u ∙ ap (λ b. not b && is_some (target_node d p)) r ∙ ap is_some q;
          }
