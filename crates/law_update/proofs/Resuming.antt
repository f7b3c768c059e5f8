-- A copy that a drive leaves when it stops leads each path to the same place in the target as the copy that it began with.
use Rattle.std.proofs.Common.{◌≡◌, ℕ, Bool, true, false, ◌&&◌, ◌⊎◌, List, [], ◌++◌, refl, sym, ◌∙◌, ap, subst, true≢false, take, inl, inr}
use Rattle.std.specs.Prelude.{Option, Some, None, is_some, option_map, cond}
use Rattle.std.specs.List.{list_any}
use Rattle.std.proofs.lemmas.Bool.{false_from_ne_true, and_parts}
use Rattle.svn_lists.proofs.Options.{some_value}
use Rattle.svn_lists.proofs.Tests.{nat_eq-same}
use Rattle.law_copy.proofs.OneNode.{dir_present, present_stands}
use Rattle.law_update.proofs.Described.{Setting, setting_of, source_looked}
use Rattle.law_drive.proofs.Classes.{switched_to, is_kept-child, target_path-child, kept_related}
use Rattle.svn_types.specs.Names.{Path}
use Rattle.svn_types.specs.Paths.{child}
use Rattle.svn_types.specs.declared.kind.Kind.{Kind}
use Rattle.svn_types.specs.declared.kind.Kind.TheVariants.{File, Directory}
use Rattle.svn_types.proofs.NameLemmas.{Name}
use Rattle.svn_types.proofs.PathLemmas.{path_ind}
use Rattle.svn_repo.specs.History.{History, look}
use Rattle.svn_repo.specs.Readings.{are_related, line_of, kind_of, text_of, props_of}
use Rattle.svn_report.specs.Reports.{ReportView}
use Rattle.svn_model.specs.Sources.{reported, source}
use Rattle.svn_editor.specs.declared.mode.Mode.{Mode}
use Rattle.svn_editor.specs.declared.mode.Mode.TheVariants.{Update, SwitchTo}
use Rattle.svn_editor.specs.Steps.{Step}
use Rattle.svn_editor.specs.declared.call.Call.{Call}
use Rattle.svn_report.specs.LawfulReports.{IsReport}
use Rattle.svn_model.specs.Checks.{IsCheckable}
use Rattle.svn_model.specs.Follow.{DriveInput, root_path, candidate, is_kept, target_path, source_node, target_node}
use Rattle.svn_model.specs.Steps.{IsDriveOf}
use Rattle.svn_model.specs.Drive.{IsDrive}
use Rattle.svn_model.specs.declared.base_node.BaseNode.{BaseNode}
use Rattle.svn_model.specs.Nodes.{WorkingCopy, IsWorkingCopy, IsTrueOf, get_in, is_present, node_revision, node_path, base_node_by}
use Rattle.svn_model.specs.Nodes.{base_node}
use Rattle.svn_model.specs.Crawl.{crawl}
use Rattle.svn_model.specs.Describes.{Describes}
use Rattle.svn_model.specs.Effects.{after}
use Rattle.svn_model.specs.Result.{result}
use Rattle.law_update.proofs.CrawlCheckable.{no_target_fault, crawl_says}
use Rattle.law_update.specs.Laws.{IsTrueCopy, IsRequestOf, reported_again, Resumes, stopped_run_resumes}
use Rattle.svn_model.proofs.Children.{follow-here}
use Rattle.law_drive.proofs.Reporting.{shown_source}
use Rattle.law_drive.proofs.Courses.{is_delete}
use Rattle.law_update.proofs.States.{actions_at, acted, is_deleted_above, state}
use Rattle.law_update.proofs.AfterSteps.{kept_path_is}
use Rattle.law_update.proofs.EndsAsResult.{ends}
use Rattle.law_update.proofs.Progress.{kept_or_old, none_deleted, kept_stays}
use Rattle.law_update.proofs.PrefixStates.{Stands, absent, not_present, old, opened_file, open_directory, finished, stands}
use Rattle.law_update.proofs.PrefixTruth.{kept_target, Reached, under_way, at_end, reached, true_when, prefixes_are_true}

-- ---- a copy that a report describes

-- the source of a present node is the node at its repository path
described_source : (h : History) (r : ReportView) (v : WorkingCopy) → Describes h r v → (p : Path) → is_present (v p) ≡ true
    → source h (reported r p) ≡ look h (node_revision (v p)) (node_path (v p))
described_source h r v d p k =
    let s = some_value (source h (reported r p)) (sym (d p).present ∙ k) in
    s.1 ∙ sym (shown_source h (reported r p) s.0 s.1).1
    ∙ (λ i. look h (sym ((d p).revision k) i) (sym ((d p).repos_path k) i))

related_some : (h : History) (o t : Option ℕ) → are_related h o t ≡ true → is_some o ≡ true
related_some h None t e = absurd (true≢false (sym e))
related_some h (Some m) t e = refl

-- ---- another report, of a copy whose nodes are old ones or the target's

-- what may be at a path of the copy that is left, for the path to lead to the same place
pub data Leads (d : DriveInput) (w : WorkingCopy) (r : ReportView) (p : Path) (found : Option BaseNode) : Type 0 where
  not_there : is_present found ≡ false → is_kept d p ≡ false → Leads d w r p found
  as_before : w p ≡ found → is_present found ≡ true → (is_kept (reported_again d r) p ≡ true → is_kept d p ≡ true) → Leads d w r p found
  at_target : (n : ℕ) → target_node d p ≡ Some n → is_present found ≡ true → node_revision found ≡ d.target
      → node_path found ≡ target_path d p → Leads d w r p found

-- what is kept stays related to its target
still_related : (d : DriveInput) (w : WorkingCopy) → Setting d w → (r : ReportView) (p : Path) (found : Option BaseNode) → is_kept d p ≡ true
    → Leads d w r p found
    → are_related d.history (look d.history (node_revision found) (node_path found)) (target_node d p) ≡ true
still_related d w setting r p found k (not_there e f) = absurd (true≢false (sym k ∙ f))
still_related d w setting r p found k (as_before e present f) =
    let s = source_looked d w setting p (ap is_present e ∙ present) in
    ap (λ o. are_related d.history (look d.history (node_revision o) (node_path o)) (target_node d p)) (sym e)
    ∙ ap (λ o. are_related d.history o (target_node d p)) (s.2 ∙ sym s.1) ∙ kept_related d setting.served p k
still_related d w setting r p found k (at_target n t present e f) =
    (λ i. are_related d.history (look d.history (e i) (f i)) (target_node d p)) ∙ (λ i. are_related d.history (t i) (t i))
    ∙ nat_eq-same (line_of d.history n)

module _ (d : DriveInput) (w : WorkingCopy) (setting : Setting d w) (update : d.mode ≡ Update) (r : ReportView) (v : WorkingCopy)
    (describes : Describes d.history r v) where
  abbrev h : History
  h = d.history

  abbrev again : DriveInput
  again = reported_again d r

  pub record Resumed (p : Path) : Type 0 where
    pub same_path : target_path again p ≡ target_path d p
    pub still_kept : is_kept d p ≡ true → is_kept again p ≡ true

  pub source_again : (p : Path) → is_present (v p) ≡ true → source_node again p ≡ look h (node_revision (v p)) (node_path (v p))
  source_again p k = ap (source h) (follow-here again p) ∙ described_source h r v describes p k

  -- the candidate at which a child would be kept is its own repository path
  pub candidate_is : (p : Path) (name : Name) → is_present (v (child p name)) ≡ true
      → candidate d.mode (reported r (child p name)).repos_path (child (target_path again p) name) ≡ node_path (v (child p name))
  candidate_is p name k =
      ap (λ m. candidate m (reported r (child p name)).repos_path (child (target_path again p) name)) update
      ∙ sym ((describes (child p name)).repos_path k)

  -- what is kept is present, and is at its place in the target
  placed : (p : Path) → is_kept d p ≡ true → Leads d w r p (v p) → (is_present (v p) ≡ true) × (node_path (v p) ≡ target_path d p)
  placed p k (not_there e f) = absurd (true≢false (sym k ∙ f))
  placed p k (as_before e present f) = (present, ap node_path (sym e) ∙ kept_path_is d w setting update p k (ap is_present e ∙ present))
  placed p k (at_target n t present e f) = (present, f)

  root_resumed : Leads d w r [] (v []) → Resumed []
  root_resumed l =
      let z = placed [] refl l in
      record { same_path = ap (λ m. root_path m r.root) update ∙ sym ((describes []).repos_path z.0) ∙ z.1; still_kept = λ k. refl }

  child_resumed : (p : Path) (name : Name) → Leads d w r (child p name) (v (child p name)) → Resumed p → Resumed (child p name)
  child_resumed p name l ih = record { same_path = by (is_kept again c) (is_kept d c) refl refl; still_kept = kept }
    where
      c : Path
      c = child p name

      kept : is_kept d (child p name) ≡ true → is_kept again (child p name) ≡ true
      kept k =
          let up : is_kept again p ≡ true = ih.still_kept (and_parts (is_kept d p) _ (sym (is_kept-child d p name) ∙ k)).0 in
          let z = placed c k l in
          is_kept-child again p name
          ∙ ap (λ b. b
          && are_related h (source_node again c)
          (look h d.target (candidate d.mode (reported r c).repos_path (child (target_path again p) name)))) up
          ∙ (λ i. are_related h (source_again c z.0 i) (look h d.target (candidate_is p name z.0 i)))
          ∙ ap (λ q. are_related h (look h (node_revision (v c)) (node_path (v c))) (look h d.target q)) z.1
          ∙ still_related d w setting r c (v c) k l

      -- what is kept again is present
      present_again : is_kept again c ≡ true → is_present (v c) ≡ true
      present_again k =
          (describes c).present ∙ sym (ap (λ s. is_some (source h s)) (follow-here again c))
          ∙ related_some h (source_node again c) _ (and_parts (is_kept again p) _ (sym (is_kept-child again p name) ∙ k)).1

      again_placed : is_kept again c ≡ true → Leads d w r c (v c) → node_path (v c) ≡ target_path d c
      again_placed k (not_there e f) = absurd (true≢false (sym (present_again k) ∙ e))
      again_placed k (as_before e present f) = (placed c (f k) (as_before e present f)).1
      again_placed k (at_target n t present e f) = f

      by : (b k : Bool) → is_kept again c ≡ b → is_kept d c ≡ k → target_path again c ≡ target_path d c
      by true k e u =
          target_path-child again p name
          ∙ ap (λ x. cond x (candidate d.mode (reported r c).repos_path (child (target_path again p) name))
          (child (target_path again p) name)) e
          ∙ candidate_is p name (present_again e) ∙ again_placed e l
      by false true e u = absurd (true≢false (sym (kept u) ∙ e))
      by false false e u =
          target_path-child again p name
          ∙ ap (λ x. cond x (candidate d.mode (reported r c).repos_path (child (target_path again p) name))
          (child (target_path again p) name)) e
          ∙ ap (λ q. child q name) ih.same_path
          ∙ sym (target_path-child d p name
          ∙ ap (λ x. cond x (candidate d.mode (reported d.report c).repos_path (child (target_path d p) name))
          (child (target_path d p) name)) u)

  -- where each node leads its path to the same place, each path leads there
  pub all_resumed : ((p : Path) → Leads d w r p (v p)) → (p : Path) → Resumed p
  all_resumed leads = path_ind Resumed (root_resumed (leads [])) (λ p name ih. child_resumed p name (leads (child p name)) ih)

-- ---- the copies that a drive leaves

base_leads : (d : DriveInput) (w : WorkingCopy) (r : ReportView) (p : Path) (n : ℕ) → target_node d p ≡ Some n
    → Leads d w r p (Some (base_node d.history d.target (target_path d p) n))
base_leads d w r p n t = by (kind_of d.history n)
  where
    by : (k : Kind) → Leads d w r p (Some (base_node_by k d.target (target_path d p) (text_of d.history n) (props_of d.history n)))
    by File = at_target n t refl refl refl
    by Directory = at_target n t refl refl refl

module _ (d : DriveInput) (w : WorkingCopy) (setting : Setting d w) (r : ReportView) where
  -- the whole of it leaves the target's nodes
  result_leads : (p : Path) → Leads d w r p (result d p)
  result_leads p = by (target_node d p) refl
    where
      not_kept : target_node d p ≡ None → is_kept d p ≡ false
      not_kept t = false_from_ne_true (is_kept d p) (λ e. let z = kept_target d w setting p e in none z.0 (sym t ∙ z.1))
        where
          none : (n : ℕ) → None ≡ Some n → ⊥
          none n q = cc

      by : (o : Option ℕ) → target_node d p ≡ o → Leads d w r p (option_map (base_node d.history d.target (target_path d p)) o)
      by None t = not_there refl (not_kept t)
      by (Some n) t = base_leads d w r p n t

  module _ (late : Bool) (steps rest : List Step) (drive : IsDriveOf d late (steps ++ rest)) where
    abbrev now : WorkingCopy
    now = state d w steps

    abbrev resumed : DriveInput
    resumed = reported_again d r

    old_now : (p : Path) → is_deleted_above steps p ≡ false → actions_at p steps ≡ [] → now p ≡ w p
    old_now p above none = λ i. acted d p [] (cond (above i) None (w p)) (none i)

    -- an old node at which nothing is done is kept only where it was before
    abbrev IsOld : Path → Type 0
    IsOld p =
        is_present (w p) ≡ true → is_deleted_above steps p ≡ false → actions_at p steps ≡ [] → is_kept resumed p ≡ true → is_kept d p ≡ true

    not_kept_absent : (p : Path) → is_present (now p) ≡ false → is_kept d p ≡ false
    not_kept_absent p e = false_from_ne_true (is_kept d p) (λ k. true≢false (sym (kept_stays d w setting late steps rest drive p k) ∙ e))

    -- each path leads to the same place, where an old one is kept only if it was before
    leads_by : (p : Path) → IsOld p → Leads d w r p (now p)
    leads_by p old_kept = by (now p) refl (stands d w setting late steps rest drive p)
      where
        by_old : (found : Option BaseNode) → now p ≡ found → w p ≡ found → is_deleted_above steps p ≡ false → actions_at p steps ≡ []
            → (b : Bool) → is_present found ≡ b → Leads d w r p found
        by_old found q e above none false k = not_there k (not_kept_absent p (ap is_present q ∙ k))
        by_old found q e above none true k = as_before e k (old_kept (ap is_present e ∙ k) above none)

        by : (found : Option BaseNode) → now p ≡ found → Stands d w setting late steps rest drive p found → Leads d w r p found
        by found q absent = not_there refl (not_kept_absent p (ap is_present q))
        by found q not_present = not_there refl (not_kept_absent p (ap is_present q))
        by found q (old e above none) = by_old found q e above none (is_present found) refl
        by found q (opened_file e kept) = as_before e refl (λ k. kept)
        by found q (open_directory z) = at_target z.0 z.1 refl refl refl
        by found q (finished n t entered whole) = base_leads d w r p n t

    -- the root does in any mode
    root_leads : Leads d w r [] (now [])
    root_leads = leads_by [] (λ present above none k. refl)

    module _ (update : d.mode ≡ Update) (describes : Describes d.history r now) where
      old_child : (p : Path) (name : Name) → IsOld p → IsOld (child p name)
      old_child p name ih present above none k =
          is_kept-child d p name
          ∙ (λ i. up i && are_related d.history (same_source i) (look d.history d.target (same_candidate i))) ∙ parts.1
        where
          c : Path
          c = child p name

          stands_now : now (child p name) ≡ w (child p name)
          stands_now = old_now (child p name) above none

          present_now : is_present (now (child p name)) ≡ true
          present_now = ap is_present stands_now ∙ present

          parts : (is_kept resumed p ≡ true)
              × (are_related d.history (source_node resumed (child p name))
              (look d.history d.target (candidate d.mode (reported r (child p name)).repos_path (child (target_path resumed p) name)))
              ≡ true)
          parts =
              and_parts (is_kept resumed p)
              (are_related d.history (source_node resumed c)
              (look d.history d.target (candidate d.mode (reported r c).repos_path (child (target_path resumed p) name))))
              (sym (is_kept-child resumed p name) ∙ k)

          up : is_kept d p ≡ true
          up = by (kept_or_old d w setting late steps rest drive p old_present deleted.0 deleted.1)
            where
              deleted : (is_deleted_above steps p ≡ false) × (list_any is_delete (actions_at p steps) ≡ false)
              deleted = none_deleted d w setting late steps rest drive p name above

              old_present : is_present (w p) ≡ true
              old_present = dir_present (w p) (setting.shape.parents p name (present_stands (w (child p name)) present))

              by : (is_kept d p ≡ true) ⊎ (actions_at p steps ≡ []) → is_kept d p ≡ true
              by (inl kept) = kept
              by (inr nothing) = ih old_present deleted.0 nothing parts.0

          same_source : source_node d (child p name) ≡ source_node resumed (child p name)
          same_source =
              let s = source_looked d w setting c present in
              s.1 ∙ sym s.2 ∙ ap (λ o. look d.history (node_revision o) (node_path o)) (sym stands_now)
              ∙ sym (source_again d w setting update r now describes c present_now)

          same_candidate : candidate d.mode (reported d.report (child p name)).repos_path (child (target_path d p) name)
              ≡ candidate d.mode (reported r (child p name)).repos_path (child (target_path resumed p) name)
          same_candidate =
              ap (λ m. candidate m (reported d.report c).repos_path (child (target_path d p) name)) update
              ∙ sym ((setting.describes c).repos_path present) ∙ ap node_path (sym stands_now)
              ∙ sym (candidate_is d w setting update r now describes p name present_now)

      old_kept : (p : Path) → IsOld p
      old_kept = path_ind IsOld (λ present above none k. refl) old_child

      prefix_leads : (p : Path) → Leads d w r p (now p)
      prefix_leads p = leads_by p (old_kept p)

-- the copy that is left leads each path to the same place
pub same_target_path : (d : DriveInput) (w : WorkingCopy) → Setting d w → (late : Bool) (r : ReportView) (v : WorkingCopy) → Reached d w late v
    → Describes d.history r v → (p : Path) → target_path (reported_again d r) p ≡ target_path d p
same_target_path d w setting late r v where_now describes = by d.mode refl
  where
    in_update : d.mode ≡ Update → Reached d w late v → (p : Path) → target_path (reported_again d r) p ≡ target_path d p
    in_update m (under_way xs ys drive e) p =
        let now = subst (Describes d.history r) e describes in
        (all_resumed d w setting m r (state d w xs) now (prefix_leads d w setting r late xs ys drive m now) p).same_path
    in_update m (at_end e) p =
        (all_resumed d w setting m r (result d) (subst (Describes d.history r) e describes) (result_leads d w setting r) p).same_path

    by : (m : Mode) → d.mode ≡ m → (p : Path) → target_path (reported_again d r) p ≡ target_path d p
    by Update m p = in_update m where_now p
    by (SwitchTo root) m p = switched_to (reported_again d r) root m p ∙ sym (switched_to d root m p)

-- and its root is the target's
pub same_root : (d : DriveInput) (w : WorkingCopy) → Setting d w → (late : Bool) (r : ReportView) (v : WorkingCopy) → Reached d w late v
    → Describes d.history r v → are_related d.history (source_node (reported_again d r) []) (target_node (reported_again d r) []) ≡ true
same_root d w setting late r v where_now describes =
    ap (λ o. are_related d.history o (target_node (reported_again d r) []))
    (described_source d.history r v describes [] (present where_now))
    ∙ ap (λ q. are_related d.history (look d.history (node_revision (v [])) (node_path (v []))) (look d.history d.target q))
    (same_target_path d w setting late r v where_now describes [])
    ∙ still_related d w setting r [] (v []) refl (root where_now)
  where
    root : Reached d w late v → Leads d w r [] (v [])
    root (under_way xs ys drive e) = subst (λ x. Leads d w r [] (x [])) (sym e) (root_leads d w setting r late xs ys drive)
    root (at_end e) = subst (λ x. Leads d w r [] (x [])) (sym e) (result_leads d w setting r [])

    present : Reached d w late v → is_present (v []) ≡ true
    present k = dir_present (v []) (true_when d w setting late v k).0.root

-- ---- the laws

module _ (d : DriveInput) (w left : WorkingCopy) (late : Bool) (calls : List Call) (n : ℕ) (r : ReportView) (asked : IsRequestOf d w)
    (drive : IsDrive d late calls)
    (same : (p : Path) → left p ≡ after d.mode w (take n calls) p) (report : IsReport r) (checkable : IsCheckable d.history r)
    (describes : Describes d.history r left) where
  setting : Setting d w
  setting = setting_of d w asked

  where_left : Reached d w late left
  where_left = subst (Reached d w late) (λ i p. sym (same p) i) (reached d w setting late calls drive n)

  again_path : (p : Path) → target_path (reported_again d r) p ≡ target_path d p
  again_path = same_target_path d w setting late r left where_left describes

  -- the second request is one of the copy that is left
  again_asked : IsRequestOf (reported_again d r) left
  again_asked =
      let holds = true_when d w setting late left where_left in
      record {
        history = asked.history;
        shape = holds.0;
        true_of = holds.1;
        report = report;
        checkable = checkable;
        describes = describes;
        has_target = no_target_fault (reported_again d r) (same_root d w setting late r left where_left describes);
      }

  again_result : (p : Path) → result (reported_again d r) p ≡ result d p
  again_result p = ap (λ q. option_map (base_node d.history d.target q) (look d.history d.target q)) (again_path p)

  pub resumes : Resumes d (reported_again d r) left
  resumes = record {
    asked = again_asked;
    same_paths = again_path;
    same_result = again_result;
    ends =
        λ late' calls' drive' p. ends (reported_again d r) left (setting_of (reported_again d r) left again_asked) late' calls' drive' p
        ∙ again_result p;
  }

pub run_resumes : stopped_run_resumes
run_resumes d w late calls n nodes asked drive order same =
    let holds = prefixes_are_true d w late calls n asked drive in
    let left_is : after d.mode w (take n calls) ≡ get_in nodes = (λ i p. sym (same p) i) in
    let copy : IsTrueCopy d.history nodes = record {
      history = asked.history;
      in_order = order;
      shape = subst IsWorkingCopy left_is holds.0;
      true_of = subst (IsTrueOf d.history) left_is holds.1;
    } in
    let says = crawl_says d.history nodes copy in
    resumes d w (get_in nodes) late calls n (crawl nodes) asked drive same says.report says.checkable says.describes
