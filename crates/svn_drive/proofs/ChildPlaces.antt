-- What a place has, the root's and a child's by its parent's.
use Rattle.std.proofs.Common.{◌≡◌, ℕ, Bool, true, false, ◌&&◌, ◌||◌, not, refl, sym, ◌∙◌, ap, true≢false}
use denote.Ref.{Bor}
use Rattle.std.specs.Prelude.{Option, Some, None, is_some, cond}
use Rattle.std.specs.Option.{option_copied, option_or}
use Rattle.svn_types.proofs.NameLemmas.{Name}
use Rattle.svn_types.specs.Names.{Path}
use Rattle.svn_types.specs.Paths.{child}
use Rattle.svn_repo.specs.History.{History, look}
use Rattle.svn_repo.specs.Readings.{are_related}
use Rattle.svn_report.specs.declared.entry.ReportEntry.{ReportEntry}
use Rattle.svn_report.specs.declared.entry.ReportEntry.TheVariants.{SetPath, LinkPath, DeletePath}
use Rattle.svn_report.specs.Reports.{ReportView, entry_at}
use Rattle.svn_editor.specs.declared.mode.Mode.{Mode}
use Rattle.svn_editor.specs.declared.mode.Mode.TheVariants.{Update, SwitchTo}
use Rattle.svn_model.specs.Sources.{Reported, source, reported_child, reported_root, linked_or, is_set_or_link, starts_empty, revision_of}
use Rattle.svn_model.specs.Follow.{DriveInput, Followed, candidate, follow, follow_root, follow_child, target_path, source_node}
use Rattle.svn_model.specs.Follow.{target_node}
use Rattle.svn_drive.specs.declared.check.Seen.{Seen}
use Rattle.svn_drive.specs.declared.place.Place.{Place}
use Rattle.svn_drive.specs.Checking.{seen_as}
use Rattle.svn_drive.specs.Walking.{IsAt, entry_of, linked_node, candidate_node}
use Rattle.svn_model.proofs.Children.{entry_below, look-child, follow-child, follow-here}
use Rattle.svn_drive.proofs.Idle.{entry-below, own_place}

-- ---- the root

module _ (d : DriveInput) (here : Seen) (says : seen_as here ≡ reported_root d.report) where
  whole : follow d here.path ≡ follow_root d
  whole = ap (λ (s : Reported). follow d s.path) says

  abbrev root_as : Followed
  root_as = record { here = seen_as here; is_kept = true; parent_is_kept = true; target_path = target_path d here.path }

  pub root_followed : root_as ≡ follow d here.path
  root_followed =
      (λ i. record { here = says i; is_kept = true; parent_is_kept = true; target_path = (whole i).target_path }) ∙ sym whole

-- ---- the node that the client has at a child

pub own_none : (o : Option (Bor ReportEntry)) → false ≡ is_some o → option_copied o ≡ None
own_none None e = refl
own_none (Some x) e = absurd (true≢false (sym e))

-- without an entry of its own a child that isn't hidden is an entry of its parent's node
pub source_entry : (h : History) (r : ReportView) (above here : Reported) (name : Name) (o : Option ℕ) → here ≡ reported_child r above name
    → here.own ≡ None → o ≡ source h above → not (is_set_or_link here.governing && (false || not (starts_empty here.governing))) ≡ false
    → entry_of h o name ≡ source h here
source_entry h r above here name o says own before shown =
    let mine : here.own ≡ entry_at r.entries (child above.path name) = ap (λ (s : Reported). s.own) says in
    let governing : here.governing ≡ option_or here.own above.governing =
    ap (λ (s : Reported). s.governing) says ∙ ap (λ x. option_or x above.governing) (sym mine) in
    let path : here.repos_path ≡ linked_or here.own (child above.repos_path name) =
    ap (λ (s : Reported). s.repos_path) says ∙ ap (λ x. linked_or x (child above.repos_path name)) (sym mine) in
    let same : here.governing ≡ above.governing = governing ∙ ap (λ x. option_or x above.governing) own in
    let parts = both (is_set_or_link here.governing) (starts_empty here.governing) shown in
    let open_above : source h above ≡ look h (revision_of above.governing) above.repos_path =
    (λ i. cond (not (is_set_or_link (sym same i) && (is_some above.own || not (starts_empty (sym same i))))) None
    (look h (revision_of above.governing) above.repos_path))
    ∙ (λ i. cond (not (parts.0 i && (is_some above.own || not (parts.1 i)))) None (look h (revision_of above.governing) above.repos_path))
    ∙ always (is_some above.own) (look h (revision_of above.governing) above.repos_path) in
    let open_here : source h here ≡ look h (revision_of here.governing) here.repos_path =
    (λ i. cond (not (is_set_or_link here.governing && (is_some (own i) || not (starts_empty here.governing)))) None
    (look h (revision_of here.governing) here.repos_path))
    ∙ ap (λ b. cond b None (look h (revision_of here.governing) here.repos_path)) shown in
    entry-below h o name ∙ ap (λ x. entry_below h x name) (before ∙ open_above)
    ∙ sym (look-child h (revision_of above.governing) above.repos_path name)
    ∙ (λ i. look h (revision_of (sym same i)) (child above.repos_path name))
    ∙ ap (λ x. look h (revision_of here.governing) (linked_or x (child above.repos_path name))) (sym own)
    ∙ ap (look h (revision_of here.governing)) (sym path)
    ∙ sym open_here
  where
    both : (s e : Bool) → not (s && (false || not e)) ≡ false → (s ≡ true) × (e ≡ false)
    both true true q = absurd (true≢false q)
    both true false q = (refl, refl)
    both false e q = absurd (true≢false q)

    always : (b : Bool) (o : Option ℕ) → cond (not (true && (b || not false))) None o ≡ o
    always true o = refl
    always false o = refl

-- a child by its own entry
abbrev child_by : Reported → Name → Option ReportEntry → Reported
child_by above name own = record {
  path = child above.path name;
  own = own;
  governing = option_or own above.governing;
  repos_path = linked_or own (child above.repos_path name);
}

-- a child that is set to a revision is an entry of the node that its parent's path has in it
pub set_source : (h : History) (r : ReportView) (above here : Reported) (name : Name) (rev : ℕ) (start_empty : Bool) (o : Option ℕ)
    → here ≡ reported_child r above name → here.own ≡ Some (SetPath rev start_empty) → o ≡ look h rev above.repos_path
    → entry_of h o name ≡ source h here
set_source h r above here name rev start_empty o says own node =
    let mine : here.own ≡ entry_at r.entries (child above.path name) = ap (λ (s : Reported). s.own) says in
    entry-below h o name ∙ ap (λ x. entry_below h x name) node ∙ sym (look-child h rev above.repos_path name)
    ∙ ap (λ x. source h (child_by above name x)) (sym own ∙ mine)
    ∙ ap (source h) (sym says)

-- ---- a child

-- what is read of a child, node by node
pub record Parts (d : DriveInput) (above : Place) (name : Name) : Type 0 where
  pub here : Seen
  pub src : Option ℕ
  pub beneath : Option ℕ
  pub there : Option ℕ
  pub is_kept : Bool
  pub target : Option ℕ
  pub here-is : seen_as here ≡ reported_child d.report (seen_as above.here) name
  pub src-is : src ≡ source d.history (seen_as here)
  pub beneath-is : beneath ≡ entry_of d.history above.target name
  pub there-is : there ≡ candidate_node d d.mode (option_copied here.own) beneath
  pub is_kept-is : is_kept ≡ (above.is_kept && are_related d.history src there)
  pub target-is : target ≡ cond is_kept there beneath

module _ (d : DriveInput) (above : Place) (name : Name) (at : IsAt d above) (x : Parts d above name) where
  abbrev p : Path
  p = above.here.path

  abbrev f : Followed
  f = follow d p

  abbrev c : Followed
  c = follow_child d f name

  abbrev beneath_path : Path
  beneath_path = child f.target_path name

  here' : seen_as x.here ≡ c.here
  here' = x.here-is ∙ ap (λ (g : Followed). reported_child d.report g.here name) at.followed

  whole_child : follow d x.here.path ≡ c
  whole_child = ap (λ (s : Reported). follow d s.path) x.here-is ∙ follow-child d p name

  kept' : above.is_kept ≡ f.is_kept
  kept' = ap (λ (g : Followed). g.is_kept) at.followed

  src' : x.src ≡ source d.history c.here
  src' = x.src-is ∙ ap (source d.history) here'

  beneath' : x.beneath ≡ look d.history d.target beneath_path
  beneath' =
      x.beneath-is ∙ entry-below d.history above.target name ∙ ap (λ o. entry_below d.history o name) at.target
      ∙ sym (look-child d.history d.target f.target_path name)

  abbrev there_at : Path
  there_at = candidate d.mode c.here.repos_path beneath_path

  -- where the parent is kept, the node is that of the candidate
  there' : f.is_kept ≡ true → x.there ≡ look d.history d.target there_at
  there' k =
      x.there-is ∙ (λ i. candidate_node d d.mode (Reported.own (here' i)) (beneath' i)) ∙ by d.mode refl
    where
      own_path : d.mode ≡ Update → target_path d p ≡ f.here.repos_path
      own_path e = own_place d e p k ∙ ap (λ (s : Reported). s.repos_path) (sym (follow-here d p))

      linked : d.mode ≡ Update → (o : Option ReportEntry)
          → linked_node d o (look d.history d.target beneath_path) ≡ look d.history d.target (linked_or o (child f.here.repos_path name))
      linked e (Some (LinkPath q rev start_empty)) = refl
      linked e (Some (SetPath rev start_empty)) = ap (λ (q : Path). look d.history d.target (child q name)) (own_path e)
      linked e (Some DeletePath) = ap (λ (q : Path). look d.history d.target (child q name)) (own_path e)
      linked e None = ap (λ (q : Path). look d.history d.target (child q name)) (own_path e)

      by : (m : Mode) → d.mode ≡ m
          → candidate_node d m c.here.own (look d.history d.target beneath_path)
          ≡ look d.history d.target (candidate m c.here.repos_path beneath_path)
      by Update e = linked e c.here.own
      by (SwitchTo root) e = refl

  is_kept' : x.is_kept ≡ c.is_kept
  is_kept' = x.is_kept-is ∙ ap (λ b. b && are_related d.history x.src x.there) kept' ∙ by f.is_kept refl
    where
      by : (b : Bool) → f.is_kept ≡ b
          → (b && are_related d.history x.src x.there)
          ≡ (b && are_related d.history (source d.history c.here) (look d.history d.target there_at))
      by true e = λ i. are_related d.history (src' i) (there' e i)
      by false e = refl

  target' : x.target ≡ look d.history d.target c.target_path
  target' = x.target-is ∙ ap (λ b. cond b x.there x.beneath) is_kept' ∙ by c.is_kept refl
    where
      kept_above : (b r : Bool) → (b && r) ≡ true → b ≡ true
      kept_above true r e = refl
      kept_above false r e = absurd (true≢false (sym e))

      by : (b : Bool) → c.is_kept ≡ b → cond b x.there x.beneath ≡ look d.history d.target (cond b there_at beneath_path)
      by true e = there' (kept_above f.is_kept (are_related d.history (source d.history c.here) (look d.history d.target there_at)) e)
      by false e = beneath'

  abbrev as_followed : Followed
  as_followed = record {
    here = seen_as x.here;
    is_kept = x.is_kept;
    parent_is_kept = above.is_kept;
    target_path = target_path d x.here.path;
  }

  pub child_followed : as_followed ≡ follow d x.here.path
  child_followed =
      (λ i. record {
        here = here' i;
        is_kept = is_kept' i;
        parent_is_kept = kept' i;
        target_path = (whole_child i).target_path;
      })
      ∙ sym whole_child

  pub child_source : x.src ≡ source_node d x.here.path
  child_source = src' ∙ ap (λ (g : Followed). source d.history g.here) (sym whole_child)

  pub child_target : x.target ≡ target_node d x.here.path
  child_target = target' ∙ ap (λ (g : Followed). look d.history d.target g.target_path) (sym whole_child)
