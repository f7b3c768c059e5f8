-- What a crawl has at each path, and that the crawl of a true copy describes it.
use Rattle.std.proofs.Common.{◌≡◌, Bool, true, false, List, [], ◌∷◌, refl, sym, ◌∙◌, ap, subst, ◌≢◌, ℕ, ◌&&◌, ◌||◌, not, ◌++◌, true≢false}
use Rattle.std.specs.Prelude.{Option, Some, None, cond, is_some, nat_eq, bytes_eq}
use Rattle.std.specs.Map.{keys_of}
use Rattle.svn_lists.proofs.Equality.{same_bytes}
use Rattle.svn_types.specs.Names.{Path}
use Rattle.svn_types.specs.Paths.{path_eq, child, is_root, last_name}
use Rattle.svn_report.specs.declared.entry.ReportEntry.{ReportEntry}
use Rattle.svn_model.specs.declared.base_node.BaseNode.{BaseNode}
use Rattle.svn_model.specs.Nodes.{get_in, WorkingCopy, is_present, is_dir, is_incomplete, is_not_present, node_revision, node_path}
use Rattle.svn_model.specs.Nodes.{HasEntries, IsTrueNode}
use Rattle.svn_model.specs.Crawl.{entry_for, crawl, is_switched}
use Rattle.law_copy.proofs.Crawls.{crawled, entry_at-crawl}
use Rattle.std.specs.Option.{option_or}
use Rattle.std.proofs.lemmas.Bool.{eqb-true, or_parts, not-false}
use Rattle.law_copy.proofs.OneNode.{dir_present}
use Rattle.svn_types.specs.Pairs.{value_of}
use Rattle.svn_types.proofs.PathLemmas.{same_path, path_ind, parent-child, last_name-child, is_root-child}
use Rattle.svn_types.proofs.NameLemmas.{value_of-first, Name}
use Rattle.svn_repo.specs.History.{History, look}
use Rattle.svn_repo.specs.Readings.{entries_of}
use Rattle.svn_report.specs.declared.entry.ReportEntry.TheVariants.{SetPath, LinkPath, DeletePath}
use Rattle.svn_model.specs.Sources.{Reported, reported, revision_of, starts_empty, is_set_or_link, linked_or, is_hidden, source}
use Rattle.svn_model.specs.Sources.{governing_revision}
use Rattle.svn_model.specs.declared.base_node.BaseNode.TheVariants.{File as FileNode, Dir as DirNode, NotPresent}
use Rattle.svn_model.specs.Describes.{Describes}
use Rattle.law_update.specs.Laws.{IsTrueCopy}
use Rattle.law_drive.proofs.Reporting.{IsChildOf, OwnGoverns, is_child, own_governs, own-is, open_above, source_below, hidden_below}
use Rattle.law_drive.proofs.Reporting.{source_inherits}
use Rattle.svn_model.proofs.Children.{entry_below}

-- ---- what the report says of a present node

pub record Shows (s : Reported) (found : Option BaseNode) : Type 0 where
  pub set : is_set_or_link s.governing ≡ true
  pub shown : (is_some s.own || not (starts_empty s.governing)) ≡ true
  pub revision : revision_of s.governing ≡ node_revision found
  pub repos_path : s.repos_path ≡ node_path found
  pub empty : starts_empty s.own ≡ is_incomplete found

-- where a set or a link is at the path
shows_own : (s : Reported) (found : Option BaseNode) (e : ReportEntry) → OwnGoverns s → s.own ≡ Some e → is_set_or_link (Some e) ≡ true
    → revision_of (Some e) ≡ node_revision found → starts_empty (Some e) ≡ is_incomplete found → s.repos_path ≡ node_path found
    → Shows s found
shows_own s found e g o k r i q =
    let ge = g e o in
    record {
      set = ap is_set_or_link ge ∙ k;
      shown = ap (λ x. is_some x || not (starts_empty s.governing)) o;
      revision = ap revision_of ge ∙ r;
      repos_path = q;
      empty = ap starts_empty o ∙ i;
    }

shows_inherited : (above here : Reported) (name : Name) (up found : Option BaseNode) → IsChildOf above here name → OwnGoverns above
    → Shows above up → here.own ≡ None
    → is_incomplete up ≡ false → is_incomplete found ≡ false → node_revision found ≡ node_revision up
    → node_path found ≡ child (node_path up) name → Shows here found
shows_inherited above here name up found c g s o iu i r q =
    let ge : here.governing ≡ above.governing = c.governing ∙ ap (λ x. option_or x above.governing) o in
    record {
      set = ap is_set_or_link ge ∙ s.set;
      shown =
          ap (λ x. is_some x || not (starts_empty here.governing)) o ∙ ap (λ x. not (starts_empty x)) ge
          ∙ ap not (open_above above g s.shown (s.empty ∙ iu));
      revision = ap revision_of ge ∙ s.revision ∙ sym r;
      repos_path = c.repos_path ∙ ap (λ x. linked_or x (child above.repos_path name)) o ∙ ap (λ x. child x name) s.repos_path ∙ sym q;
      empty = ap starts_empty o ∙ sym i;
    }

-- the entry of a present node below the root
chosen : (a b sw t : Bool) (deleted link set : Option ReportEntry) → a ≡ false → b ≡ false
    → cond a set (cond b deleted (cond sw link (cond t set None))) ≡ cond sw link (cond t set None)
chosen true b sw t deleted link set h k = absurd (true≢false h)
chosen false true sw t deleted link set h k = absurd (true≢false k)
chosen false false sw t deleted link set h k = refl

present_is_not_deleted : (found : Option BaseNode) → is_present found ≡ true → is_not_present found ≡ false
present_is_not_deleted None h = absurd (true≢false (sym h))
present_is_not_deleted (Some (FileNode r q t ps)) h = refl
present_is_not_deleted (Some (DirNode r q c ps)) h = refl
present_is_not_deleted (Some NotPresent) h = absurd (true≢false (sym h))

pub shows_child : (above here : Reported) (name : Name) (p : Path) (up found : Option BaseNode) → IsChildOf above here name
    → OwnGoverns above → Shows above up
    → here.own ≡ entry_for p up found → is_root p ≡ false → last_name p ≡ name ∷ [] → is_present found ≡ true → Shows here found
shows_child above here name p up found c g s o root last present =
    by (is_switched p up found) (is_incomplete up || is_incomplete found || not (nat_eq (node_revision found) (node_revision up))) refl refl
    (o ∙ chosen (is_root p) (is_not_present found) (is_switched p up found)
    (is_incomplete up || is_incomplete found || not (nat_eq (node_revision found) (node_revision up)))
    _ (Some (LinkPath (node_path found) (node_revision found) (is_incomplete found)))
    (Some (SetPath (node_revision found) (is_incomplete found))) root (present_is_not_deleted found present))
  where
    gh : OwnGoverns here
    gh = (λ e h. c.governing ∙ ap (λ o. option_or o above.governing) h)

    straight : is_switched p up found ≡ false → node_path found ≡ child (node_path up) name
    straight e = same_path (node_path found) (child (node_path up) name)
        (ap (λ l. path_eq (node_path found) (node_path up ++ l)) (sym last)
        ∙ not-false (path_eq (node_path found) (node_path up ++ last_name p)) e)

    by : (sw t : Bool) → is_switched p up found ≡ sw
        → (is_incomplete up || is_incomplete found || not (nat_eq (node_revision found) (node_revision up))) ≡ t
        → here.own ≡ cond sw (Some (LinkPath (node_path found) (node_revision found) (is_incomplete found)))
        (cond t (Some (SetPath (node_revision found) (is_incomplete found))) None)
        → Shows here found
    by true t e f q = shows_own here found (LinkPath (node_path found) (node_revision found) (is_incomplete found)) gh q refl refl refl
        (c.repos_path ∙ ap (λ x. linked_or x (child above.repos_path name)) q)
    by false true e f q = shows_own here found (SetPath (node_revision found) (is_incomplete found)) gh q refl refl refl
        (c.repos_path ∙ ap (λ x. linked_or x (child above.repos_path name)) q ∙ ap (λ x. child x name) s.repos_path ∙ sym (straight e))
    by false false e f q =
        let parts = or_parts (is_incomplete up || is_incomplete found) (not (nat_eq (node_revision found) (node_revision up))) f in
        let two = or_parts (is_incomplete up) (is_incomplete found) parts.0 in
        shows_inherited above here name up found c g s q two.0 two.1
        (eqb-true (node_revision found) (node_revision up) (not-false _ parts.1))
        (straight e)

-- ---- where nothing is present, the report shows nothing

-- an entry that deletes hides the path
deleted_here : (h : History) (here : Reported) → OwnGoverns here → here.own ≡ Some DeletePath → source h here ≡ None
deleted_here h here g o =
    ap
    (λ k. cond (not (is_set_or_link k && (is_some here.own || not (starts_empty here.governing)))) None
    (look h (governing_revision here) here.repos_path))
    (g DeletePath o)

-- a name without an entry in the copy is none of the node's
not_named : (w : WorkingCopy) (p : Path) (name : Name) (es : List (List ℕ × ℕ)) → HasEntries w p (keys_of es) → w (child p name) ≡ None
    → value_of es name ≡ None
not_named w p name [] h n = refl
not_named w p name (e ∷ es) h n = value_of-first e es name ∙ by (bytes_eq e.0 name) refl (not_named w p name es h.1 n)
  where
    by : (b : Bool) → bytes_eq e.0 name ≡ b → value_of es name ≡ None → cond b (Some e.1) (value_of es name) ≡ None
    by true q ih = absurd (h.0 (subst (λ m. w (child p m) ≡ None) (sym (same_bytes e.0 name q)) n))
    by false q ih = ih

empty_governs : (s : Reported) → OwnGoverns s → starts_empty s.own ≡ true → starts_empty s.governing ≡ true
empty_governs s g h = by s.own refl
  where
    by : (o : Option ReportEntry) → s.own ≡ o → starts_empty s.governing ≡ true
    by None q = absurd (true≢false (sym h ∙ ap starts_empty q))
    by (Some e) q = ap starts_empty (g e q) ∙ sym (ap starts_empty q) ∙ h

-- ---- every path

pub record Covers (h : History) (s : Reported) (found : Option BaseNode) : Type 0 where
  pub present : is_present found ≡ true → Shows s found
  pub absent : is_present found ≡ false → source h s ≡ None

module _ (h : History) (nodes : List (Path × BaseNode)) (t : IsTrueCopy h nodes) where
  abbrev w : WorkingCopy
  w = get_in nodes

  abbrev says : Path → Reported
  says p = reported (crawl nodes) p

  pub own-crawled : (p : Path) → (says p).own ≡ crawled nodes p (w p)
  own-crawled p = own-is (crawl nodes) p ∙ entry_at-crawl nodes t.in_order p

  own-present : (p : Path) (name : Name) (b : BaseNode) → w (child p name) ≡ Some b
      → (says (child p name)).own ≡ entry_for (child p name) (w p) (Some b)
  own-present p name b e =
      own-crawled (child p name) ∙ ap (crawled nodes (child p name)) e
      ∙ ap (λ q. entry_for (child p name) (w q) (Some b)) (parent-child p name)

  covers_root : Covers h (says []) (w [])
  covers_root = by (w []) refl
    where
      by : (found : Option BaseNode) → w [] ≡ found → Covers h (says []) found
      by None e = absurd (true≢false (sym t.shape.root ∙ ap is_dir e))
      by (Some NotPresent) e = absurd (true≢false (sym t.shape.root ∙ ap is_dir e))
      by (Some (FileNode r q x ps)) e = absurd (true≢false (sym t.shape.root ∙ ap is_dir e))
      by (Some (DirNode r q c ps)) e = record {
        present =
            λ k. shows_own (says []) (Some (DirNode r q c ps)) (SetPath r (not c)) (λ x o. o)
            (own-crawled [] ∙ ap (crawled nodes []) e) refl refl refl (ap node_path e);
        absent = λ k. absurd (true≢false k);
      }

  module _ (p : Path) (name : Name) (ih : Covers h (says p) (w p)) where
    child_of : IsChildOf (says p) (says (child p name)) name
    child_of = is_child (crawl nodes) p name

    governs : OwnGoverns (says p)
    governs = own_governs (crawl nodes) p

    pub is_parent : (found : Option BaseNode) → w (child p name) ≡ found → (found ≢ None) → is_dir (w p) ≡ true
    is_parent found e n = t.shape.parents p name (λ q. n (sym e ∙ q))

    present_child : (b : BaseNode) → w (child p name) ≡ Some b → is_present (Some b) ≡ true → Shows (says (child p name)) (Some b)
    present_child b e k =
        let up = is_parent (Some b) e (λ q. cc) in
        shows_child (says p) (says (child p name)) name (child p name) (w p) (Some b) child_of governs (ih.present (dir_present (w p) up))
        (own-present p name b e) (is_root-child p name) (last_name-child p name) k

    -- the look-up that the parent's node gives
    looked : (up : Option BaseNode) → w p ≡ up → is_present up ≡ true → (n : ℕ) → look h (node_revision up) (node_path up) ≡ Some n
        → look h (revision_of (says p).governing) (says p).repos_path ≡ Some n
    looked up e k n l =
        let s = ih.present (ap is_present e ∙ k) in
        ap (λ r. look h r (says p).repos_path) (s.revision ∙ ap node_revision e)
        ∙ ap (look h (node_revision up)) (s.repos_path ∙ ap node_path e) ∙ l

    no_entry : w (child p name) ≡ None → (says (child p name)).own ≡ None
    no_entry e = own-crawled (child p name) ∙ ap (crawled nodes (child p name)) e

    hides : (r : ℕ) (q : Path) (ps : List (Name × List ℕ)) → w p ≡ Some (DirNode r q false ps) → starts_empty (says p).governing ≡ true
    hides r q ps e = empty_governs (says p) governs ((ih.present (ap is_present e)).empty ∙ ap is_incomplete e)

    nothing_child : (up : Option BaseNode) → w p ≡ up → IsTrueNode h w p up → w (child p name) ≡ None
        → source h (says (child p name)) ≡ None
    nothing_child None u tr e = source_inherits h (says p) (says (child p name)) name child_of (no_entry e) (ih.absent (ap is_present u))
    nothing_child (Some NotPresent) u tr e =
        source_inherits h (says p) (says (child p name)) name child_of (no_entry e) (ih.absent (ap is_present u))
    nothing_child (Some (FileNode r q x ps)) u tr e =
        source_below h (says p) (says (child p name)) name child_of (no_entry e)
        (ap (λ o. entry_below h o name) (looked (Some (FileNode r q x ps)) u refl tr.0 tr.1)
        ∙ ap (λ es. value_of es name) (t.history.files_are_leaves r q tr.0 tr.1 tr.2.kind))
    nothing_child (Some (DirNode r q true ps)) u tr e =
        source_below h (says p) (says (child p name)) name child_of (no_entry e)
        (ap (λ o. entry_below h o name) (looked (Some (DirNode r q true ps)) u refl tr.0 tr.1)
        ∙ not_named w p name (entries_of h tr.0) (tr.2.has_entries refl) e)
    nothing_child (Some (DirNode r q false ps)) u tr e =
        hidden_below h (says p) (says (child p name)) name child_of (no_entry e) (hides r q ps u)

    -- the entry of a path that is not present
    deleted_entry : (a i : Bool) (set : Option ReportEntry) → a ≡ false
        → cond a set (cond i None (Some DeletePath)) ≡ cond i None (Some DeletePath)
    deleted_entry true i set k = absurd (true≢false k)
    deleted_entry false i set k = refl

    pub not_present_own : (up : Option BaseNode) → w p ≡ up → w (child p name) ≡ Some NotPresent
        → (says (child p name)).own ≡ cond (is_incomplete up) None (Some DeletePath)
    not_present_own up u e =
        own-present p name NotPresent e ∙ ap (λ x. entry_for (child p name) x (Some NotPresent)) u
        ∙ deleted_entry (is_root (child p name)) (is_incomplete up) (Some (SetPath 0 false)) (is_root-child p name)

    deleted_child : (up : Option BaseNode) → w p ≡ up → w (child p name) ≡ Some NotPresent → source h (says (child p name)) ≡ None
    deleted_child None u e = absurd (true≢false (sym (is_parent (Some NotPresent) e (λ q. cc)) ∙ ap is_dir u))
    deleted_child (Some NotPresent) u e = absurd (true≢false (sym (is_parent (Some NotPresent) e (λ q. cc)) ∙ ap is_dir u))
    deleted_child (Some (FileNode r q x ps)) u e = absurd (true≢false (sym (is_parent (Some NotPresent) e (λ q. cc)) ∙ ap is_dir u))
    deleted_child (Some (DirNode r q true ps)) u e =
        deleted_here h (says (child p name)) (own_governs (crawl nodes) (child p name)) (not_present_own (Some (DirNode r q true ps)) u e)
    deleted_child (Some (DirNode r q false ps)) u e =
        hidden_below h (says p) (says (child p name)) name child_of (not_present_own (Some (DirNode r q false ps)) u e) (hides r q ps u)

    covers_child : Covers h (says (child p name)) (w (child p name))
    covers_child = by (w (child p name)) refl
      where
        by : (found : Option BaseNode) → w (child p name) ≡ found → Covers h (says (child p name)) found
        by None e = record { present = λ k. absurd (true≢false (sym k)); absent = λ k. nothing_child (w p) refl (t.true_of p) e }
        by (Some NotPresent) e = record { present = λ k. absurd (true≢false (sym k)); absent = λ k. deleted_child (w p) refl e }
        by (Some (FileNode r q x ps)) e =
            record { present = λ k. present_child (FileNode r q x ps) e k; absent = λ k. absurd (true≢false k) }
        by (Some (DirNode r q c ps)) e = record { present = λ k. present_child (DirNode r q c ps) e k; absent = λ k. absurd (true≢false k) }

  pub covers : (p : Path) → Covers h (says p) (w p)
  covers = path_ind (λ p. Covers h (says p) (w p)) covers_root (λ p name ih. covers_child p name ih)

  -- the source of a present node is the node that it is true of
  source_shown : (s : Reported) (found : Option BaseNode) → Shows s found → (n : ℕ)
      → look h (node_revision found) (node_path found) ≡ Some n → source h s ≡ Some n
  source_shown s found k n l =
      let seen : is_hidden s ≡ false = ap (λ x. not (x && (is_some s.own || not (starts_empty s.governing)))) k.set ∙ ap not k.shown in
      ap (λ b. cond b None (look h (governing_revision s) s.repos_path)) seen ∙ ap (λ r. look h r s.repos_path) k.revision
      ∙ ap (look h (node_revision found)) k.repos_path ∙ l

  pub source_present : (p : Path) (found : Option BaseNode) → w p ≡ found → IsTrueNode h w p found → is_present found ≡ true
      → (n : ℕ) × (source h (says p) ≡ Some n) × (look h (node_revision found) (node_path found) ≡ Some n)
  source_present p None e tr k = absurd (true≢false (sym k))
  source_present p (Some NotPresent) e tr k = absurd (true≢false (sym k))
  source_present p (Some (FileNode r q x ps)) e tr k = (
    tr.0,
    source_shown (says p) (w p) ((covers p).present (ap is_present e)) tr.0 (ap (λ o. look h (node_revision o) (node_path o)) e ∙ tr.1),
    tr.1,
  )
  source_present p (Some (DirNode r q c ps)) e tr k = (
    tr.0,
    source_shown (says p) (w p) ((covers p).present (ap is_present e)) tr.0 (ap (λ o. look h (node_revision o) (node_path o)) e ∙ tr.1),
    tr.1,
  )

  pub describes : Describes h (crawl nodes) w
  describes p = record {
    present = by (is_present (w p)) refl;
    revision = λ k. sym ((covers p).present k).revision;
    repos_path = λ k. sym ((covers p).present k).repos_path;
    incomplete = λ k. sym ((covers p).present (dir_present (w p) k)).empty;
  }
    where
      by : (b : Bool) → is_present (w p) ≡ b → is_present (w p) ≡ is_some (source h (says p))
      by true e = e ∙ sym (ap is_some (source_present p (w p) refl (t.true_of p) e).1)
      by false e = e ∙ sym (ap is_some ((covers p).absent e))
