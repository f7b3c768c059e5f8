-- What a path has after all of its actions: the node of the target where it is entered, nothing where it is gone, else what it had.
use Rattle.std.proofs.Common.{◌≡◌, ℕ, Bool, true, false, ◌&&◌, ◌||◌, not, List, [], ◌∷◌, ◌++◌, refl, sym, ◌∙◌, ap, subst, true≢false}
use Rattle.std.proofs.Common.{append_assoc, append-nil}
use Rattle.std.proofs.Math.Bool.{and-false, and-true, not-not}
use Rattle.std.proofs.lemmas.Bool.{and_parts}
use Rattle.std.specs.Prelude.{Option, Some, None, is_some, cond, map, filter_map, bytes_eq}
use Rattle.std.specs.List.{cons_option}
use Rattle.std.proofs.lemmas.List.Elements.{filter_map-append}
use Rattle.std.proofs.lemmas.Option.{same_Some}
use Rattle.svn_lists.proofs.Equality.{same_bytes}
use Rattle.svn_lists.proofs.Every.{all-append}
use Rattle.svn_lists.proofs.Sorted.{sorted_nil}
use Rattle.svn_types.specs.Names.{name_cmp, Path}
use Rattle.svn_types.specs.Props.{PropChange, changes_between, with_changes}
use Rattle.svn_types.specs.Pairs.{InNameOrder}
use Rattle.svn_types.specs.declared.kind.Kind.{Kind}
use Rattle.svn_types.specs.declared.kind.Kind.TheVariants.{File, Directory}
use Rattle.svn_repo.specs.Readings.{is_directory, is_directory_at, kind_of, text_of, props_of}
use Rattle.svn_repo.specs.History.{History, look}
use Rattle.svn_model.specs.Sources.{Reported, reported, source, governing_revision, starts_empty}
use Rattle.svn_editor.specs.Steps.{Action, Delete, Open, Add, Change, Text, Close}
use Rattle.svn_model.specs.Follow.{DriveInput, follow, is_kept, target_path, source_node, target_node}
use Rattle.svn_model.specs.Steps.{is_touched, is_new, is_gone, starts_empty_at, source_props, source_text, text_actions, gone_actions}
use Rattle.svn_model.specs.Steps.{touched_actions, new_actions, entered_actions, path_actions}
use Rattle.svn_model.specs.declared.base_node.BaseNode.{BaseNode}
use Rattle.svn_model.specs.declared.base_node.BaseNode.TheVariants.{File as FileNode, Dir as DirNode, NotPresent}
use Rattle.svn_model.specs.Nodes.{WorkingCopy, is_present, is_dir, is_incomplete, node_revision, node_path, IsTrueNode, base_node_by}
use Rattle.svn_model.specs.Nodes.{base_node}
use Rattle.svn_model.specs.Effects.{change_in, text_in, text_or}
use Rattle.law_update.proofs.PropChanges.{with_changes-between}
use Rattle.svn_model.proofs.Children.{follow-here}
use Rattle.law_update.proofs.Described.{Setting, source_looked}
use Rattle.law_drive.proofs.Classes.{kept_directory}
use Rattle.law_drive.proofs.Reporting.{shown_source}
use Rattle.law_drive.proofs.Courses.{AllOf, all_changes}
use Rattle.law_update.proofs.States.{act, acted, acted-append, changes_in, texts_in}
use Rattle.law_update.proofs.AfterSteps.{kept_present}

-- ---- changes and texts leave a node as it is

-- a change or a text
abbrev pub is_quiet : Action → Bool
is_quiet (Change k c) = true
is_quiet (Text s t) = true
is_quiet _ = false

-- one of them does nothing until a close
act_quiet : (d : DriveInput) (p : Path) (before : List Action) (a : Action) (found : Option BaseNode) → is_quiet a ≡ true
    → act d p before a found ≡ found
act_quiet d p before (Change k c) found q = refl
act_quiet d p before (Text s t) found q = refl
act_quiet d p before a found q = absurd (true≢false (sym q))

-- and neither do several
pub acted_quiet : (d : DriveInput) (p : Path) (before acts : List Action) (found : Option BaseNode) → AllOf is_quiet acts
    → acted d p before found acts ≡ found
acted_quiet d p before [] found q = refl
acted_quiet d p before (a ∷ acts) found q =
    acted_quiet d p (before ++ a ∷ []) acts (act d p before a found) q.1 ∙ act_quiet d p before a found q.0

-- quiet actions and one more do what the one does
pub acted_closed : (d : DriveInput) (p : Path) (before acts : List Action) (found : Option BaseNode) (c : Action) → AllOf is_quiet acts
    → acted d p before found (acts ++ c ∷ []) ≡ act d p (before ++ acts) c found
acted_closed d p before acts found c q =
    acted-append d p before acts (c ∷ []) found ∙ ap (act d p (before ++ acts) c) (acted_quiet d p before acts found q)

-- changes are quiet, and changes and a text that may be sent
pub quiet_changes : (k : Kind) (cs : List PropChange) → AllOf is_quiet (map (Change k) cs)
quiet_changes k = all_changes is_quiet k (λ c. refl)

pub quiet_texts : (d : DriveInput) (k : Kind) (cs : List PropChange) (old new : List ℕ)
    → AllOf is_quiet (map (Change k) cs ++ text_actions d old new)
quiet_texts d k cs old new =
    all-append (λ a. is_quiet a ≡ true) (map (Change k) cs) (text_actions d old new) (quiet_changes k cs) (by (bytes_eq old new))
  where
    by : (b : Bool) → AllOf is_quiet (cond b [] (Text (Some (d.checksum old)) new ∷ []))
    by true = tt
    by false = (refl, tt)

-- ---- what some actions say for a close

-- what neither some actions nor the next one say
pub quietly : {X : Type 0} (say : Action → Option X) (before : List Action) (a : Action) → filter_map say before ≡ [] → say a ≡ None
    → filter_map say (before ++ a ∷ []) ≡ []
quietly say before a none quiet =
    filter_map-append say before (a ∷ []) ∙ ap (λ l. l ++ filter_map say (a ∷ [])) none ∙ ap (λ o. cons_option o []) quiet

-- changes say themselves, and no text
pub changes_in-changes : (k : Kind) (cs : List PropChange) → changes_in (map (Change k) cs) ≡ cs
changes_in-changes k [] = refl
changes_in-changes k (c ∷ cs) = ap (λ (l : List PropChange). c ∷ l) (changes_in-changes k cs)

pub texts_in-changes : (k : Kind) (cs : List PropChange) → texts_in (map (Change k) cs) ≡ []
texts_in-changes k [] = refl
texts_in-changes k (c ∷ cs) = texts_in-changes k cs

-- a touched file's changes and its text
pub changes_in-texts : (d : DriveInput) (k : Kind) (cs : List PropChange) (old new : List ℕ)
    → changes_in (map (Change k) cs ++ text_actions d old new) ≡ cs
changes_in-texts d k cs old new =
    filter_map-append change_in (map (Change k) cs) (text_actions d old new)
    ∙ ap (λ l. l ++ changes_in (text_actions d old new)) (changes_in-changes k cs)
    ∙ ap (λ l. cs ++ l) (by (bytes_eq old new)) ∙ append-nil cs
  where
    by : (b : Bool) → changes_in (cond b [] (Text (Some (d.checksum old)) new ∷ [])) ≡ []
    by true = refl
    by false = refl

-- a text is sent where it differs
pub text_or-texts : (d : DriveInput) (k : Kind) (cs : List PropChange) (old new : List ℕ)
    → text_or (texts_in (map (Change k) cs ++ text_actions d old new)) old ≡ new
text_or-texts d k cs old new =
    ap (λ ts. text_or ts old)
    (filter_map-append text_in (map (Change k) cs) (text_actions d old new)
    ∙ ap (λ l. l ++ texts_in (text_actions d old new)) (texts_in-changes k cs))
    ∙ by (bytes_eq old new) refl
  where
    by : (b : Bool) → bytes_eq old new ≡ b → text_or (texts_in (cond b [] (Text (Some (d.checksum old)) new ∷ []))) old ≡ new
    by true e = same_bytes old new e
    by false e = refl

-- ---- a kept path's node is its source's

module _ (d : DriveInput) (w : WorkingCopy) (setting : Setting d w) where
  abbrev h : History
  h = d.history

  pub record KeptFile (p : Path) : Type 0 where
    pub revision : ℕ
    pub path : Path
    pub text : List ℕ
    pub props : List (List ℕ × List ℕ)
    pub is : w p ≡ Some (FileNode revision path text props)
    pub same_text : text ≡ source_text d (source_node d p)
    pub same_props : props ≡ source_props d p (source_node d p)

  pub record KeptDirectory (p : Path) : Type 0 where
    pub revision : ℕ
    pub path : Path
    pub complete : Bool
    pub props : List (List ℕ × List ℕ)
    pub is : w p ≡ Some (DirNode revision path complete props)
    pub same_complete : complete ≡ not (starts_empty_at d p)
    pub same_props : cond complete props [] ≡ source_props d p (source_node d p)

  -- what is at a kept path of that kind
  abbrev pub KeptAs : Path → Kind → Type 0
  KeptAs p File = KeptFile p
  KeptAs p Directory = KeptDirectory p

  -- what is at a kept path, of the target's kind
  pub kept_as : (p : Path) (n : ℕ) → is_kept d p ≡ true → target_node d p ≡ Some n → KeptAs p (kind_of h n)
  kept_as p n k t = subst (KeptAs p) (sym (kept_directory d setting.served p m.0 n k m.1 t)) (by (w p) refl (setting.true_of p))
    where
      present : is_present (w p) ≡ true
      present = kept_present d w setting p k

      m : (m : ℕ) × (source_node d p ≡ Some m) × (look h (node_revision (w p)) (node_path (w p)) ≡ Some m)
      m = source_looked d w setting p present

      empty_as : (kind : Kind) → kind_of h m.0 ≡ kind → starts_empty_at d p ≡ (starts_empty (follow d p).here.own && is_directory kind)
      empty_as kind e =
          ap (λ o. starts_empty (follow d p).here.own && is_directory_at h o) m.1
          ∙ ap (λ x. starts_empty (follow d p).here.own && is_directory x) e

      by : (found : Option BaseNode) → w p ≡ found → IsTrueNode h w p found → KeptAs p (kind_of h m.0)
      by None e tr = absurd (true≢false (sym present ∙ ap is_present e))
      by (Some NotPresent) e tr = absurd (true≢false (sym present ∙ ap is_present e))
      by (Some (FileNode r q x ps)) e tr =
          let one = same_Some tr.0 m.0 (sym tr.1 ∙ sym (ap (λ o. look h (node_revision o) (node_path o)) e) ∙ m.2) in
          let kind : kind_of h m.0 ≡ File = sym (ap (kind_of h) one) ∙ tr.2.kind in
          subst (KeptAs p) (sym kind) (record {
            revision = r;
            path = q;
            text = x;
            props = ps;
            is = e;
            same_text = tr.2.same_text ∙ ap (text_of h) one ∙ sym (ap (source_text d) m.1);
            same_props =
                tr.2.same_props ∙ ap (props_of h) one
                ∙ sym (ap (source_props d p) m.1
                ∙ ap (λ b. cond b [] (props_of h m.0)) (empty_as File kind ∙ and-false (starts_empty (follow d p).here.own)));
          })
      by (Some (DirNode r q c ps)) e tr =
          let one = same_Some tr.0 m.0 (sym tr.1 ∙ sym (ap (λ o. look h (node_revision o) (node_path o)) e) ∙ m.2) in
          let kind : kind_of h m.0 ≡ Directory = sym (ap (kind_of h) one) ∙ tr.2.kind in
          let empty : not c ≡ starts_empty_at d p =
          ap is_incomplete (sym e) ∙ (setting.describes p).incomplete (ap is_dir e)
          ∙ sym (ap (λ (s : Reported). starts_empty s.own) (follow-here d p))
          ∙ sym (and-true (starts_empty (follow d p).here.own)) ∙ sym (empty_as Directory kind) in
          subst (KeptAs p) (sym kind) (record {
            revision = r;
            path = q;
            complete = c;
            props = ps;
            is = e;
            same_complete = sym (not-not c) ∙ ap not empty;
            same_props = by_complete c refl empty (λ z. tr.2.same_props z ∙ ap (props_of h) one) ∙ sym (ap (source_props d p) m.1);
          })
        where
          by_complete : (b : Bool) → c ≡ b → not b ≡ starts_empty_at d p → (b ≡ true → ps ≡ props_of h m.0)
              → cond b ps [] ≡ cond (starts_empty_at d p) [] (props_of h m.0)
          by_complete true z u v = v refl ∙ ap (λ b. cond b [] (props_of h m.0)) u
          by_complete false z u v = ap (λ b. cond b [] (props_of h m.0)) u

  -- the properties of the source and of the target are in order
  source_in_order : (p : Path) → InNameOrder (source_props d p (source_node d p))
  source_in_order p = by (source_node d p) refl
    where
      by : (o : Option ℕ) → source_node d p ≡ o → InNameOrder (source_props d p o)
      by None e = sorted_nil name_cmp
      by (Some m) e = shown (starts_empty_at d p)
        where
          shown : (b : Bool) → InNameOrder (cond b [] (props_of h m))
          shown true = sorted_nil name_cmp
          shown false =
              setting.served.history.props_in_order (governing_revision (reported d.report p)) (reported d.report p).repos_path m
              (shown_source h (reported d.report p) m (sym (ap (source h) (follow-here d p)) ∙ e)).1

  target_in_order : (p : Path) (n : ℕ) → target_node d p ≡ Some n → InNameOrder (props_of h n)
  target_in_order p n t = setting.served.history.props_in_order d.target (target_path d p) n t

  -- ---- all of a path's actions

  -- a touched path ends with the target's node
  touched_all : (p : Path) (n : ℕ) (k : Kind) → target_node d p ≡ Some n → KeptAs p k
      → acted d p [] (w p) (touched_actions d p n k) ≡ Some (base_node_by k d.target (target_path d p) (text_of h n) (props_of h n))
  touched_all p n Directory t kept =
      acted_closed d p (Open Directory r ∷ []) (map (Change Directory) cs) (act d p [] (Open Directory r) (w p)) (Close Directory None)
      (quiet_changes Directory cs)
      ∙ ap (λ o. act d p (Open Directory r ∷ map (Change Directory) cs) (Close Directory None) (act d p [] (Open Directory r) o)) kept.is
      ∙ (λ i. Some (DirNode d.target (target_path d p) true (with_changes (kept.same_props i) (changes_in-changes Directory cs i))))
      ∙ ap (λ ps. Some (DirNode d.target (target_path d p) true ps))
      (with_changes-between old (props_of h n) (source_in_order p) (target_in_order p n t))
    where
      r : ℕ
      r = governing_revision (follow d p).here

      old : List (List ℕ × List ℕ)
      old = source_props d p (source_node d p)

      cs : List PropChange
      cs = changes_between old (props_of h n)
  touched_all p n File t kept =
      acted_closed d p (Open File r ∷ []) (map (Change File) cs ++ text_actions d before (text_of h n)) (w p)
      (Close File (Some (d.checksum (text_of h n))))
      (quiet_texts d File cs before (text_of h n))
      ∙ ap
      (act d p (Open File r ∷ (map (Change File) cs ++ text_actions d before (text_of h n)))
      (Close File (Some (d.checksum (text_of h n)))))
      kept.is
      ∙ (λ i. Some (FileNode d.target (target_path d p)
      (text_or (texts_in (map (Change File) cs ++ text_actions d before (text_of h n))) (kept.same_text i))
      (with_changes (kept.same_props i) (changes_in-texts d File cs before (text_of h n) i))))
      ∙ (λ i. Some (FileNode d.target (target_path d p) (text_or-texts d File cs before (text_of h n) i)
      (with_changes-between old (props_of h n) (source_in_order p) (target_in_order p n t) i)))
    where
      r : ℕ
      r = governing_revision (follow d p).here

      old : List (List ℕ × List ℕ)
      old = source_props d p (source_node d p)

      before : List ℕ
      before = source_text d (source_node d p)

      cs : List PropChange
      cs = changes_between old (props_of h n)

  -- and so does a new one, whatever was there before
  new_all : (p : Path) (n : ℕ) (k : Kind) (before : List Action) (found : Option BaseNode) → target_node d p ≡ Some n
      → changes_in before ≡ [] → texts_in before ≡ []
      → acted d p before found (new_actions d n k) ≡ Some (base_node_by k d.target (target_path d p) (text_of h n) (props_of h n))
  new_all p n Directory before found t c x =
      acted_closed d p (before ++ Add Directory ∷ []) (map (Change Directory) cs) (Some (DirNode d.target (target_path d p) false []))
      (Close Directory None) (quiet_changes Directory cs)
      ∙ ap (λ l. Some (DirNode d.target (target_path d p) true (with_changes [] l)))
      (filter_map-append change_in (before ++ Add Directory ∷ []) (map (Change Directory) cs)
      ∙ ap (λ l. l ++ changes_in (map (Change Directory) cs)) (quietly change_in before (Add Directory) c refl)
      ∙ changes_in-changes Directory cs)
      ∙ ap (λ ps. Some (DirNode d.target (target_path d p) true ps))
      (with_changes-between [] (props_of h n) (sorted_nil name_cmp) (target_in_order p n t))
    where
      cs : List PropChange
      cs = changes_between [] (props_of h n)
  new_all p n File before found t c x =
      ap (acted d p (before ++ Add File ∷ []) (Some NotPresent)) (sym (append_assoc (map (Change File) cs) (text ∷ []) (close ∷ [])))
      ∙ acted_closed d p (before ++ Add File ∷ []) (map (Change File) cs ++ text ∷ []) (Some NotPresent) close
      (all-append (λ a. is_quiet a ≡ true) (map (Change File) cs) (text ∷ []) (quiet_changes File cs) (refl, tt))
      ∙ (λ i. Some (FileNode d.target (target_path d p) (text_or (texts_are i) []) (with_changes [] (changes_are i))))
      ∙ ap (λ ps. Some (FileNode d.target (target_path d p) (text_of h n) ps))
      (with_changes-between [] (props_of h n) (sorted_nil name_cmp) (target_in_order p n t))
    where
      cs : List PropChange
      cs = changes_between [] (props_of h n)

      text : Action
      text = Text None (text_of h n)

      close : Action
      close = Close File (Some (d.checksum (text_of h n)))

      changes_are : changes_in ((before ++ Add File ∷ []) ++ (map (Change File) cs ++ text ∷ [])) ≡ cs
      changes_are =
          filter_map-append change_in (before ++ Add File ∷ []) (map (Change File) cs ++ text ∷ [])
          ∙ ap (λ l. l ++ changes_in (map (Change File) cs ++ text ∷ [])) (quietly change_in before (Add File) c refl)
          ∙ filter_map-append change_in (map (Change File) cs) (text ∷ []) ∙ append-nil (changes_in (map (Change File) cs))
          ∙ changes_in-changes File cs

      texts_are : texts_in ((before ++ Add File ∷ []) ++ (map (Change File) cs ++ text ∷ [])) ≡ text_of h n ∷ []
      texts_are =
          filter_map-append text_in (before ++ Add File ∷ []) (map (Change File) cs ++ text ∷ [])
          ∙ ap (λ l. l ++ texts_in (map (Change File) cs ++ text ∷ [])) (quietly text_in before (Add File) x refl)
          ∙ filter_map-append text_in (map (Change File) cs) (text ∷ []) ∙ ap (λ l. l ++ text_of h n ∷ []) (texts_in-changes File cs)

  -- what a path has after all of its actions, of what it had before
  abbrev pub entered_end : Path → Option ℕ → Option BaseNode → Option BaseNode
  entered_end p None found = found
  entered_end p (Some n) found = cond (is_touched d p || is_new d p) (Some (base_node h d.target (target_path d p) n)) found

  abbrev pub ended : Path → Option BaseNode → Option BaseNode
  ended p found = entered_end p (target_node d p) (cond (is_gone d p) None found)

  -- the classes of a path
  pub kept_not_gone : (p : Path) → is_kept d p ≡ true → is_gone d p ≡ false
  kept_not_gone p k = ap (λ b. is_some (source_node d p) && not b && (follow d p).parent_is_kept) k ∙ by (is_some (source_node d p))
    where
      by : (x : Bool) → (x && false && (follow d p).parent_is_kept) ≡ false
      by true = refl
      by false = refl

  pub touched_kept : (p : Path) → is_touched d p ≡ true → is_kept d p ≡ true
  touched_kept p t = (and_parts (is_kept d p) _ t).0

  pub new_not_kept : (p : Path) → is_new d p ≡ true → is_kept d p ≡ false
  new_not_kept p v = sym (not-not (is_kept d p)) ∙ ap not (and_parts (not (is_kept d p)) (is_some (target_node d p)) v).0

  -- the final state of a path
  pub acted_all : (p : Path) (found : Option BaseNode) → (is_kept d p ≡ true → found ≡ w p)
      → acted d p [] found (path_actions d p) ≡ ended p found
  acted_all p found b =
      acted-append d p [] (gone_actions d p) (entered_actions d p (target_node d p)) found
      ∙ ap (λ o. acted d p (gone_actions d p) o (entered_actions d p (target_node d p))) (gone (is_gone d p))
      ∙ as_written (target_node d p) (by (target_node d p) (is_touched d p) (is_new d p) refl refl)
    where
      gone : (g : Bool) → acted d p [] found (cond g (Delete (governing_revision (follow d p).here) ∷ []) []) ≡ cond g None found
      gone true = refl
      gone false = refl

      entered_by : Option ℕ → Bool → Bool → List Action
      entered_by None t v = []
      entered_by (Some n) t v = cond t (touched_actions d p n (kind_of h n)) (cond v (new_actions d n (kind_of h n)) [])

      end_by : Option ℕ → Bool → Bool → Option BaseNode
      end_by None t v = cond (is_gone d p) None found
      end_by (Some n) t v = cond (t || v) (Some (base_node h d.target (target_path d p) n)) (cond (is_gone d p) None found)

      silent : (g : Bool)
          → (changes_in (cond g (Delete (governing_revision (follow d p).here) ∷ []) []) ≡ [])
          × (texts_in (cond g (Delete (governing_revision (follow d p).here) ∷ []) []) ≡ [])
      silent true = (refl, refl)
      silent false = (refl, refl)

      by : (o : Option ℕ) (t v : Bool) → target_node d p ≡ o → is_touched d p ≡ t
          → acted d p (gone_actions d p) (cond (is_gone d p) None found) (entered_by o t v) ≡ end_by o t v
      by None t v z u = refl
      by (Some n) true v z u =
          let k = touched_kept p u in
          ap
          (λ g. acted d p (cond g (Delete (governing_revision (follow d p).here) ∷ []) []) (cond g None found)
          (touched_actions d p n (kind_of h n)))
          (kept_not_gone p k)
          ∙ ap (λ o. acted d p [] o (touched_actions d p n (kind_of h n))) (b k)
          ∙ touched_all p n (kind_of h n) z (kept_as p n k z)
      by (Some n) false true z u =
          let s = silent (is_gone d p) in new_all p n (kind_of h n) (gone_actions d p) (cond (is_gone d p) None found) z s.0 s.1
      by (Some n) false false z u = refl

      as_written : (o : Option ℕ)
          → acted d p (gone_actions d p) (cond (is_gone d p) None found) (entered_by o (is_touched d p) (is_new d p))
          ≡ end_by o (is_touched d p) (is_new d p)
          → acted d p (gone_actions d p) (cond (is_gone d p) None found) (entered_actions d p o)
          ≡ entered_end p o (cond (is_gone d p) None found)
      as_written None e = e
      as_written (Some n) e = e
