-- At the next step of a drive the copy doesn't refuse it.
use Rattle.std.proofs.Common.{◌≡◌, ℕ, Bool, true, false, ◌&&◌, ◌⊎◌, not, List, [], ◌∷◌, ◌++◌, length, refl, sym, ◌∙◌, ap, subst}
use Rattle.std.proofs.Common.{true≢false, append_assoc, append-nil, eq-eqb, inl, inr}
use Rattle.std.specs.Prelude.{Option, Some, None, is_some, cond, map, nat_eq, nat_lt, bytes_eq, filter_map}
use Rattle.std.specs.List.{cons_option}
use Rattle.std.proofs.lemmas.Bool.{le-ltb, and_parts}
use Rattle.std.proofs.lemmas.List.Elements.{filter_map-append}
use Rattle.svn_lists.proofs.Equality.{bytes_eq-same}
use Rattle.svn_types.specs.Names.{Path}
use Rattle.svn_types.specs.Paths.{is_below, child}
use Rattle.svn_types.specs.Props.{PropChange, is_same_value, names_of_both, change_between, changes_between}
use Rattle.svn_types.specs.Pairs.{value_of}
use Rattle.svn_types.specs.declared.kind.Kind.{Kind}
use Rattle.svn_types.specs.declared.kind.Kind.TheVariants.{File, Directory}
use Rattle.svn_repo.specs.History.{History}
use Rattle.svn_repo.specs.Readings.{SmallValues, kind_of, text_of, props_of}
use Rattle.svn_types.specs.Limits.{path_limit, size_limit}
use Rattle.svn_types.proofs.NameLemmas.{value_of-first, Name}
use Rattle.svn_types.proofs.PathLemmas.{path_cases}
use Rattle.svn_model.specs.Sources.{governing_revision, source}
use Rattle.svn_editor.specs.Steps.{Action, Delete, Open, Add, Change, Text, Close, Step}
use Rattle.svn_editor.specs.declared.fault.EditFault.{EditFault}
use Rattle.svn_editor.specs.declared.fault.EditFault.TheVariants.{NoEntry, WrongKind, WrongRevision, BaseChecksum, TextChecksum}
use Rattle.svn_editor.specs.declared.fault.EditFault.TheVariants.{EntryExists, TooDeep, TooLong}
use Rattle.svn_model.specs.Follow.{DriveInput, follow, is_kept, target_path, source_node, target_node}
use Rattle.svn_model.specs.Steps.{IsDriveOf, is_touched, is_new, is_gone, source_props, source_text, text_actions, gone_actions}
use Rattle.svn_model.specs.Steps.{touched_actions, new_actions, entered_actions, path_actions}
use Rattle.svn_model.specs.declared.base_node.BaseNode.{BaseNode}
use Rattle.svn_model.specs.declared.base_node.BaseNode.TheVariants.{Dir as DirNode, NotPresent}
use Rattle.svn_model.specs.Nodes.{WorkingCopy, is_present, node_revision, node_path, node_text}
use Rattle.svn_model.specs.Effects.{is_too_long, is_wrong_sum, has_kind, text_in, text_or, moved_path, joined_path, step_fault}
use Rattle.svn_model.proofs.Children.{follow-here, parent_is_kept-child}
use Rattle.law_update.proofs.Described.{Setting}
use Rattle.law_drive.proofs.Courses.{AllOf}
use Rattle.law_update.proofs.States.{actions_at, texts_at-actions, acted, act, texts_in, base, state, step_cut}
use Rattle.law_update.proofs.Deletes.{kept_above_child, none_deleted_above, kept_base}
use Rattle.law_update.proofs.AfterSteps.{kept_present, here, moved_is, joined_new, adds_new, entered_path, joined_next}
use Rattle.law_update.proofs.AfterAllSteps.{is_quiet, acted_quiet, quiet_changes, quiet_texts, quietly, texts_in-changes}
use Rattle.law_update.proofs.AfterAllSteps.{text_or-texts, KeptAs, kept_as, touched_kept, new_not_kept, kept_not_gone}
use Rattle.law_update.proofs.EndsAsResult.{nothing_left, deleted_next}

-- ---- the refusal of an action, by its path's own actions alone

abbrev pub own_fault : DriveInput → Path → List Action → Option BaseNode → Action → Option EditFault
own_fault d p before found (Delete revision) =
    cond (not (is_present found)) (Some NoEntry)
    (cond (not (nat_eq (node_revision found) revision)) (Some WrongRevision) None)
own_fault d p before found (Add kind) =
    cond (is_present found) (Some EntryExists)
    (cond (nat_lt path_limit (length (target_path d p))) (Some TooDeep) None)
own_fault d p before found (Open kind revision) =
    cond (not (is_present found)) (Some NoEntry)
    (cond (not (has_kind kind found)) (Some WrongKind)
    (cond (not (nat_eq (node_revision found) revision)) (Some WrongRevision)
    (cond (nat_lt path_limit (length (target_path d p))) (Some TooDeep) None)))
own_fault d p before found (Change kind change) = cond (is_too_long change.1) (Some TooLong) None
own_fault d p before found (Text base_checksum text) =
    cond (is_too_long (Some text)) (Some TooLong)
    (cond (is_wrong_sum base_checksum (d.checksum (node_text found))) (Some BaseChecksum) None)
own_fault d p before found (Close File sum) =
    cond (is_wrong_sum sum (d.checksum (text_or (texts_in before) (node_text found)))) (Some TextChecksum) None
own_fault d p before found (Close Directory sum) = None

-- none of the actions is refused
abbrev pub AllFit : DriveInput → Path → List Action → Option BaseNode → List Action → Type 0
AllFit d p before found [] = Unit {0}
AllFit d p before found (a ∷ acts) = (own_fault d p before found a ≡ None) × AllFit d p (before ++ a ∷ []) (act d p before a found) acts

-- the actions of two lists fit where those of the second do after the first
fit-append : (d : DriveInput) (p : Path) (before xs ys : List Action) (found : Option BaseNode) → AllFit d p before found xs
    → AllFit d p (before ++ xs) (acted d p before found xs) ys → AllFit d p before found (xs ++ ys)
fit-append d p before [] ys found h k = subst (λ b. AllFit d p b found ys) (append-nil before) k
fit-append d p before (x ∷ xs) ys found h k = (
  h.0,
  fit-append d p (before ++ x ∷ []) xs ys (act d p before x found) h.1
      (subst (λ b. AllFit d p b (acted d p (before ++ x ∷ []) (act d p before x found) xs) ys) (sym (append_assoc before (x ∷ []) xs)) k),
)

-- after quiet actions the node is the same
fit-quiet : (d : DriveInput) (p : Path) (before xs ys : List Action) (found : Option BaseNode) → AllOf is_quiet xs → AllFit d p before found xs
    → AllFit d p (before ++ xs) found ys → AllFit d p before found (xs ++ ys)
fit-quiet d p before xs ys found q h k =
    fit-append d p before xs ys found h (subst (λ o. AllFit d p (before ++ xs) o ys) (sym (acted_quiet d p before xs found q)) k)

-- the refusal of one of the actions
pub fit_at : (d : DriveInput) (p : Path) (before xs : List Action) (a : Action) (ys : List Action) (found : Option BaseNode)
    → AllFit d p before found (xs ++ a ∷ ys)
    → own_fault d p (before ++ xs) (acted d p before found xs) a ≡ None
fit_at d p before [] a ys found h = ap (λ b. own_fault d p b found a) (append-nil before) ∙ h.0
fit_at d p before (x ∷ xs) a ys found h =
    ap (λ b. own_fault d p b (acted d p (before ++ x ∷ []) (act d p before x found) xs) a) (sym (append_assoc before (x ∷ []) xs))
    ∙ fit_at d p (before ++ x ∷ []) xs a ys (act d p before x found) h.1

-- ---- values and texts are small

-- each value of small ones is small
value_small : (ps : List (List ℕ × List ℕ)) (name : Name) → SmallValues ps → is_too_long (value_of ps name) ≡ false
value_small [] name h = refl
value_small (e ∷ es) name h = ap is_too_long (value_of-first e es name) ∙ by (bytes_eq e.0 name) (value_small es name h.1)
  where
    by : (b : Bool) → is_too_long (value_of es name) ≡ false → is_too_long (cond b (Some e.1) (value_of es name)) ≡ false
    by true ih = le-ltb size_limit (length e.1) h.0
    by false ih = ih

abbrev AllSmall : List PropChange → Type 0
AllSmall [] = Unit {0}
AllSmall (c ∷ cs) = (is_too_long c.1 ≡ false) × AllSmall cs

-- and so is each change
small_changes : (old new : List (List ℕ × List ℕ)) (names : List (List ℕ)) → SmallValues new
    → AllSmall (filter_map (change_between old new) names)
small_changes old new [] h = tt
small_changes old new (n ∷ names) h = by (is_same_value (value_of old n) (value_of new n)) (small_changes old new names h)
  where
    by : (b : Bool) → AllSmall (filter_map (change_between old new) names)
        → AllSmall (cons_option (cond b None (Some (n, value_of new n))) (filter_map (change_between old new) names))
    by true ih = ih
    by false ih = (value_small new n h, ih)

-- small changes aren't refused
fit_changes : (d : DriveInput) (p : Path) (before : List Action) (found : Option BaseNode) (k : Kind) (cs : List PropChange) → AllSmall cs
    → AllFit d p before found (map (Change k) cs)
fit_changes d p before found k [] h = tt
fit_changes d p before found k (c ∷ cs) h =
    (ap (λ b. cond b (Some TooLong) None) h.0, fit_changes d p (before ++ Change k c ∷ []) found k cs h.1)

-- the right checksum isn't refused
right_sum : (a b : List ℕ) → a ≡ b → is_wrong_sum (Some a) b ≡ false
right_sum a b e = ap (λ x. not (bytes_eq a x)) (sym e) ∙ ap not (bytes_eq-same a)

same_sum : (d : DriveInput) (a b : List ℕ) → a ≡ b → is_wrong_sum (Some (d.checksum a)) (d.checksum b) ≡ false
same_sum d a b e = right_sum (d.checksum a) (d.checksum b) (ap d.checksum e)

module _ (d : DriveInput) (w : WorkingCopy) (setting : Setting d w) where
  abbrev h : History
  h = d.history

  -- ---- the actions of a path

  -- what is in the target is within the limits
  short_target : (p : Path) (n : ℕ) → target_node d p ≡ Some n → nat_lt path_limit (length (target_path d p)) ≡ false
  short_target p n t = le-ltb path_limit (length (target_path d p)) (setting.served.history.paths_short d.target (target_path d p) n t)

  changes_fit : (p : Path) (before : List Action) (found : Option BaseNode) (k : Kind) (old : List (List ℕ × List ℕ)) (n : ℕ)
      → target_node d p ≡ Some n → AllFit d p before found (map (Change k) (changes_between old (props_of h n)))
  changes_fit p before found k old n t =
      fit_changes d p before found k (changes_between old (props_of h n))
      (small_changes old (props_of h n) (names_of_both old (props_of h n))
      (setting.served.history.props_small d.target (target_path d p) n t))

  small_text : (p : Path) (n : ℕ) → target_node d p ≡ Some n → is_too_long (Some (text_of h n)) ≡ false
  small_text p n t = le-ltb size_limit (length (text_of h n)) (setting.served.history.texts_small d.target (target_path d p) n t)

  -- what is present has the revision that the report says
  right_revision : (p : Path) → is_present (w p) ≡ true → nat_eq (node_revision (w p)) (governing_revision (follow d p).here) ≡ true
  right_revision p present =
      eq-eqb (node_revision (w p)) (governing_revision (follow d p).here)
      ((setting.describes p).revision present ∙ ap governing_revision (sym (follow-here d p)))

  -- the actions of a touched path
  open_fits : (p : Path) (n : ℕ) (k : Kind) → is_kept d p ≡ true → target_node d p ≡ Some n → has_kind k (w p) ≡ true
      → own_fault d p [] (w p) (Open k (governing_revision (follow d p).here)) ≡ None
  open_fits p n k kept t kind =
      ap (λ b. cond (not b) (Some NoEntry)
      (cond (not (has_kind k (w p))) (Some WrongKind)
      (cond (not (nat_eq (node_revision (w p)) r)) (Some WrongRevision) (cond deep (Some TooDeep) None)))) present
      ∙ ap (λ b. cond (not b) (Some WrongKind)
      (cond (not (nat_eq (node_revision (w p)) r)) (Some WrongRevision) (cond deep (Some TooDeep) None))) kind
      ∙ ap (λ b. cond (not b) (Some WrongRevision) (cond deep (Some TooDeep) None)) (right_revision p present)
      ∙ ap (λ b. cond b (Some TooDeep) None) (short_target p n t)
    where
      r : ℕ
      r = governing_revision (follow d p).here

      deep : Bool
      deep = nat_lt path_limit (length (target_path d p))

      present : is_present (w p) ≡ true
      present = kept_present d w setting p kept

  touched_fits : (p : Path) (n : ℕ) (k : Kind) → is_kept d p ≡ true → target_node d p ≡ Some n → KeptAs d w setting p k
      → AllFit d p [] (w p) (touched_actions d p n k)
  touched_fits p n Directory kept t is = (
    open_fits p n Directory kept t (ap (has_kind Directory) is.is),
    fit-append d p (Open Directory r ∷ []) (map (Change Directory) cs) (Close Directory None ∷ []) opened
        (changes_fit p (Open Directory r ∷ []) opened Directory (source_props d p (source_node d p)) n t) (refl, tt),
  )
    where
      r : ℕ
      r = governing_revision (follow d p).here

      cs : List PropChange
      cs = changes_between (source_props d p (source_node d p)) (props_of h n)

      opened : Option BaseNode
      opened = act d p [] (Open Directory r) (w p)
  touched_fits p n File kept t is = (
    open_fits p n File kept t (ap (has_kind File) is.is),
    fit-quiet d p first (map (Change File) cs ++ texts) (Close File (Some (d.checksum (text_of h n))) ∷ []) (w p)
        (quiet_texts d File cs old (text_of h n))
        (fit-quiet d p first (map (Change File) cs) texts (w p) (quiet_changes File cs)
        (changes_fit p first (w p) File (source_props d p (source_node d p)) n t) (text_fits (bytes_eq old (text_of h n)))) (
          ap (λ b. cond b (Some TextChecksum) None)
              (same_sum d (text_of h n) (text_or (texts_in (map (Change File) cs ++ texts)) (node_text (w p))) (sym closed)),
          tt,
        ),
  )
    where
      r : ℕ
      r = governing_revision (follow d p).here

      cs : List PropChange
      cs = changes_between (source_props d p (source_node d p)) (props_of h n)

      old : List ℕ
      old = source_text d (source_node d p)

      texts : List Action
      texts = text_actions d old (text_of h n)

      first : List Action
      first = Open File r ∷ []

      same_text : node_text (w p) ≡ old
      same_text = ap node_text is.is ∙ is.same_text

      closed : text_or (texts_in (map (Change File) cs ++ texts)) (node_text (w p)) ≡ text_of h n
      closed = ap (text_or (texts_in (map (Change File) cs ++ texts))) same_text ∙ text_or-texts d File cs old (text_of h n)

      text_fits : (b : Bool)
          → AllFit d p (first ++ map (Change File) cs) (w p) (cond b [] (Text (Some (d.checksum old)) (text_of h n) ∷ []))
      text_fits true = tt
      text_fits false = (
        ap
            (λ b. cond b (Some TooLong)
            (cond (is_wrong_sum (Some (d.checksum old)) (d.checksum (node_text (w p)))) (Some BaseChecksum) None))
            (small_text p n t)
            ∙ ap (λ b. cond b (Some BaseChecksum) None) (same_sum d old (node_text (w p)) (sym same_text)),
        tt,
      )

  -- the actions of a new path, where nothing is
  new_fits : (p : Path) (n : ℕ) (k : Kind) (before : List Action) (found : Option BaseNode) → target_node d p ≡ Some n
      → is_present found ≡ false → texts_in before ≡ []
      → AllFit d p before found (new_actions d n k)
  new_fits p n k before found t absent x = by k
    where
      added : (kind : Kind) → own_fault d p before found (Add kind) ≡ None
      added kind =
          ap (λ b. cond b (Some EntryExists) (cond (nat_lt path_limit (length (target_path d p))) (Some TooDeep) None)) absent
          ∙ ap (λ b. cond b (Some TooDeep) None) (short_target p n t)

      cs : List PropChange
      cs = changes_between [] (props_of h n)

      by : (k : Kind) → AllFit d p before found (new_actions d n k)
      by Directory = (
        added Directory,
        fit-append d p (before ++ Add Directory ∷ []) (map (Change Directory) cs) (Close Directory None ∷ [])
            (Some (DirNode d.target (target_path d p) false []))
            (changes_fit p (before ++ Add Directory ∷ []) (Some (DirNode d.target (target_path d p) false [])) Directory [] n t) (refl, tt),
      )
      by File = (
        added File,
        fit-quiet d p (before ++ Add File ∷ []) (map (Change File) cs)
            (Text None (text_of h n) ∷ Close File (Some (d.checksum (text_of h n))) ∷ []) (Some NotPresent) (quiet_changes File cs)
            (changes_fit p (before ++ Add File ∷ []) (Some NotPresent) File [] n t) (
              ap (λ b. cond b (Some TooLong) None) (small_text p n t),
              (ap (λ b. cond b (Some TextChecksum) None) (same_sum d (text_of h n) _ (sym closed)), tt),
            ),
      )
        where
          silent : texts_in (before ++ Add File ∷ []) ≡ []
          silent = quietly text_in before (Add File) x refl

          closed : text_or (texts_in (((before ++ Add File ∷ []) ++ map (Change File) cs) ++ Text None (text_of h n) ∷ [])) [] ≡ text_of h n
          closed =
              ap (λ ts. text_or ts [])
              (filter_map-append text_in ((before ++ Add File ∷ []) ++ map (Change File) cs) (Text None (text_of h n) ∷ [])
              ∙ ap (λ l. l ++ text_of h n ∷ [])
              (filter_map-append text_in (before ++ Add File ∷ []) (map (Change File) cs) ∙ (λ i. silent i ++ texts_in-changes File cs i)))

  -- what isn't kept, but in the source, is present
  source_present : (p : Path) → is_some (source_node d p) ≡ true → is_present (w p) ≡ true
  source_present p s = (setting.describes p).present ∙ ap (λ x. is_some (source h x)) (sym (follow-here d p)) ∙ s

  -- none of a path's actions is refused
  pub all_fit : (p : Path) (found : Option BaseNode) → (is_kept d p ≡ true → found ≡ w p) → (is_gone d p ≡ true → found ≡ w p)
      → (is_kept d p ≡ false → is_present (cond (is_gone d p) None found) ≡ false)
      → AllFit d p [] found (path_actions d p)
  all_fit p found kept gone absent =
      fit-append d p [] (gone_actions d p) (entered_actions d p (target_node d p)) found (gone_fits (is_gone d p) refl)
      (subst (λ o. AllFit d p (gone_actions d p) o (entered_actions d p (target_node d p))) (sym (deleted (is_gone d p)))
      (as_written (target_node d p) (by (target_node d p) (is_touched d p) (is_new d p) refl refl refl)))
    where
      r : ℕ
      r = governing_revision (follow d p).here

      deleted : (g : Bool) → acted d p [] found (cond g (Delete r ∷ []) []) ≡ cond g None found
      deleted true = refl
      deleted false = refl

      gone_fits : (g : Bool) → is_gone d p ≡ g → AllFit d p [] found (cond g (Delete r ∷ []) [])
      gone_fits false e = tt
      gone_fits true e =
          let present =
          source_present p
          (and_parts (is_some (source_node d p)) (not (is_kept d p))
          (and_parts (is_some (source_node d p) && not (is_kept d p)) (follow d p).parent_is_kept e).0).0 in (
            ap (λ o. own_fault d p [] o (Delete r)) (gone e)
                ∙ ap (λ b. cond (not b) (Some NoEntry) (cond (not (nat_eq (node_revision (w p)) r)) (Some WrongRevision) None)) present
                ∙ ap (λ b. cond (not b) (Some WrongRevision) None) (right_revision p present),
            tt,
          )

      entered_by : Option ℕ → Bool → Bool → List Action
      entered_by None t v = []
      entered_by (Some n) t v = cond t (touched_actions d p n (kind_of h n)) (cond v (new_actions d n (kind_of h n)) [])

      silent : (g : Bool) → texts_in (cond g (Delete r ∷ []) []) ≡ []
      silent true = refl
      silent false = refl

      by : (o : Option ℕ) (t v : Bool) → target_node d p ≡ o → is_touched d p ≡ t → is_new d p ≡ v
          → AllFit d p (gone_actions d p) (cond (is_gone d p) None found) (entered_by o t v)
      by None t v z x y = tt
      by (Some n) true v z x y =
          let k = touched_kept d w setting p x in
          subst (λ g. AllFit d p (cond g (Delete r ∷ []) []) (cond g None found) (touched_actions d p n (kind_of h n)))
          (sym (kept_not_gone d w setting p k))
          (subst (λ o. AllFit d p [] o (touched_actions d p n (kind_of h n))) (sym (kept k))
          (touched_fits p n (kind_of h n) k z (kept_as d w setting p n k z)))
      by (Some n) false true z x y =
          new_fits p n (kind_of h n) (gone_actions d p) (cond (is_gone d p) None found) z (absent (new_not_kept d w setting p y))
          (silent (is_gone d p))
      by (Some n) false false z x y = tt

      as_written : (o : Option ℕ)
          → AllFit d p (gone_actions d p) (cond (is_gone d p) None found) (entered_by o (is_touched d p) (is_new d p))
          → AllFit d p (gone_actions d p) (cond (is_gone d p) None found) (entered_actions d p o)
      as_written None e = e
      as_written (Some n) e = e

  -- ---- the next step

  module _ (late : Bool) (done : List Step) (s : Step) (rest : List Step) (drive : IsDriveOf d late (done ++ s ∷ rest)) where
    -- a path that is gone is there until its own delete
    gone_base : (p : Path) → is_gone d p ≡ true → base w done p ≡ w p
    gone_base p g = ap (λ b. cond b None (w p)) (none_deleted_above d late done (s ∷ rest) drive p (above (path_cases p)))
      where
        above : (p ≡ []) ⊎ ((q : Path) × (name : Name) × (p ≡ child q name)) → (x : Path) → is_below x p ≡ true → is_kept d x ≡ true
        above (inl e) x b = absurd (true≢false (sym (sym (ap (is_gone d) e) ∙ g) ∙ kept_not_gone d w setting [] refl))
        above (inr c) x b =
            kept_above_child d x c.0 c.1 (sym (ap (is_below x) c.2) ∙ b)
            (sym (parent_is_kept-child d c.0 c.1) ∙ sym (ap (λ y. (follow d y).parent_is_kept) c.2)
            ∙ (and_parts (is_some (source_node d p) && not (is_kept d p)) (follow d p).parent_is_kept g).1)

    next_fits : AllFit d s.path [] (base w done s.path) (path_actions d s.path)
    next_fits =
        all_fit s.path (base w done s.path) (kept_base d w late done (s ∷ rest) drive s.path) (gone_base s.path)
        (nothing_left d w setting done s.path (deleted_next d w setting late done s rest drive))

    module _ (w' : WorkingCopy) (stands : (p : Path) → w' p ≡ state d w done p) where
      joined : (q : Path) (name : Name) → s.path ≡ child q name → joined_path w' s.path ≡ child (target_path d q) name
      joined q name e = joined_next d w setting late done s rest drive q name e w' stands

      abbrev mine : List Action
      mine = actions_at s.path done

      -- the copy refuses the step where the path's own actions do
      fault_action : (a : Action) → s.action ≡ a → step_fault d.checksum d.mode done w' s.path a ≡ own_fault d s.path mine (w' s.path) a
      fault_action (Delete r) e = refl
      fault_action (Change k c) e = refl
      fault_action (Text b t) e = refl
      fault_action (Close Directory c) e = refl
      fault_action (Close File c) e =
          ap (λ ts. cond (is_wrong_sum c (d.checksum (text_or ts (node_text (w' s.path))))) (Some TextChecksum) None)
          (texts_at-actions s.path done)
      fault_action (Add k) e =
          ap (λ q. cond (is_present (w' s.path)) (Some EntryExists) (cond (nat_lt path_limit (length q)) (Some TooDeep) None))
          (joined_new d w setting late done s rest drive w' stands joined
          (adds_new d w setting late done s rest drive w' stands joined (here d w setting late done s rest drive w' stands joined) k e))
      fault_action (Open k r) e = by (is_present (w' s.path)) refl
        where
          after : Path → Option EditFault
          after q =
              cond (not (has_kind k (w' s.path))) (Some WrongKind)
              (cond (not (nat_eq (node_revision (w' s.path)) r)) (Some WrongRevision)
              (cond (nat_lt path_limit (length q)) (Some TooDeep) None))

          by : (b : Bool) → is_present (w' s.path) ≡ b
              → cond (not b) (Some NoEntry) (after (moved_path d.mode w' s.path (node_path (w' s.path))))
              ≡ cond (not b) (Some NoEntry) (after (target_path d s.path))
          by false z = refl
          by true z =
              ap after
              (moved_is d w setting late done s rest drive w' stands joined d.mode refl (node_path (w' s.path))
              (λ m. entered_path d w setting late done s rest drive w' stands joined m
              (here d w setting late done s rest drive w' stands joined) (λ x q. let y = sym e ∙ q in cc)
              (λ x q. let y = sym e ∙ q in cc) z))

      -- no refusal at the next step
      pub fits_next : step_fault d.checksum d.mode done w' s.path s.action ≡ None
      fits_next =
          fault_action s.action refl
          ∙ ap (λ o. own_fault d s.path mine o s.action) (stands s.path)
          ∙ fit_at d s.path [] mine s.action (actions_at s.path rest) (base w done s.path)
          (subst (AllFit d s.path [] (base w done s.path)) (sym (step_cut d late done s rest drive)) next_fits)
