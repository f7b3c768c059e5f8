-- A call that isn't refused keeps the shape of the copy.
use Rattle.std.proofs.Common.{◌≡◌, ◌≢◌, ℕ, ◌+◌, ◌≤◌, Bool, true, false, cond, ◌&&◌, ◌||◌, not, List, [], ◌∷◌, ◌++◌, length, refl, sym, ◌∙◌}
use Rattle.std.proofs.Common.{ap, subst, true≢false, inl, inr, arith}
use Rattle.std.specs.Prelude.{Option, Some, None, is_some, ◌⊎◌, nat_lt, nat_eq, option_map}
use Rattle.std.specs.Option.{option_or}
use Rattle.std.specs.List.{list_any}
use Rattle.std.proofs.lemmas.Option.{same_Some}
use Rattle.std.proofs.lemmas.Bool.{false_from_ne_true, not-false, or_parts}
use Rattle.std.proofs.lemmas.Map.Keys.{any_passes_from_place}
use Rattle.svn_lists.proofs.Options.{cond_none, some-none}
use Rattle.svn_lists.proofs.Somewhere.{any_push}
use Rattle.svn_types.specs.declared.kind.Kind.{Kind}
use Rattle.svn_types.specs.declared.kind.Kind.TheVariants.{File, Directory}
use Rattle.svn_types.specs.Names.{Path, IsName}
use Rattle.svn_types.specs.Props.{PropChange}
use Rattle.svn_types.specs.Paths.{path_eq, is_within, is_root, child, parent as parent_of, last_name}
use Rattle.svn_types.specs.Limits.{path_limit}
use Rattle.svn_types.proofs.PathLemmas.{same_path, path_eq-same, path_eq-longer, parent-child, split_within}
use Rattle.svn_editor.specs.declared.call.Call.{Call}
use Rattle.svn_editor.specs.declared.call.Call.TheVariants.{SetTargetRevision, OpenRoot, DeleteEntry, AddDirectory, OpenDirectory}
use Rattle.svn_editor.specs.declared.call.Call.TheVariants.{ChangeDirProp, CloseDirectory, AddFile, OpenFile, ChangeFileProp, ApplyText}
use Rattle.svn_editor.specs.declared.call.Call.TheVariants.{CloseFile, CloseEdit, AbortEdit}
use Rattle.svn_editor.specs.declared.fault.EditFault.{EditFault}
use Rattle.svn_editor.specs.declared.fault.EditFault.TheVariants.{Order, NoEntry, WrongKind, WrongRevision, EntryExists, TooDeep}
use Rattle.svn_editor.specs.declared.fault.OrderFault.{OrderFault}
use Rattle.svn_editor.specs.Calls.{Given, kind_eq, given, given_by, given_path, named_by, entry_of, all_given, is_closed, closes}
use Rattle.svn_editor.specs.Calls.{opens_entry, path_of, is_open_file, a_file_is_open, a_directory_is_open}
use Rattle.svn_editor.specs.Order.{order_fault, IsLawful}
use Rattle.svn_editor.specs.declared.mode.Mode.{Mode}
use Rattle.svn_editor.specs.declared.mode.Mode.TheVariants.{Update, SwitchTo}
use Rattle.svn_editor.specs.Steps.{Action, Open, Add, Change, Text, Close, steps_of, target_of}
use Rattle.svn_editor.proofs.Accepted.{IsAccepted, accepted}
use Rattle.svn_order.proofs.Sound.{IsSound, known, parent_is, member_of}
use Rattle.svn_order.proofs.Lawful.{sound, lawful_more}
use Rattle.svn_model.specs.declared.base_node.BaseNode.{BaseNode}
use Rattle.svn_model.specs.declared.base_node.BaseNode.TheVariants.{File as FileNode, Dir as DirNode, NotPresent}
use Rattle.svn_model.specs.Nodes.{WorkingCopy, IsWorkingCopy, get_in, is_dir, is_present, is_not_present, node_path, node_revision}
use Rattle.law_copy.specs.Laws.{EndsNamed, OpensNamed, IsPathed, IsShapedAfter, AllTakenFrom, is_open_of, is_joined_at_close}
use Rattle.svn_model.specs.Effects.{changes_at, texts_at, moved_path, joined_path, effect, after_from, stepped, below_after}
use Rattle.svn_model.specs.Effects.{opened_directory, closed_directory, closed_file, step_effect, has_kind, is_settled_deep, edit_fault}
use Rattle.svn_model.specs.Effects.{refusal}
use Rattle.law_copy.proofs.StepEffects.{effect_alone, effect_none, effect_delete}
use Rattle.law_copy.proofs.OnePath.{opened_first, given_cases, pathed}
use Rattle.law_copy.proofs.OpenStand.{opened_parent, opened_above, opened_dir, closed_dir, closed_file_dir}
use Rattle.law_copy.proofs.OpenStand.{directories_stand}
use Rattle.law_copy.proofs.FilesStand.{file_kept}
use Rattle.law_copy.proofs.OneNode.{split_last, dir_present, present_stands, short_enough, Fits, parent_dir, above_old, joined_fits}
use Rattle.law_copy.proofs.OneNode.{moved_fits, one_changed, deleted_shape, settled_shape}

-- ---- faults

refusal_parts : (o : Option OrderFault) (f : Option EditFault) → option_or (option_map Order o) f ≡ None → (o ≡ None) × (f ≡ None)
refusal_parts None f h = (refl, h)
refusal_parts (Some x) f h = absurd (some-none (Order x) h)

is_file_kind : (k : Kind) → kind_eq k File ≡ true → k ≡ File
is_file_kind File h = refl
is_file_kind Directory h = absurd (true≢false (sym h))

-- ---- what the tests of a call leave

pub record MayOpen (mode : Mode) (w : WorkingCopy) (kind : Kind) (p : Path) : Type 0 where
  pub stands : is_present (w p) ≡ true
  pub is_kind : has_kind kind (w p) ≡ true
  pub short : length (moved_path mode w p (node_path (w p))) ≤ path_limit

may_open : (mode : Mode) (w : WorkingCopy) (kind : Kind) (p : Path) (base : ℕ)
    → cond (not (is_present (w p))) (Some NoEntry)
    (cond (not (has_kind kind (w p))) (Some WrongKind) (cond (not (nat_eq (node_revision (w p)) base)) (Some WrongRevision)
    (cond (nat_lt path_limit (length (moved_path mode w p (node_path (w p))))) (Some TooDeep) None))) ≡ None
    → MayOpen mode w kind p
may_open mode w kind p base h =
    let a = cond_none (not (is_present (w p))) _ _ h in
    let b = cond_none (not (has_kind kind (w p))) _ _ a.1 in
    let c = cond_none (not (nat_eq (node_revision (w p)) base)) _ _ b.1 in
    let d = cond_none (nat_lt path_limit (length (moved_path mode w p (node_path (w p))))) _ _ c.1 in
    record { stands = not-false _ a.0; is_kind = not-false _ b.0; short = short_enough _ d.0 }

pub record MayAdd (w : WorkingCopy) (p : Path) : Type 0 where
  pub free : is_present (w p) ≡ false
  pub short : length (joined_path w p) ≤ path_limit

may_add : (w : WorkingCopy) (p : Path)
    → cond (is_present (w p)) (Some EntryExists) (cond (nat_lt path_limit (length (joined_path w p))) (Some TooDeep) None) ≡ None
    → MayAdd w p
may_add w p h =
    let a = cond_none (is_present (w p)) _ _ h in
    let b = cond_none (nat_lt path_limit (length (joined_path w p))) _ _ a.1 in
    record { free = a.0; short = short_enough _ b.0 }

-- ---- nodes after a step

opened_present : (target : ℕ) (moved : Path → Path) (o : Option BaseNode) → is_dir o ≡ true
    → node_path (opened_directory target moved o) ≡ moved (node_path o)
opened_present target moved (Some (DirNode r q c ps)) h = refl
opened_present target moved o h = absurd (true≢false (sym h))

closed_path : (changes : List PropChange) (o : Option BaseNode) → node_path (closed_directory changes o) ≡ node_path o
closed_path changes (Some (DirNode r q c ps)) = refl
closed_path changes (Some (FileNode r q t ps)) = refl
closed_path changes (Some NotPresent) = refl
closed_path changes None = refl

closed_present : (changes : List PropChange) (o : Option BaseNode) → is_present (closed_directory changes o) ≡ is_present o
closed_present changes (Some (DirNode r q c ps)) = refl
closed_present changes (Some (FileNode r q t ps)) = refl
closed_present changes (Some NotPresent) = refl
closed_present changes None = refl

closed_none : (changes : List PropChange) (o : Option BaseNode) → o ≡ None → closed_directory changes o ≡ None
closed_none changes o e = ap (closed_directory changes) e

closed_file_same : (target : ℕ) (moved : Path → Path) (joined : Path) (changes : List PropChange) (texts : List (List ℕ))
    (o : Option BaseNode)
    → is_dir o ≡ true → closed_file target moved joined changes texts o ≡ o
closed_file_same target moved joined changes texts (Some (DirNode r q c ps)) h = refl
closed_file_same target moved joined changes texts o h = absurd (true≢false (sym h))

joined_some : (mode : Mode) (o : Option BaseNode) → is_joined_at_close mode o ≡ true → o ≢ None
joined_some Update o h none = true≢false (sym h ∙ ap is_not_present none)
joined_some (SwitchTo root) o h none = true≢false (sym h ∙ ap is_some none)

no_given : (g : Given) → None ≡ Some g → ⊥
no_given g e = cc

not_directory : (p : Path) (m : Option ℕ) (t : ℕ) (g : Given) → Some (record { kind = Directory; path = p; parent = m; token = t }) ≡ Some g
    → g.kind ≡ File → ⊥
not_directory p m t g e k =
    true≢false
    (ap (λ x. kind_eq x Directory)
    (ap (λ (y : Given). y.kind) (same_Some (record { kind = Directory; path = p; parent = m; token = t }) g e) ∙ k))

apart_parent : (p : Path) → is_root p ≡ false → path_eq p (parent_of p) ≡ false
apart_parent [] h = absurd (true≢false h)
apart_parent (m ∷ p) h = false_from_ne_true (path_eq (m ∷ p) (parent_of (m ∷ p))) (λ e.
    let r = split_last m p in
    let a = path_eq-longer (parent_of (m ∷ p)) r.0 [] in
    let same : m ∷ p ≡ parent_of (m ∷ p) = same_path (m ∷ p) (parent_of (m ∷ p)) e in
    true≢false (sym (path_eq-same (parent_of (m ∷ p))) ∙ ap (path_eq (parent_of (m ∷ p))) (sym same ∙ r.1) ∙ a))

module _ (checksum : List ℕ → List ℕ) (mode : Mode) (nodes : List (Path × BaseNode)) (calls : List Call) (s : IsSound calls)
    (q : IsPathed calls)
    (stood : IsShapedAfter mode (get_in nodes) calls) where
  abbrev w : WorkingCopy
  w = get_in nodes

  -- ---- one step at a path

  alone : (p : Path) (x : Action) → ((o : Option BaseNode) → below_after x o ≡ o)
      → (is_dir (w p) ≡ true → is_dir (stepped mode (target_of calls) (steps_of calls) w p x) ≡ true)
      → (stepped mode (target_of calls) (steps_of calls) w p x ≢ None → (r : Path) (name : List ℕ) → p ≡ child r name
      → (is_dir (w r) ≡ true) × IsName name)
      → (is_present (stepped mode (target_of calls) (steps_of calls) w p x) ≡ true
      → Fits p (stepped mode (target_of calls) (steps_of calls) w p x))
      → IsWorkingCopy (step_effect mode (target_of calls) (steps_of calls) (record { path = p; action = x }) w)
  alone p x still dir above fits =
      one_changed w stood.shape p (stepped mode (target_of calls) (steps_of calls) w p x)
      (step_effect mode (target_of calls) (steps_of calls) (record { path = p; action = x }) w)
      (effect_alone mode (target_of calls) (steps_of calls) p x w still) dir above fits

  unchanged : (p : Path) (x : Action) → ((o : Option BaseNode) → below_after x o ≡ o)
      → stepped mode (target_of calls) (steps_of calls) w p x ≡ w p
      → IsWorkingCopy (step_effect mode (target_of calls) (steps_of calls) (record { path = p; action = x }) w)
  unchanged p x still same =
      subst IsWorkingCopy (λ i r. effect_none mode (target_of calls) (steps_of calls) p x w still same r i) stood.shape

  -- an entry's parent is an open directory, and one is there
  module _ (c : Call) (a : IsAccepted calls c) where
    entry_in : (m : ℕ) (p : Path) → named_by c ≡ Some (m, Directory) → entry_of c ≡ Some p
        → (is_root p ≡ false) × (is_dir (w (parent_of p)) ≡ true)
    entry_in m p n e =
        let k = known calls c m Directory a n in
        let r = parent_is calls c m p a n e in
        (r.0, ap (λ (x : Path). is_dir (w x)) (r.1 ∙ ap given_path k.is) ∙ stood.directories m k.given_as k.is k.kind)

    added : (p : Path) (kind : Kind) → is_dir (w (parent_of p)) ≡ true → EndsNamed p → MayAdd w p
        → (is_present (stepped mode (target_of calls) (steps_of calls) w p (Add kind)) ≡ true
        → Fits p (stepped mode (target_of calls) (steps_of calls) w p (Add kind)))
        → IsWorkingCopy (step_effect mode (target_of calls) (steps_of calls) (record { path = p; action = Add kind }) w)
    added p kind parent named may fits =
        alone p (Add kind) (λ o. refl)
        (λ d. absurd (true≢false (sym (dir_present (w p) d) ∙ may.free)))
        (λ some r name e. (ap (λ (x : Path). is_dir (w x)) (sym (parent-child r name) ∙ ap parent_of (sym e)) ∙ parent, named r name e))
        fits

    opened : (p : Path) (base : ℕ) → MayOpen mode w Directory p
        → IsWorkingCopy (step_effect mode (target_of calls) (steps_of calls) (record { path = p; action = Open Directory base }) w)
    opened p base may =
        let path = opened_present (target_of calls) (moved_path mode w p) (w p) may.is_kind in
        let m = moved_fits w stood.shape mode p may.stands in
        alone p (Open Directory base) (λ o. refl)
        (λ d. opened_dir (target_of calls) (moved_path mode w p) (w p) d)
        (λ some. above_old w stood.shape p (present_stands (w p) may.stands))
        (λ h. (omega (arith, may.short, ap length path), omega (arith, m, ap length path)))

    closed : (p : Path) (sum : Option (List ℕ))
        → IsWorkingCopy (step_effect mode (target_of calls) (steps_of calls) (record { path = p; action = Close Directory sum }) w)
    closed p sum =
        let changes = changes_at p (steps_of calls) in
        alone p (Close Directory sum) (λ o. refl)
        (closed_dir changes (w p))
        (λ some. above_old w stood.shape p (λ none. some (closed_none changes (w p) none)))
        (λ h.
        let stands = sym (closed_present changes (w p)) ∙ h in
        let r = stood.shape.repos_paths p stands in
        let l = stood.shape.paths p stands in
        let path = closed_path changes (w p) in
        (omega (arith, r, ap length path), omega (arith, l, ap length path)))

    closed_as_file : (p : Path) (sum : Option (List ℕ)) → (is_joined_at_close mode (w p) ≡ true → length (joined_path w p) ≤ path_limit)
        → IsWorkingCopy (step_effect mode (target_of calls) (steps_of calls) (record { path = p; action = Close File sum }) w)
    closed_as_file p sum fit =
        alone p (Close File sum) (λ o. refl)
        (closed_file_dir (target_of calls) (moved_path mode w p) (joined_path w p) (changes_at p (steps_of calls))
        (texts_at p (steps_of calls)) (w p))
        (λ some. above_old w stood.shape p
        (λ none. some
        (ap
        (closed_file (target_of calls) (moved_path mode w p) (joined_path w p) (changes_at p (steps_of calls))
        (texts_at p (steps_of calls)))
        none)))
        (by (w p) refl)
      where
        -- a file's new path has at most 64 names
        moved_short : (m : Mode) (p : Path) (r : ℕ) (f : Path) (t : List ℕ) (ps : List (List ℕ × List ℕ)) → w p ≡ Some (FileNode r f t ps)
            → (is_joined_at_close m (w p) ≡ true → length (joined_path w p) ≤ path_limit)
            → length (moved_path m w p f) ≤ path_limit
        moved_short Update p r f t ps e k = subst (λ o. length (node_path o) ≤ path_limit) e (stood.shape.repos_paths p (ap is_present e))
        moved_short (SwitchTo root) [] r f t ps e k = absurd (true≢false (sym stood.shape.root ∙ ap is_dir e))
        moved_short (SwitchTo root) (n ∷ p) r f t ps e k = k (ap is_some e)

        waiting : (m : Mode) → w p ≡ Some NotPresent → is_joined_at_close m (w p) ≡ true
        waiting Update e = ap is_not_present e
        waiting (SwitchTo root) e = ap is_some e

        by : (o : Option BaseNode) → w p ≡ o
            → is_present
            (closed_file (target_of calls) (moved_path mode w p) (joined_path w p) (changes_at p (steps_of calls))
            (texts_at p (steps_of calls)) (w p)) ≡ true
            → Fits p (closed_file (target_of calls) (moved_path mode w p) (joined_path w p) (changes_at p (steps_of calls))
            (texts_at p (steps_of calls)) (w p))
        by o e h =
            subst
            (λ x. Fits p
            (closed_file (target_of calls) (moved_path mode w p) (joined_path w p) (changes_at p (steps_of calls))
            (texts_at p (steps_of calls)) x))
            (sym e) (at o e
            (ap
            (λ x. is_present
            (closed_file (target_of calls) (moved_path mode w p) (joined_path w p) (changes_at p (steps_of calls))
            (texts_at p (steps_of calls)) x))
            (sym e) ∙ h))
          where
            at : (o : Option BaseNode) → w p ≡ o
                → is_present
                (closed_file (target_of calls) (moved_path mode w p) (joined_path w p) (changes_at p (steps_of calls))
                (texts_at p (steps_of calls)) o) ≡ true
                → Fits p (closed_file (target_of calls) (moved_path mode w p) (joined_path w p) (changes_at p (steps_of calls))
                (texts_at p (steps_of calls)) o)
            at (Some (FileNode r f t ps)) e h = (
              moved_short mode p r f t ps e fit,
              subst (λ o. length p ≤ path_limit + length (moved_path mode w p (node_path o))) e
                  (moved_fits w stood.shape mode p (ap is_present e)),
            )
            at (Some (DirNode r f c ps)) e h =
                subst (Fits p) e (stood.shape.repos_paths p (ap is_present e), stood.shape.paths p (ap is_present e))
            at (Some NotPresent) e h = (
              fit (waiting mode e),
              joined_fits w stood.shape p (parent_dir w stood.shape p (λ none. some-none NotPresent (sym e ∙ none))),
            )
            at None e h = absurd (true≢false (sym h))

  -- ---- the shape after a call

  shape_kept : (c : Call) → IsAccepted calls c → OpensNamed c → edit_fault checksum mode calls c nodes ≡ None
      → IsWorkingCopy (effect mode calls c w)
  shape_kept (SetTargetRevision rev) a n f = stood.shape
  shape_kept (OpenRoot base token) a n f = opened (OpenRoot base token) a [] base (may_open mode w Directory [] base f)
  shape_kept (DeleteEntry path rev parent) a n f =
      deleted_shape w stood.shape path (entry_in (DeleteEntry path rev parent) a parent path refl refl).0
      (effect mode calls (DeleteEntry path rev parent) w)
      (effect_delete mode (target_of calls) (steps_of calls) path rev w)
  shape_kept (AddDirectory path parent token) a n f =
      let e = entry_in (AddDirectory path parent token) a parent path refl refl in
      let may = may_add w path f in
      added (AddDirectory path parent token) a path Directory e.1 (n _ refl) may (λ h. (may.short, joined_fits w stood.shape path e.1))
  shape_kept (OpenDirectory path parent base token) a n f =
      opened (OpenDirectory path parent base token) a path base (may_open mode w Directory path base f)
  shape_kept (ChangeDirProp token name value) a n f = unchanged (path_of calls token) (Change Directory (name, value)) (λ o. refl) refl
  shape_kept (CloseDirectory token) a n f = closed (CloseDirectory token) a (path_of calls token) None
  shape_kept (AddFile path parent token) a n f =
      let e = entry_in (AddFile path parent token) a parent path refl refl in
      added (AddFile path parent token) a path File e.1 (n _ refl) (may_add w path f) (λ h. absurd (true≢false (sym h)))
  shape_kept (OpenFile path parent base token) a n f = unchanged path (Open File base) (λ o. refl) refl
  shape_kept (ChangeFileProp token name value) a n f = unchanged (path_of calls token) (Change File (name, value)) (λ o. refl) refl
  shape_kept (ApplyText token sum text) a n f = unchanged (path_of calls token) (Text sum text) (λ o. refl) refl
  shape_kept (CloseFile token sum) a n f =
      let k = known calls (CloseFile token sum) token File a refl in
      closed_as_file (CloseFile token sum) a (path_of calls token) sum
      (subst (λ (x : Path). is_joined_at_close mode (w x) ≡ true → length (joined_path w x) ≤ path_limit) (sym (ap given_path k.is))
      (stood.files token k.given_as k.is (is_file_kind k.given_as.kind k.kind) k.unclosed))
  shape_kept CloseEdit a n f =
      settled_shape mode (target_of calls) nodes stood.shape (cond_none (list_any (is_settled_deep mode) nodes) _ _ f).0
  shape_kept AbortEdit a n f = stood.shape

  -- ---- what is at open paths after a call

  opens_standing : (c : Call) → edit_fault checksum mode calls c nodes ≡ None → (g : Given) → given_by c ≡ Some g → is_open_of c ≡ true
      → kind_eq g.kind Directory ≡ true → is_dir (w g.path) ≡ true
  opens_standing (OpenRoot base token) f g e o k =
      ap (λ (y : Given). is_dir (w y.path)) (sym (same_Some _ g e)) ∙ (may_open mode w Directory [] base f).is_kind
  opens_standing (OpenDirectory path parent base token) f g e o k =
      ap (λ (y : Given). is_dir (w y.path)) (sym (same_Some _ g e)) ∙ (may_open mode w Directory path base f).is_kind
  opens_standing _ f g e o k = absurd (true≢false (sym o))

  spared : (p r : Path) → list_any (opens_entry p) calls ≡ false → list_any (opens_entry r) calls ≡ true → is_within p r ≡ false
  spared p r h o = false_from_ne_true (is_within p r) (λ i.
      let x = split_within p r i in
      true≢false (sym (opened_above calls s x.0 p (ap (λ (y : Path). list_any (opens_entry y) calls) (sym x.1) ∙ o)) ∙ h))

  parent_opened : (r : Path) → list_any (opens_entry r) calls ≡ true → list_any (opens_entry (parent_of r)) calls ≡ true
  parent_opened [] h = h
  parent_opened (m ∷ r) h =
      let x = split_last m r in
      opened_parent calls s (parent_of (m ∷ r)) x.0 (ap (λ (y : Path). list_any (opens_entry y) calls) (sym x.1) ∙ h)

  -- a directory that was opened keeps its repository path until the end
  path_kept : (c : Call) → IsAccepted calls c → (r : Path) → list_any (opens_entry r) calls ≡ true → is_dir (w r) ≡ true
      → a_file_is_open calls ≡ true → node_path (effect mode calls c w r) ≡ node_path (w r)
  path_kept c a r o d open_file = by c a
    where
      at : (p : Path) (x : Action) → ((o : Option BaseNode) → below_after x o ≡ o)
          → (path_eq p r ≡ true → node_path (stepped mode (target_of calls) (steps_of calls) w p x) ≡ node_path (w r))
          → node_path (step_effect mode (target_of calls) (steps_of calls) (record { path = p; action = x }) w r) ≡ node_path (w r)
      at p x still own = ap node_path (effect_alone mode (target_of calls) (steps_of calls) p x w still r) ∙ case (path_eq p r) refl
        where
          case : (b : Bool) → path_eq p r ≡ b
              → node_path (cond b (stepped mode (target_of calls) (steps_of calls) w p x) (w r)) ≡ node_path (w r)
          case true e = own e
          case false e = refl

      again : (d : Call) → IsAccepted calls d → (x : Given) → given_by d ≡ Some x → path_eq x.path r ≡ true → ⊥
      again d b x f same =
          true≢false
          (sym o ∙ ap (λ (y : Path). list_any (opens_entry y) calls) (sym (same_path x.path r same)) ∙ opened_first calls d x b f)

      here : (p : Path) → path_eq p r ≡ true → w p ≡ w r
      here p same = ap w (same_path p r same)

      by : (d : Call) → IsAccepted calls d → node_path (effect mode calls d w r) ≡ node_path (w r)
      by (SetTargetRevision rev) b = refl
      by (OpenRoot base token) b = at [] (Open Directory base) (λ o. refl) (λ same. absurd (again (OpenRoot base token) b _ refl same))
      by (DeleteEntry path rev parent) b =
          ap node_path (sym (effect_delete mode (target_of calls) (steps_of calls) path rev w r))
          ∙ ap (λ x. node_path (cond x None (w r))) (spared path r b.delete o)
      by (AddDirectory path parent token) b =
          at path (Add Directory) (λ o. refl) (λ same. absurd (again (AddDirectory path parent token) b _ refl same))
      by (OpenDirectory path parent base token) b =
          at path (Open Directory base) (λ o. refl) (λ same. absurd (again (OpenDirectory path parent base token) b _ refl same))
      by (ChangeDirProp token name value) b =
          at (path_of calls token) (Change Directory (name, value)) (λ o. refl) (λ same. ap node_path (here (path_of calls token) same))
      by (CloseDirectory token) b =
          at (path_of calls token) (Close Directory None) (λ o. refl)
          (λ same. closed_path (changes_at (path_of calls token) (steps_of calls)) (w (path_of calls token))
          ∙ ap node_path (here (path_of calls token) same))
      by (AddFile path parent token) b = at path (Add File) (λ o. refl) (λ same. absurd (again (AddFile path parent token) b _ refl same))
      by (OpenFile path parent base token) b = at path (Open File base) (λ o. refl) (λ same. ap node_path (here path same))
      by (ChangeFileProp token name value) b =
          at (path_of calls token) (Change File (name, value)) (λ o. refl) (λ same. ap node_path (here (path_of calls token) same))
      by (ApplyText token sum text) b =
          at (path_of calls token) (Text sum text) (λ o. refl) (λ same. ap node_path (here (path_of calls token) same))
      by (CloseFile token sum) b =
          let p = path_of calls token in
          at p (Close File sum) (λ o. refl)
          (λ same.
          ap node_path (closed_file_same (target_of calls) (moved_path mode w p) (joined_path w p) (changes_at p (steps_of calls))
          (texts_at p (steps_of calls)) (w p) (ap is_dir (here p same) ∙ d))
          ∙ ap node_path (here p same))
      by CloseEdit b =
          absurd (true≢false
          (sym open_file ∙ (or_parts (not (is_some (given calls 0)) || a_directory_is_open calls) (a_file_is_open calls) b.root_closed).1))
      by AbortEdit b = refl

  file_stays : (c : Call) → IsAccepted calls c → (t : ℕ) (g : Given) → given calls t ≡ Some g → g.kind ≡ File → is_closed calls t ≡ false
      → closes t c ≡ false
      → is_joined_at_close mode (effect mode calls c w g.path) ≡ true → length (joined_path (effect mode calls c w) g.path) ≤ path_limit
  file_stays c a t g e file unclosed still j =
      let kept = file_kept mode calls w c s q a t g e file unclosed still in
      let before : is_joined_at_close mode (w g.path) ≡ true = sym (ap (is_joined_at_close mode) kept) ∙ j in
      let above = parent_dir w stood.shape g.path (joined_some mode (w g.path) before) in
      let path =
      path_kept c a (parent_of g.path) (parent_opened g.path (member_of calls t g e)) above
      (any_passes_from_place (is_open_file calls) (all_given calls) t g e open_file) in
      subst (λ (x : Path). length (x ++ last_name g.path) ≤ path_limit) (sym path) (stood.files t g e file unclosed before)
    where
      open_file : is_open_file calls g ≡ true
      open_file = (λ i. kind_eq (file i) File && not (is_closed calls (s.numbered t g e i))) ∙ ap not unclosed

  open_fits : (m : Mode) (p : Path) → MayOpen m w File p → is_root p ≡ false → is_joined_at_close m (w p) ≡ true
      → length (joined_path w p) ≤ path_limit
  open_fits Update p may r j = absurd (both (w p) may.stands j)
    where
      both : (o : Option BaseNode) → is_present o ≡ true → is_not_present o ≡ true → ⊥
      both (Some NotPresent) h k = true≢false (sym h)
      both _ h k = true≢false (sym k)
  open_fits (SwitchTo root) p may r j = subst (λ b. length (cond b root (joined_path w p)) ≤ path_limit) r may.short

  file_opened : (c : Call) → IsAccepted calls c → edit_fault checksum mode calls c nodes ≡ None → (g : Given) → given_by c ≡ Some g
      → g.kind ≡ File
      → is_joined_at_close mode (effect mode calls c w g.path) ≡ true → length (joined_path (effect mode calls c w) g.path) ≤ path_limit
  file_opened (OpenRoot base token) a f g e k j = absurd (not_directory [] None token g e k)
  file_opened (AddDirectory path parent token) a f g e k j = absurd (not_directory path (Some parent) token g e k)
  file_opened (OpenDirectory path parent base token) a f g e k j = absurd (not_directory path (Some parent) token g e k)
  file_opened (AddFile path parent token) a f g e k j =
      let r = entry_in (AddFile path parent token) a parent path refl refl in
      let above : effect mode calls (AddFile path parent token) w (parent_of path) ≡ w (parent_of path) =
      effect_alone mode (target_of calls) (steps_of calls) path (Add File) w (λ o. refl) (parent_of path)
      ∙ ap (λ b. cond b (Some NotPresent) (w (parent_of path))) (apart_parent path r.0) in
      subst (λ (x : Given). length (joined_path (effect mode calls (AddFile path parent token) w) x.path) ≤ path_limit) (same_Some _ g e)
      (subst (λ o. length (node_path o ++ last_name path) ≤ path_limit) (sym above) (may_add w path f).short)
  file_opened (OpenFile path parent base token) a f g e k j =
      let r = entry_in (OpenFile path parent base token) a parent path refl refl in
      let same = effect_none mode (target_of calls) (steps_of calls) path (Open File base) w (λ o. refl) refl in
      let is : path ≡ g.path = ap (λ (x : Given). x.path) (same_Some _ g e) in
      let before : is_joined_at_close mode (w path) ≡ true =
      ap (is_joined_at_close mode) (same path)
      ∙ ap (λ (x : Path). is_joined_at_close mode (effect mode calls (OpenFile path parent base token) w x)) is ∙ j in
      subst (λ (x : Path). length (joined_path (effect mode calls (OpenFile path parent base token) w) x) ≤ path_limit) is
      (subst (λ o. length (node_path o ++ last_name path) ≤ path_limit) (same (parent_of path))
      (open_fits mode path (may_open mode w File path base f) r.0 before))
  file_opened _ a f g e k j = absurd (no_given g e)

  still_closed : (c : Call) (t : ℕ) → is_closed (calls ++ c ∷ []) t ≡ false → (is_closed calls t ≡ false) × (closes t c ≡ false)
  still_closed c t u = or_parts (is_closed calls t) (closes t c) (sym (any_push (closes t) calls c) ∙ u)

  pub shaped_more : (c : Call) → IsAccepted calls c → OpensNamed c → edit_fault checksum mode calls c nodes ≡ None
      → IsShapedAfter mode (effect mode calls c w) (calls ++ c ∷ [])
  shaped_more c a n f = record {
    shape = shape_kept c a n f;
    directories = directories_stand mode calls w c s a stood.directories (opens_standing c f);
    files = λ t g e k u j. by t g k u j (given_cases calls c t g e);
  }
    where
      by : (t : ℕ) (g : Given) → g.kind ≡ File → is_closed (calls ++ c ∷ []) t ≡ false
          → is_joined_at_close mode (effect mode calls c w g.path) ≡ true → (given calls t ≡ Some g) ⊎ (given_by c ≡ Some g)
          → length (joined_path (effect mode calls c w) g.path) ≤ path_limit
      by t g k u j (inl old) = let x = still_closed c t u in file_stays c a t g old k x.0 x.1 j
      by t g k u j (inr new) = file_opened c a f g new k j

  pub shaped_abort : IsShapedAfter mode w (calls ++ AbortEdit ∷ [])
  shaped_abort = record {
    shape = stood.shape;
    directories = λ t g e k. stood.directories t g (old t g (given_cases calls AbortEdit t g e)) k;
    files = λ t g e k u j. stood.files t g (old t g (given_cases calls AbortEdit t g e)) k (still_closed AbortEdit t u).0 j;
  }
    where
      old : (t : ℕ) (g : Given) → (given calls t ≡ Some g) ⊎ (given_by AbortEdit ≡ Some g) → given calls t ≡ Some g
      old t g (inl x) = x
      old t g (inr x) = absurd (no_given g x)

pub shape_stays : (checksum : List ℕ → List ℕ) (mode : Mode) (nodes : List (Path × BaseNode)) (calls : List Call) (c : Call)
    → IsLawful calls → refusal checksum mode calls c nodes ≡ None
    → OpensNamed c → IsShapedAfter mode (get_in nodes) calls → IsShapedAfter mode (effect mode calls c (get_in nodes)) (calls ++ c ∷ [])
shape_stays checksum mode nodes calls AbortEdit l h n stood = shaped_abort checksum mode nodes calls (sound calls l) (pathed calls l) stood
shape_stays checksum mode nodes calls c l h n stood =
    let parts = refusal_parts (order_fault calls c) (edit_fault checksum mode calls c nodes) h in
    shaped_more checksum mode nodes calls (sound calls l) (pathed calls l) stood c (accepted calls c refl parts.0) n parts.1

calls_keep_from : (checksum : List ℕ → List ℕ) (mode : Mode) (earlier : List Call) (w : WorkingCopy) (calls : List Call) → IsLawful earlier
    → IsShapedAfter mode w earlier
    → AllTakenFrom checksum mode earlier w calls → IsWorkingCopy (after_from mode earlier w calls)
calls_keep_from checksum mode earlier w [] l stood h = stood.shape
calls_keep_from checksum mode earlier w (c ∷ calls) l stood h =
    let same : get_in h.0.nodes ≡ w = λ i p. h.0.same p i in
    let before = subst (λ (v : WorkingCopy). IsShapedAfter mode v earlier) (sym same) stood in
    let next = shape_stays checksum mode h.0.nodes earlier c l h.0.accepted h.1 before in
    calls_keep_from checksum mode (earlier ++ c ∷ []) (effect mode earlier c w) calls
    (lawful_more earlier c l (refusal_parts (order_fault earlier c) (edit_fault checksum mode earlier c h.0.nodes) h.0.accepted).0)
    (subst (λ (v : WorkingCopy). IsShapedAfter mode (effect mode earlier c v) (earlier ++ c ∷ [])) same next) h.2

pub shaped_first : (mode : Mode) (w : WorkingCopy) → IsWorkingCopy w → IsShapedAfter mode w []
shaped_first mode w s = record { shape = s; directories = λ t g e k. absurd (no_given g e); files = λ t g e k u j. absurd (no_given g e) }

pub calls_keep : (checksum : List ℕ → List ℕ) (mode : Mode) (w : WorkingCopy) (calls : List Call) → IsWorkingCopy w
    → AllTakenFrom checksum mode [] w calls → IsWorkingCopy (after_from mode [] w calls)
calls_keep checksum mode w calls s h = calls_keep_from checksum mode [] w calls tt (shaped_first mode w s) h
