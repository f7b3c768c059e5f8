-- Copies without a switched path stay so.
use Rattle.std.proofs.Common.{◌≡◌, ◌≢◌, ℕ, Bool, true, false, cond, List, [], ◌∷◌, ◌++◌, refl, sym, ap, ◌∙◌, inl, inr, ◌⊎◌, Option, Some}
use Rattle.std.proofs.Common.{None}
use Rattle.std.proofs.Common.{append_assoc, true≢false, length, drop}
use Rattle.std.proofs.lemmas.List.{append-nil}
use Rattle.std.proofs.Math.Seq.{drop-append_seam}
use Rattle.svn_lists.proofs.Tests.{any_from_clash}
use Rattle.svn_types.specs.Names.{Path}
use Rattle.svn_types.specs.Props.{PropChange}
use Rattle.svn_types.specs.Paths.{path_eq, is_within, is_root, parent, last_name, child}
use Rattle.svn_types.specs.declared.kind.Kind.{Kind}
use Rattle.svn_types.specs.declared.kind.Kind.TheVariants.{File, Directory}
use Rattle.svn_types.proofs.PathLemmas.{same_path, path_eq-same, path_cases, path_eq-symm, parent-child, last_name-child, within_shorter}
use Rattle.svn_types.proofs.PathLemmas.{path_eq-child}
use Rattle.svn_types.proofs.PathLemmas.{path_eq_from, parent_and_last, split_within, within_append, below_from, path_eq-longer}
use Rattle.law_copy.proofs.CrawlReports.{directory_above}
use Rattle.svn_editor.specs.declared.call.Call.{Call}
use Rattle.svn_editor.specs.declared.call.Call.TheVariants.{CloseEdit}
use Rattle.svn_editor.specs.declared.mode.Mode.TheVariants.{Update, SwitchTo}
use Rattle.svn_editor.specs.Steps.{Action, Delete, Open, Add, Change, Text, Close, Step, step_of, steps_of, target_of}
use Rattle.svn_model.specs.declared.base_node.BaseNode.{BaseNode}
use Rattle.svn_model.specs.declared.base_node.BaseNode.TheVariants.{File as FileNode, Dir as DirNode, NotPresent}
use Rattle.svn_model.specs.Nodes.{WorkingCopy, IsWorkingCopy, is_present, is_dir, node_path}
use Rattle.svn_model.specs.Effects.{effect, read_effect, step_effect, stepped, below_after, joined_path, settled, moved_path}
use Rattle.svn_model.specs.Effects.{opened_directory, closed_directory, closed_file}
use Rattle.svn_model.specs.Effects.{changes_at, texts_at}
use Rattle.std.specs.Option.{option_map}
use Rattle.svn_repo.specs.History.{History, look}
use Rattle.svn_repo.specs.Readings.{kind_of, text_of, props_of}
use Rattle.svn_model.specs.Nodes.{base_node, base_node_by}
use Rattle.svn_model.specs.Builders.{checkout, placed, forgotten}
use Rattle.svn_wc.specs.Unswitched.{IsUnswitched}

pub dir_present : (o : Option BaseNode) → is_dir o ≡ true → is_present o ≡ true
dir_present None h = absurd (true≢false (sym h))
dir_present (Some (FileNode r q text props)) h = refl
dir_present (Some (DirNode r q complete props)) h = refl
dir_present (Some NotPresent) h = absurd (true≢false (sym h))

-- ---- the node at a step's path, where it has the path q or gets it

abbrev Has : Path → Option BaseNode → Type 0
Has q o = is_present o ≡ true → node_path o ≡ q

opened_has : (target : ℕ) (moved : Path → Path) → ((x : Path) → moved x ≡ x) → (q : Path) (o : Option BaseNode) → Has q o
    → Has q (opened_directory target moved o)
opened_has target moved same q None h e = any_from_clash e
opened_has target moved same q (Some (FileNode r x text props)) h e = h refl
opened_has target moved same q (Some (DirNode r x complete props)) h e = same x ∙ h refl
opened_has target moved same q (Some NotPresent) h e = any_from_clash e

closed_has : (changes : List PropChange) (q : Path) (o : Option BaseNode) → Has q o → Has q (closed_directory changes o)
closed_has changes q None h e = any_from_clash e
closed_has changes q (Some (FileNode r x text props)) h e = h refl
closed_has changes q (Some (DirNode r x complete props)) h e = h refl
closed_has changes q (Some NotPresent) h e = any_from_clash e

file_has : (target : ℕ) (moved : Path → Path) → ((x : Path) → moved x ≡ x) → (joined : Path) (changes : List PropChange)
    (texts : List (List ℕ)) (q : Path) (o : Option BaseNode) → Has q o
    → (is_present (closed_file target moved joined changes texts o) ≡ true → joined ≡ q)
    → Has q (closed_file target moved joined changes texts o)
file_has target moved same joined changes texts q None h j e = any_from_clash e
file_has target moved same joined changes texts q (Some (FileNode r x text props)) h j e = same x ∙ h refl
file_has target moved same joined changes texts q (Some (DirNode r x complete props)) h j e = h refl
file_has target moved same joined changes texts q (Some NotPresent) h j e = j refl

stepped_has : (target : ℕ) (earlier : List Step) (w : WorkingCopy) (p q : Path) (a : Action) → Has q (w p)
    → (is_present (stepped Update target earlier w p a) ≡ true → joined_path w p ≡ q) → Has q (stepped Update target earlier w p a)
stepped_has target earlier w p q (Delete revision) h j = λ e. any_from_clash e
stepped_has target earlier w p q (Open Directory base) h j = opened_has target (moved_path Update w p) (λ x. refl) q (w p) h
stepped_has target earlier w p q (Open File base) h j = h
stepped_has target earlier w p q (Add Directory) h j = λ e. j e
stepped_has target earlier w p q (Add File) h j = λ e. any_from_clash e
stepped_has target earlier w p q (Close Directory sum) h j = closed_has (changes_at p earlier) q (w p) h
stepped_has target earlier w p q (Close File sum) h j =
    file_has target (moved_path Update w p) (λ x. refl) (joined_path w p) (changes_at p earlier) (texts_at p earlier) q (w p) h j
stepped_has target earlier w p q (Change kind change) h j = h
stepped_has target earlier w p q (Text base_md5 text) h j = h

below_has : (a : Action) (q : Path) (o : Option BaseNode) → Has q o → Has q (below_after a o)
below_has (Delete revision) q o h = λ e. any_from_clash e
below_has (Open kind base) q o h = h
below_has (Add kind) q o h = h
below_has (Close kind sum) q o h = h
below_has (Change kind change) q o h = h
below_has (Text base_md5 text) q o h = h

-- ---- the nodes after a step

module _ (w : WorkingCopy) (target : ℕ) (earlier : List Step) (a : Action) (unswitched : IsUnswitched w) where
  root : Path
  root = node_path (w [])

  old_has : (q : Path) → Has (node_path (w []) ++ q) (w q)
  old_has q = unswitched q

  -- a step at the root
  module _ (shape : IsWorkingCopy (step_effect Update target earlier (record { path = []; action = a }) w)) where
    root_stays : node_path (stepped Update target earlier w [] a) ≡ node_path (w [])
    root_stays =
        let has = stepped_has target earlier w [] (node_path (w [])) a (λ e. refl) (λ e. append-nil (node_path (w []))) in
        (has) (dir_present _ shape.root)

    at_root : IsUnswitched (step_effect Update target earlier (record { path = []; action = a }) w)
    at_root [] e = sym (append-nil _)
    at_root (n ∷ q) e =
        let has = below_has a (node_path (w []) ++ n ∷ q) (w (n ∷ q)) (old_has (n ∷ q)) in
        (has) e ∙ ap (λ (r : Path). r ++ n ∷ q) (sym root_stays)

  -- a step elsewhere
  module _ (m : List ℕ) (r : Path) (shape : IsWorkingCopy (step_effect Update target earlier (record { path = m ∷ r; action = a }) w)) where
    abbrev new : WorkingCopy
    new = step_effect Update target earlier (record { path = m ∷ r; action = a }) w

    -- the directory above is there, and is not what the step is about
    module _ (e : is_present (stepped Update target earlier w (m ∷ r) a) ≡ true) (p : Path) (name : List ℕ) (is : m ∷ r ≡ child p name) where
      here : new (m ∷ r) ≡ stepped Update target earlier w (m ∷ r) a
      here =
          ap (λ b. cond b (stepped Update target earlier w (m ∷ r) a)
          (cond (is_within (m ∷ r) (m ∷ r)) (below_after a (w (m ∷ r))) (w (m ∷ r)))) (path_eq-same (m ∷ r))

      stands : new (child p name) ≢ None
      stands none = any_from_clash (sym (ap is_present (sym here ∙ ap new is ∙ none)) ∙ e)

      other : new p ≡ w p
      other =
          ap (λ b. cond b (stepped Update target earlier w (m ∷ r) a) (cond (is_within (m ∷ r) p) (below_after a (w p)) (w p)))
          (ap (λ (x : Path). path_eq x p) is ∙ path_eq-symm (child p name) p ∙ path_eq-child p name)
          ∙ ap (λ b. cond b (below_after a (w p)) (w p)) (ap (λ (x : Path). is_within x p) is ∙ within_shorter p name [])

      dir : is_dir (w p) ≡ true
      dir = ap is_dir (sym other) ∙ shape.parents p name stands

      above_has : joined_path w (m ∷ r) ≡ node_path (w []) ++ m ∷ r
      above_has =
          ap (joined_path w) is ∙ (λ i. node_path (w (parent-child p name i)) ++ last_name-child p name i)
          ∙ ap (λ (x : Path). x ++ name ∷ []) (unswitched p (dir_present (w p) dir)) ∙ append_assoc (node_path (w [])) p (name ∷ [])
          ∙ ap (λ (x : Path). node_path (w []) ++ x) (sym is)

    joined_has : is_present (stepped Update target earlier w (m ∷ r) a) ≡ true → joined_path w (m ∷ r) ≡ node_path (w []) ++ m ∷ r
    joined_has e = by (path_cases (m ∷ r))
      where
        by : (m ∷ r ≡ []) ⊎ ((q : Path) × (name : List ℕ) × (m ∷ r ≡ child q name)) → joined_path w (m ∷ r) ≡ node_path (w []) ++ m ∷ r
        by (inl none) = absurd cc
        by (inr (p, name, is)) = above_has e p name is

    elsewhere : IsUnswitched (step_effect Update target earlier (record { path = m ∷ r; action = a }) w)
    elsewhere q e = by (path_eq (m ∷ r) q) refl (is_within (m ∷ r) q) e
      where
        by : (x : Bool) → path_eq (m ∷ r) q ≡ x → (y : Bool)
            → is_present (cond x (stepped Update target earlier w (m ∷ r) a) (cond y (below_after a (w q)) (w q))) ≡ true
            → node_path (cond x (stepped Update target earlier w (m ∷ r) a) (cond y (below_after a (w q)) (w q))) ≡ node_path (w []) ++ q
        by true x y e =
            let has = stepped_has target earlier w (m ∷ r) (node_path (w []) ++ m ∷ r) a (old_has (m ∷ r)) joined_has in
            (has) e ∙ ap (λ (p : Path). node_path (w []) ++ p) (same_path (m ∷ r) q x)
        by false x true e = let has = below_has a (node_path (w []) ++ q) (w q) (old_has q) in (has) e
        by false x false e = unswitched q e

-- ---- a call

pub step_unswitched : (w : WorkingCopy) (target : ℕ) (earlier : List Step) (s : Step) → IsUnswitched w
    → IsWorkingCopy (step_effect Update target earlier s w) → IsUnswitched (step_effect Update target earlier s w)
step_unswitched w target earlier s unswitched shape = by s.path s.action shape
  where
    by : (p : Path) (a : Action) → IsWorkingCopy (step_effect Update target earlier (record { path = p; action = a }) w)
        → IsUnswitched (step_effect Update target earlier (record { path = p; action = a }) w)
    by [] a shape = at_root w target earlier a unswitched shape
    by (m ∷ r) a shape = elsewhere w target earlier a unswitched m r shape

read_unswitched : (w : WorkingCopy) (target : ℕ) (earlier : List Step) (s : Option Step) → IsUnswitched w
    → IsWorkingCopy (read_effect Update target earlier s w) → IsUnswitched (read_effect Update target earlier s w)
read_unswitched w target earlier None unswitched shape = unswitched
read_unswitched w target earlier (Some s) unswitched shape = step_unswitched w target earlier s unswitched shape

settled_has : (target : ℕ) (p q : Path) (o : Option BaseNode) → Has q o → Has q (settled Update target p o)
settled_has target p q None h e = any_from_clash e
settled_has target p q (Some (FileNode r x text props)) h e = h refl
settled_has target p q (Some (DirNode r x complete props)) h e = h refl
settled_has target p q (Some NotPresent) h e = any_from_clash e

-- the last call of an update leaves each path
settled_unswitched : (w : WorkingCopy) (target : ℕ) → IsUnswitched w → IsWorkingCopy (λ p. settled Update target p (w p))
    → IsUnswitched (λ p. settled Update target p (w p))
settled_unswitched w target unswitched shape p e =
    let here = settled_has target p (node_path (w []) ++ p) (w p) (unswitched p) in
    let root = settled_has target [] (node_path (w [])) (w []) (λ h. refl) in
    (here) e ∙ ap (λ (r : Path). r ++ p) (sym ((root) (dir_present _ shape.root)))

pub effect_unswitched : (w : WorkingCopy) (calls : List Call) (c : Call) → IsUnswitched w → IsWorkingCopy (effect Update calls c w)
    → IsUnswitched (effect Update calls c w)
effect_unswitched w calls CloseEdit unswitched shape = settled_unswitched w (target_of calls) unswitched shape
effect_unswitched w calls c unswitched shape =
    read_unswitched w (target_of calls) (steps_of calls) (step_of calls c) unswitched shape

-- and that of a switch brings each under the new root
pub switch_unswitched : (w : WorkingCopy) (calls : List Call) (root : Path) → IsWorkingCopy (effect (SwitchTo root) calls CloseEdit w)
    → IsUnswitched (effect (SwitchTo root) calls CloseEdit w)
switch_unswitched w calls root shape p e = under p (w p) e ∙ ap (λ (r : Path). r ++ p) (sym (under [] (w []) (dir_present _ shape.root) ∙ append-nil root))
  where
    under : (p : Path) (o : Option BaseNode) → is_present (settled (SwitchTo root) (target_of calls) p o) ≡ true
        → node_path (settled (SwitchTo root) (target_of calls) p o) ≡ root ++ p
    under p None e = any_from_clash e
    under p (Some (FileNode r x text props)) e = refl
    under p (Some (DirNode r x complete props)) e = refl
    under p (Some NotPresent) e = any_from_clash e

-- ---- a checkout

checkout_has : (h : History) (q : Path) (rev : ℕ) (p : Path) → is_present (checkout h q rev p) ≡ true
    → node_path (checkout h q rev p) ≡ q ++ p
checkout_has h q rev p e = by (look h rev (q ++ p)) e
  where
    of : (kind : Kind) (x : Path) (text : List ℕ) (props : List (List ℕ × List ℕ)) → node_path (Some (base_node_by kind rev x text props)) ≡ x
    of File x text props = refl
    of Directory x text props = refl

    by : (o : Option ℕ) → is_present (option_map (base_node h rev (q ++ p)) o) ≡ true
        → node_path (option_map (base_node h rev (q ++ p)) o) ≡ q ++ p
    by None e = any_from_clash e
    by (Some n) e = of (kind_of h n) (q ++ p) (text_of h n) (props_of h n)

pub checkout_unswitched : (h : History) (q : Path) (rev : ℕ) → IsWorkingCopy (checkout h q rev) → IsUnswitched (checkout h q rev)
checkout_unswitched h q rev shape p e =
    checkout_has h q rev p e ∙ ap (λ (r : Path). r ++ p) (sym (checkout_has h q rev [] (dir_present _ shape.root) ∙ append-nil q))

-- ---- a path that is forgotten

pub forgotten_unswitched : (w : WorkingCopy) (at : Path) → IsUnswitched w → IsWorkingCopy (forgotten w at) → IsUnswitched (forgotten w at)
forgotten_unswitched w at unswitched shape p e =
    by (path_eq at p) (is_within at p) (w p) (unswitched p) e ∙ ap (λ (r : Path). r ++ p) (sym root)
  where
    by : (x y : Bool) (o : Option BaseNode) {q : Path} → (is_present o ≡ true → node_path o ≡ q)
        → is_present (cond x (Some NotPresent) (cond y None o)) ≡ true → node_path (cond x (Some NotPresent) (cond y None o)) ≡ q
    by true y o h e = any_from_clash e
    by false true o h e = any_from_clash e
    by false false o h e = h e

    root : node_path (forgotten w at []) ≡ node_path (w [])
    root = by (path_eq at []) (is_within at []) (w []) (λ h. refl) (dir_present _ shape.root)

-- ---- one node and the directory above it

-- the path of a present node is its directory's with its name
below_joined : (w : WorkingCopy) → IsUnswitched w → IsWorkingCopy w → (p q : Path) (name : List ℕ) → p ≡ child q name
    → is_present (w p) ≡ true → node_path (w p) ≡ node_path (w q) ++ last_name p
below_joined w unswitched shape p q name is present =
    let stands : w (child q name) ≢ None = λ none. any_from_clash (sym (ap is_present (ap w is ∙ none)) ∙ present) in
    unswitched p present ∙ ap (λ (x : Path). node_path (w []) ++ x) is ∙ sym (append_assoc (node_path (w [])) q (name ∷ []))
    ∙ ap (λ (x : Path). x ++ name ∷ []) (sym (unswitched q (dir_present (w q) (shape.parents q name stands))))
    ∙ ap (λ (x : Path). node_path (w q) ++ x) (sym (ap last_name is ∙ last_name-child q name))

pub unswitched_below : (w : WorkingCopy) → IsUnswitched w → IsWorkingCopy w → (p q : Path) (name : List ℕ) → p ≡ child q name
    → is_present (w p) ≡ true → path_eq (node_path (w p)) (node_path (w q) ++ last_name p) ≡ true
unswitched_below w unswitched shape p q name is present = path_eq_from _ _ (below_joined w unswitched shape p q name is present)

-- ---- what is placed where the path above leads

module _ (h : History) (w : WorkingCopy) (at : Path) (rev : ℕ) (unswitched : IsUnswitched w) (shape : IsWorkingCopy w)
    (root : is_root at ≡ false)
    (above : is_dir (w (parent at)) ≡ true) where
  placed_path : joined_path w at ≡ node_path (w []) ++ at
  placed_path =
      ap (λ (x : Path). x ++ last_name at) (unswitched (parent at) (dir_present _ above))
      ∙ append_assoc (node_path (w [])) (parent at) (last_name at) ∙ ap (λ (x : Path). node_path (w []) ++ x) (parent_and_last at)

  placed_root : placed h w at (joined_path w at) rev [] ≡ w []
  placed_root = by at root
    where
      by : (at : Path) → is_root at ≡ false → placed h w at (joined_path w at) rev [] ≡ w []
      by [] h = absurd (true≢false h)
      by (n ∷ p) h = refl

  pub placed_unswitched : IsUnswitched (placed h w at (joined_path w at) rev)
  placed_unswitched p e = by (is_within at p) refl e ∙ ap (λ (o : Option BaseNode). node_path o ++ p) (sym placed_root)
    where
      by : (b : Bool) → is_within at p ≡ b
          → is_present (cond b (checkout h (joined_path w at) rev (drop (length at) p)) (w p)) ≡ true
          → node_path (cond b (checkout h (joined_path w at) rev (drop (length at) p)) (w p)) ≡ node_path (w []) ++ p
      by false i e = unswitched p e
      by true i e =
          let on = split_within at p i in
          let rest : drop (length at) p ≡ on.0 = ap (drop (length at)) on.1 ∙ drop-append_seam at on.0 in
          checkout_has h (joined_path w at) rev (drop (length at) p) e ∙ (λ j. placed_path j ++ rest j)
          ∙ append_assoc (node_path (w [])) at on.0 ∙ ap (λ (x : Path). node_path (w []) ++ x) (sym on.1)

-- ---- a crawl without a link

-- below each directory the nodes are not switched
abbrev NoneIsSwitched : WorkingCopy → Type 0
NoneIsSwitched w = (q : Path) (name : List ℕ) → is_present (w (child q name)) ≡ true
    → node_path (w (child q name)) ≡ node_path (w q) ++ name ∷ []

-- a present node is below present ones
above_present : (w : WorkingCopy) → IsWorkingCopy w → (p r : Path) → is_present (w (p ++ r)) ≡ true → is_present (w p) ≡ true
above_present w shape p [] e = ap (λ (x : Path). is_present (w x)) (sym (append-nil p)) ∙ e
above_present w shape p (n ∷ r) e =
    dir_present (w p)
    (directory_above w shape p (p ++ n ∷ r) (below_from p (p ++ n ∷ r) (within_append p (n ∷ r)) (path_eq-longer p n r))
    (λ none. any_from_clash (sym (ap is_present none) ∙ e)))

-- so none is
pub from_below : (w : WorkingCopy) → IsWorkingCopy w → NoneIsSwitched w → IsUnswitched w
from_below w shape below p e = down [] p (dir_present _ shape.root) (sym (append-nil _)) e
  where
    down : (q r : Path) → is_present (w q) ≡ true → node_path (w q) ≡ node_path (w []) ++ q → is_present (w (q ++ r)) ≡ true
        → node_path (w (q ++ r)) ≡ node_path (w []) ++ (q ++ r)
    down q [] there own e =
        ap (λ (x : Path). node_path (w x)) (append-nil q) ∙ own ∙ ap (λ (x : Path). node_path (w []) ++ x) (sym (append-nil q))
    down q (name ∷ r) there own e =
        let further : is_present (w ((q ++ name ∷ []) ++ r)) ≡ true =
        ap (λ (x : Path). is_present (w x)) (append_assoc q (name ∷ []) r) ∙ e in
        let next : is_present (w (q ++ name ∷ [])) ≡ true = above_present w shape (q ++ name ∷ []) r further in
        let path : node_path (w (q ++ name ∷ [])) ≡ node_path (w []) ++ (q ++ name ∷ []) =
        below q name next ∙ ap (λ (x : Path). x ++ name ∷ []) own ∙ append_assoc (node_path (w [])) q (name ∷ []) in
        ap (λ (x : Path). node_path (w x)) (sym (append_assoc q (name ∷ []) r))
        ∙ down (q ++ name ∷ []) r next path further
        ∙ ap (λ (x : Path). node_path (w []) ++ x) (append_assoc q (name ∷ []) r)
