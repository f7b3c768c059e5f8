-- A change that is made by one graft.
use Rattle.std.proofs.Common.{◌≡◌, ℕ, ◌≤◌, ◌+◌, Bool, false, cond, arith, Option, true, List, [], ◌∷◌, length, refl, None, Some, sym, ap, subst}
use Rattle.std.proofs.Common.{◌∙◌}
use Rattle.svn_lists.proofs.Options.{option_or_none}
use Rattle.svn_repo.specs.declared.store.Draft.{Draft}
use Rattle.svn_repo.specs.declared.store.Node.{Node}
use Rattle.svn_repo.specs.declared.change.Change.{Change}
use Rattle.svn_types.specs.Names.{Path}
use Rattle.svn_repo.specs.History.{History, look, node_at}
use Rattle.svn_repo.specs.Trees.{Place, Tree, tree_at, graft, touch, is_directory_place, with_prop, place_with_prop, IsWay}
use Rattle.svn_repo.specs.Drafts.{IsGrafted, past_in, tree_in}
use Rattle.std.specs.Option.{option_or, option_map, is_some}
use Rattle.svn_repo.specs.declared.change.Change.TheVariants.{MakeDir, PutFile, SetProp, Remove, CopyFrom}
use Rattle.svn_repo.specs.Changes.{Pending, pending_in, after_change, IsMade, root_fault, above_fault, change_fault, fault_if, depth_fault}
use Rattle.svn_repo.specs.Changes.{size_fault, missing_fault, value_fault, lines_after, revision_fault, walk_fault, copy_fault}
use Rattle.svn_repo.specs.Changes.{copy_depth_fault}
use Rattle.svn_repo.specs.declared.change.CommitFault.TheVariants.{Exists, NotFile}
use Rattle.svn_repo.proofs.Faults.{way_whole}
use Rattle.svn_repo.proofs.Ways.{is_directory_place-touch}

grafted_root : (t part : Tree) (p : Path) → root_fault p ≡ None → graft t p part [] ≡ touch t p []
grafted_root t part [] h = cc
grafted_root t part (m ∷ p) h = refl

pub made_by_graft : (base : ℕ) (old new : List Node) (from root lines next : ℕ) (p : Path) (part : Tree) (change : Change) (roots : List ℕ)
    → IsGrafted base old new from root p part → root_fault p ≡ None → next ≤ length new
    → ((l : ℕ) → after_change (past_in base roots old l)
    (pending_in base old from lines) change ≡ record { tree = graft (tree_in base old from) p part; lines = next })
    → IsMade base roots old new from lines root next change
made_by_graft base old new from root lines next p part change roots g not_root bounded is = record {
  draft = g.draft;
  bounded = bounded;
  directory = λ d. ap is_directory_place (g.tree [] ∙ grafted_root (tree_in base old from) part p not_root)
      ∙ is_directory_place-touch (tree_in base old from) p [] ∙ d;
  pending = λ h.
      (let same : tree_in base new root ≡ graft (tree_in base old from) p part = λ i q. g.tree q i in
      let P : Tree → Pending = λ t. record { tree = t; lines = next } in
      ap P same ∙ sym (is h));
}

-- what a change without fault has, at its path and above
abbrev pub CanPut : Tree → Path → Type 0
CanPut t p = (root_fault p ≡ None) × (above_fault t p ≡ None)

can_make_dir : (h : History) (s : Pending) (p : Path) → change_fault h s (MakeDir p) ≡ None → CanPut s.tree p
can_make_dir h s p e =
    let a = option_or_none (root_fault p)
    (option_or (above_fault s.tree p) (option_or (fault_if (is_some (s.tree p)) Exists) (depth_fault p))) e
    in
    (a.0, (option_or_none (above_fault s.tree p) (option_or (fault_if (is_some (s.tree p)) Exists) (depth_fault p)) a.1).0)

can_put_file : (h : History) (s : Pending) (p : Path) (text : List ℕ) → change_fault h s (PutFile p text) ≡ None → CanPut s.tree p
can_put_file h s p text e =
    let a = option_or_none (root_fault p) (option_or (size_fault text)
    (option_or (above_fault s.tree p) (option_or (fault_if (is_directory_place (s.tree p)) NotFile) (depth_fault p)))) e in
    let b = option_or_none (size_fault text) (option_or (above_fault s.tree p)
    (option_or (fault_if (is_directory_place (s.tree p)) NotFile) (depth_fault p))) a.1 in
    (a.0, (option_or_none (above_fault s.tree p) (option_or (fault_if (is_directory_place (s.tree p)) NotFile) (depth_fault p)) b.1).0)

can_remove : (h : History) (s : Pending) (p : Path) → change_fault h s (Remove p) ≡ None → CanPut s.tree p
can_remove h s p e =
    let a = option_or_none (root_fault p) (option_or (above_fault s.tree p) (missing_fault (s.tree p))) e in
    (a.0, (option_or_none (above_fault s.tree p) (missing_fault (s.tree p)) a.1).0)

pub next_is : (lines : ℕ) (o : Option Place) (b : Bool) → b ≡ is_some o → cond b lines (lines + 1) ≡ lines_after lines o
next_is lines None b e = rw e refl
next_is lines (Some p) b e = rw e refl

pub next_below : (b : Bool) (lines : ℕ) → cond b lines (lines + 1) ≤ lines + 1
next_below true lines = omega arith
next_below false lines = omega arith

some_by : (o : Option Place) → missing_fault o ≡ None → is_some o ≡ true
some_by None h = cc
some_by (Some p) h = refl

-- the way of a change of a property that has no fault
can_set_prop : (h : History) (s : Pending) (p : Path) (name : List ℕ) (value : Option (List ℕ))
    → change_fault h s (SetProp p name value) ≡ None → IsWay s.tree p
can_set_prop h s p name value e =
    let a = option_or_none (value_fault value) (option_or (above_fault s.tree p) (missing_fault (s.tree p))) e in
    let b = option_or_none (above_fault s.tree p) (missing_fault (s.tree p)) a.1 in
    way_whole s.tree p b.0 (some_by (s.tree p) b.1)

kind_with_prop : (name : List ℕ) (value : Option (List ℕ)) (o : Option Place)
    → is_directory_place (option_map (place_with_prop name value) o) ≡ is_directory_place o
kind_with_prop name value None = refl
kind_with_prop name value (Some p) = refl

prop_root : (t : Tree) (p : Path) (name : List ℕ) (value : Option (List ℕ))
    → is_directory_place (graft t p (with_prop t p name value) []) ≡ is_directory_place (t [])
prop_root t [] name value = kind_with_prop name value (t [])
prop_root t (m ∷ p) name value = is_directory_place-touch t (m ∷ p) []

pub made_by_prop : (base : ℕ) (old new : List Node) (from root lines : ℕ) (p : Path) (name : List ℕ) (value : Option (List ℕ))
    (change : Change) (roots : List ℕ) → IsGrafted base old new from root p (with_prop (tree_in base old from) p name value)
    → lines ≤ length new → change ≡ SetProp p name value → IsMade base roots old new from lines root lines change
made_by_prop base old new from root lines p name value change roots g bounded is = record {
  draft = g.draft;
  bounded = bounded;
  directory = λ d. ap is_directory_place (g.tree []) ∙ prop_root (tree_in base old from) p name value ∙ d;
  pending = λ h.
      (let same : tree_in base new root ≡ graft (tree_in base old from) p (with_prop (tree_in base old from) p name value) =
      λ i q. g.tree q i in
      let P : Tree → Pending = λ t. record { tree = t; lines = lines } in
      ap P same ∙ sym (ap (after_change (past_in base roots old h) (pending_in base old from lines)) is));
}

-- ---- copies

pub record CanCopy (h : History) (t : Tree) (rev : ℕ) (source path : Path) : Type 0 where
  pub not_root : root_fault path ≡ None
  pub revision : revision_fault h rev ≡ None
  pub way : above_fault (tree_at h rev) source ≡ None
  pub present : is_some (tree_at h rev source) ≡ true
  pub above : above_fault t path ≡ None
  pub depth : copy_depth_fault (node_at h) (look h rev source) path ≡ None

pub can_copy : (h : History) (s : Pending) (rev : ℕ) (source path : Path) → change_fault h s (CopyFrom rev source path) ≡ None
    → CanCopy h s.tree rev source path
can_copy h s rev source path e =
    let depth : Option _ = copy_depth_fault (node_at h) (look h rev source) path in
    let exists : Option _ = fault_if (is_some (s.tree path)) Exists in
    let above : Option _ = above_fault s.tree path in
    let a = option_or_none (root_fault path) (copy_fault h s.tree rev source path) e in
    let b = option_or_none (revision_fault h rev)
    (option_or (walk_fault (tree_at h rev) source) (option_or above (option_or exists depth))) a.1 in
    let c = option_or_none (walk_fault (tree_at h rev) source) (option_or above (option_or exists depth)) b.1 in
    let d = option_or_none above (option_or exists depth) c.1 in
    let f = option_or_none exists depth d.1 in
    let g = option_or_none (above_fault (tree_at h rev) source) (missing_fault (tree_at h rev source)) c.0 in
    record {
      not_root = a.0;
      revision = b.0;
      way = g.0;
      present = some_by (tree_at h rev source) g.1;
      above = d.0;
      depth = f.1;
    }

-- ---- what a change on a draft has that is not refused

abbrev pub CanMake : History → Tree → Change → Type 0
CanMake h t (MakeDir p) = CanPut t p
CanMake h t (PutFile p text) = CanPut t p
CanMake h t (SetProp p name value) = IsWay t p
CanMake h t (Remove p) = CanPut t p
CanMake h t (CopyFrom rev source p) = CanCopy h t rev source p

can_do : (h : History) (s : Pending) (change : Change) → change_fault h s change ≡ None → CanMake h s.tree change
can_do h s (MakeDir p) e = can_make_dir h s p e
can_do h s (PutFile p text) e = can_put_file h s p text e
can_do h s (SetProp p name value) e = can_set_prop h s p name value e
can_do h s (Remove p) e = can_remove h s p e
can_do h s (CopyFrom rev source p) e = can_copy h s rev source p e

pub can_make : (draft : Draft) (roots : List ℕ) (nodes : List Node) {change made : Change}
    → ((l : ℕ) → change_fault (past_in draft.base roots nodes l) (pending_in draft.base nodes draft.root draft.lines) change ≡ None)
    → change ≡ made → CanMake (past_in draft.base roots nodes 0) (tree_in draft.base nodes draft.root) made
can_make draft roots nodes no_fault is =
    let h = past_in draft.base roots nodes 0 in
    let s = pending_in draft.base nodes draft.root draft.lines in
    can_do h s _ (subst (λ (change : Change). change_fault h s change ≡ None) is (no_fault 0))
