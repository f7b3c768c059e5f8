-- Each path at which two copies differ: what becomes of it, in a plan and in a list.
use Rattle.std.proofs.Common.{◌≡◌, ◌≢◌, Bool, true, false, suc, cond, map, List, [], ◌∷◌, refl, sym, ◌∙◌, ap, subst, inl, inr, arith, true≢false, Vec, Global}
use Rattle.std.specs.Prelude.{◌⊎◌, Option, Some, None, is_some, Result, Ok, Err, IfOk, OnOk}
use Rattle.std.specs.BTreeMap.{is_at}
use Rattle.std.specs.List.Sorted.{IsStrictlySortedBy}
use Rattle.std.specs.Map.{lookup, keys_of}
use Rattle.std.proofs.lemmas.Bool.{or_parts}
use Rattle.svn_types.specs.declared.kind.Kind.{Kind}
use Rattle.svn_types.specs.Names.{Path, path_cmp}
use Rattle.svn_types.proofs.PathLemmas.{same_path, path_eq-same}
use Rattle.svn_types.proofs.PathsInOrder.{at_path}
use Rattle.svn_model.specs.declared.base_node.BaseNode.{BaseNode}
use Rattle.svn_model.specs.declared.base_node.BaseNode.TheVariants.{File as FileNode, Dir as DirNode, NotPresent}
use Rattle.svn_model.specs.Nodes.{get_in, is_present, present_kind, present_props, file_text}
use Rattle.svn_disk.specs.declared.plan.Change.{Change}
use Rattle.svn_disk.specs.declared.plan.Change.TheVariants.{Added, Removed, Replaced, Rewritten, Recorded, Bumped, Restored}
use Rattle.svn_disk.specs.declared.plan.PathChange.{PathChange}
use Rattle.svn_disk.specs.Changes.{comes, goes, is_on_disk, is_some_on_disk, is_on_disk_at, has_to_come, has_to_go, IsSameNode, IsChangeOf, IsPlanned, ArePlanned, StayPlanned, HasChange, HasEachChange}

-- ---- what becomes of two nodes

-- where the kind stays nothing has to go
kind_stays : (old new : BaseNode) → present_kind old ≡ present_kind new → has_to_go (Some old) (Some new) ≡ false
kind_stays (FileNode r q t ps) (FileNode r2 q2 t2 ps2) same = refl
kind_stays (FileNode r q t ps) (DirNode r2 q2 c2 ps2) same = cc
kind_stays (FileNode r q t ps) NotPresent same = cc
kind_stays (DirNode r q c ps) (FileNode r2 q2 t2 ps2) same = cc
kind_stays (DirNode r q c ps) (DirNode r2 q2 c2 ps2) same = refl
kind_stays (DirNode r q c ps) NotPresent same = cc
kind_stays NotPresent new same = refl

same_node : (old new : BaseNode) → present_kind old ≡ present_kind new → (file_text old ≡ file_text new) × (present_props old ≡ present_props new)
    → IsSameNode (Some old) (Some new)
same_node (FileNode r q t ps) (FileNode r2 q2 t2 ps2) same parts =
    let texts : Some t ≡ Some t2 = parts.0 in
    let props : Some ps ≡ Some ps2 = parts.1 in
    record { directories = refl; files = refl; texts = cc; props = cc }
same_node (FileNode r q t ps) (DirNode r2 q2 c2 ps2) same parts = cc
same_node (FileNode r q t ps) NotPresent same parts = cc
same_node (DirNode r q c ps) (FileNode r2 q2 t2 ps2) same parts = cc
same_node (DirNode r q c ps) (DirNode r2 q2 c2 ps2) same parts =
    let props : Some ps ≡ Some ps2 = parts.1 in
    record { directories = refl; files = refl; texts = refl; props = cc }
same_node (DirNode r q c ps) NotPresent same parts = cc
same_node NotPresent (FileNode r2 q2 t2 ps2) same parts = cc
same_node NotPresent (DirNode r2 q2 c2 ps2) same parts = cc
same_node NotPresent NotPresent same parts = record { directories = refl; files = refl; texts = refl; props = refl }

present_of : (node : BaseNode) (kind : Kind) → present_kind node ≡ Some kind → is_present (Some node) ≡ true
present_of (FileNode r q t ps) kind is = refl
present_of (DirNode r q c ps) kind is = refl
present_of NotPresent kind is = cc

-- nothing on disk changes
record_as : (old new : BaseNode) (change : Change) → is_on_disk change ≡ false → present_kind old ≡ present_kind new → has_to_come (Some old) (Some new) ≡ false
    → (change ≡ Bumped → (file_text old ≡ file_text new) × (present_props old ≡ present_props new)) → IsChangeOf (Some old) (Some new) change
record_as old new change none kind come same =
    let parts = or_parts (comes change) (goes change) none in
    record {
      made = λ h. absurd (true≢false (sym h ∙ come));
      there = λ h. absurd (true≢false (sym h ∙ parts.0));
      removed = parts.1 ∙ sym (kind_stays old new kind);
      bumped = λ is. same_node old new kind (same is);
    }

pub recorded : (old new : BaseNode) → present_kind old ≡ present_kind new → has_to_come (Some old) (Some new) ≡ false → IsChangeOf (Some old) (Some new) Recorded
recorded old new kind come = record_as old new Recorded refl kind come (λ (is : Recorded ≡ Bumped). cc)

pub bumped : (old new : BaseNode) → present_kind old ≡ present_kind new → has_to_come (Some old) (Some new) ≡ false
    → (file_text old ≡ file_text new) × (present_props old ≡ present_props new) → IsChangeOf (Some old) (Some new) Bumped
bumped old new kind come same = record_as old new Bumped refl kind come (λ is. same)

-- a file has another text, or is used in another way; two nodes that aren't present are the same on disk
pub rewritten : (old new : BaseNode) (kind : Kind) → present_kind old ≡ Some kind → present_kind new ≡ Some kind → IsChangeOf (Some old) (Some new) Rewritten
rewritten old new kind was is = record {
  made = λ h. refl;
  there = λ h. present_of new kind is;
  removed = sym (kind_stays old new (was ∙ sym is));
  bumped = λ h. cc;
}

-- a file becomes a directory, or a directory a file
pub replaced : (old new : BaseNode) (was is : Kind) → present_kind old ≡ Some was → present_kind new ≡ Some is → was ≢ is → IsChangeOf (Some old) (Some new) Replaced
replaced (FileNode r q t ps) (FileNode r2 q2 t2 ps2) was is a b differ = absurd (differ (cc))
replaced (FileNode r q t ps) (DirNode r2 q2 c2 ps2) was is a b differ = record { made = λ h. refl; there = λ h. refl; removed = refl; bumped = λ h. cc }
replaced (FileNode r q t ps) NotPresent was is a b differ = cc
replaced (DirNode r q c ps) (FileNode r2 q2 t2 ps2) was is a b differ = record { made = λ h. refl; there = λ h. refl; removed = refl; bumped = λ h. cc }
replaced (DirNode r q c ps) (DirNode r2 q2 c2 ps2) was is a b differ = absurd (differ (cc))
replaced (DirNode r q c ps) NotPresent was is a b differ = cc
replaced NotPresent new was is a b differ = cc

-- what isn't present has nothing to go, and is made of nothing
pub added_to : (old new : BaseNode) (kind : Kind) → present_kind old ≡ None → present_kind new ≡ Some kind → IsChangeOf (Some old) (Some new) Added
added_to (FileNode r q t ps) new kind none some = cc
added_to (DirNode r q c ps) new kind none some = cc
added_to NotPresent new kind none some = record { made = λ h. refl; there = λ h. present_of new kind some; removed = refl; bumped = λ h. cc }

pub removed_to : (old new : BaseNode) (kind : Kind) → present_kind old ≡ Some kind → present_kind new ≡ None → IsChangeOf (Some old) (Some new) Removed
removed_to old (FileNode r q t ps) kind some none = cc
removed_to old (DirNode r q c ps) kind some none = cc
removed_to (FileNode r q t ps) NotPresent kind some none = record { made = λ h. h; there = λ h. h; removed = refl; bumped = λ h. cc }
removed_to (DirNode r q c ps) NotPresent kind some none = record { made = λ h. h; there = λ h. h; removed = refl; bumped = λ h. cc }
removed_to NotPresent NotPresent kind some none = cc

-- neither is present, or one isn't and of the other nothing is known
pub noted : (old new : BaseNode) → present_kind old ≡ None → present_kind new ≡ None → IsChangeOf (Some old) (Some new) Bumped
noted (FileNode r q t ps) new none and = cc
noted (DirNode r q c ps) new none and = cc
noted NotPresent (FileNode r q t ps) none and = cc
noted NotPresent (DirNode r q c ps) none and = cc
noted NotPresent NotPresent none and =
    record { made = λ h. h; there = λ h. h; removed = refl; bumped = λ h. record { directories = refl; files = refl; texts = refl; props = refl } }

pub noted_first : (new : BaseNode) → is_present (Some new) ≡ false → IsChangeOf None (Some new) Bumped
noted_first (FileNode r q t ps) none = absurd (true≢false none)
noted_first (DirNode r q c ps) none = absurd (true≢false none)
noted_first NotPresent none =
    record { made = λ h. h; there = λ h. h; removed = refl; bumped = λ h. record { directories = refl; files = refl; texts = refl; props = refl } }

pub noted_last : (old : BaseNode) → is_present (Some old) ≡ false → IsChangeOf (Some old) None Bumped
noted_last (FileNode r q t ps) none = absurd (true≢false none)
noted_last (DirNode r q c ps) none = absurd (true≢false none)
noted_last NotPresent none =
    record { made = λ h. h; there = λ h. h; removed = refl; bumped = λ h. record { directories = refl; files = refl; texts = refl; props = refl } }

-- of a path at which one copy knows nothing
pub added : (new : BaseNode) → is_present (Some new) ≡ true → IsChangeOf None (Some new) Added
added new some = record { made = λ h. refl; there = λ h. some; removed = refl; bumped = λ h. cc }

pub removed : (old : BaseNode) → is_present (Some old) ≡ true → IsChangeOf (Some old) None Removed
removed (FileNode r q t ps) some = record { made = λ h. h; there = λ h. h; removed = refl; bumped = λ h. cc }
removed (DirNode r q c ps) some = record { made = λ h. h; there = λ h. h; removed = refl; bumped = λ h. cc }
removed NotPresent some = absurd (true≢false (sym some))

-- ---- a plan

-- what becomes of a path is planned there; of the others all stays as it was
pub planned_here : (old new : List (Path × BaseNode)) (entries : List (Path × Change)) (p : Path) (change : Change) → lookup (is_at (path_cmp p)) entries ≡ Some change
    → IsChangeOf (get_in old p) (get_in new p) change → IsPlanned old new entries p
planned_here old new entries p change found is = λ differs. record { change = change; found = found; is = is }

pub is_change_at : (old new was now : Option BaseNode) (change : Change) → was ≡ old → now ≡ new → IsChangeOf was now change → IsChangeOf old new change
is_change_at old new was now change o n is =
    subst (λ (x : Option BaseNode). IsChangeOf x new change) o (subst (λ (x : Option BaseNode). IsChangeOf was x change) n is)

-- the same of copies that are the same
module _ (old new was now : List (Path × BaseNode)) (o : was ≡ old) (n : now ≡ new) where
  pub planned_along : (entries : List (Path × Change)) (p : Path) → IsPlanned was now entries p → IsPlanned old new entries p
  planned_along entries p is =
      subst (λ (x : List (Path × BaseNode)). IsPlanned x new entries p) o (subst (λ (x : List (Path × BaseNode)). IsPlanned was x entries p) n is)

  pub stay_along : (entries more : List (Path × Change)) → StayPlanned was now entries more → StayPlanned old new entries more
  stay_along entries more is =
      subst (λ (x : List (Path × BaseNode)). StayPlanned x new entries more) o
      (subst (λ (x : List (Path × BaseNode)). StayPlanned was x entries more) n is)

-- where the copies don't differ nothing has to be
pub planned_same : (old new : List (Path × BaseNode)) (entries : List (Path × Change)) (p : Path) → get_in old p ≡ get_in new p → IsPlanned old new entries p
planned_same old new entries p same = λ differs. absurd (differs same)

module _ (old new : List (Path × BaseNode)) (entries more : List (Path × Change)) (p : Path) (change : Change)
    (updated : (q : Path) → lookup (is_at (path_cmp q)) more ≡ cond (is_at (path_cmp p) q) (Some change) (lookup (is_at (path_cmp q)) entries)) where
  pub found_here : lookup (is_at (path_cmp p)) more ≡ Some change
  found_here = updated p ∙ ap (λ b. cond b (Some change) (lookup (is_at (path_cmp p)) entries)) (at_path p p ∙ path_eq-same p)

  found_there : (q : Path) → is_at (path_cmp p) q ≡ false → lookup (is_at (path_cmp q)) more ≡ lookup (is_at (path_cmp q)) entries
  found_there q apart = updated q ∙ ap (λ b. cond b (Some change) (lookup (is_at (path_cmp q)) entries)) apart

  -- one more change, that is what becomes of its path if something did so far
  pub stay_planned : (IsPlanned old new entries p → IsPlanned old new more p) → StayPlanned old new entries more
  stay_planned here q planned = by (is_at (path_cmp p) q) refl
    where
      by : (b : Bool) → is_at (path_cmp p) q ≡ b → IsPlanned old new more q
      by true e =
          let same : p ≡ q = same_path p q (sym (at_path p q) ∙ e) in
          subst (IsPlanned old new more) same (here (subst (IsPlanned old new entries) (sym same) planned))
      by false e = λ differs. let was = planned differs in record { change = was.change; found = found_there q e ∙ was.found; is = was.is }

-- what stays may be made again, if nothing happens on disk so far
again : (old new : Option BaseNode) (change : Change) → is_on_disk change ≡ false → is_present new ≡ true → IsChangeOf old new change → IsChangeOf old new Restored
again old new change none there is = record {
  made = λ h. refl;
  there = λ h. there;
  removed = sym (or_parts (comes change) (goes change) none).1 ∙ is.removed;
  bumped = λ h. cc;
}

pub planned_again : (old new : List (Path × BaseNode)) (entries more : List (Path × Change)) (p : Path) → is_on_disk_at entries p ≡ false
    → is_present (get_in new p) ≡ true → lookup (is_at (path_cmp p)) more ≡ Some Restored → IsPlanned old new entries p → IsPlanned old new more p
planned_again old new entries more p none there found planned = λ differs.
    let was = planned differs in
    record {
      change = Restored;
      found = found;
      is = again (get_in old p) (get_in new p) was.change (sym (ap is_some_on_disk was.found) ∙ none) there was.is;
    }

-- ---- one path of a copy after the other

-- what the copy has is planned, or is among what is left of it
abbrev pub Covers : List (Path × BaseNode) → List (Path × BaseNode) → List (Path × BaseNode) → List (Path × Change) → List (Path × BaseNode) → Type 0
Covers old new copy entries rest = (p : Path) → is_some (get_in copy p) ≡ true → IsPlanned old new entries p ⊎ (is_some (get_in rest p) ≡ true)

pub covers_more : (old new copy : List (Path × BaseNode)) (entries more : List (Path × Change)) (path : Path) (node : BaseNode) (items rest : List (Path × BaseNode))
    → items ≡ (path, node) ∷ rest → IsPlanned old new more path → StayPlanned old new entries more → Covers old new copy entries items → Covers old new copy more rest
covers_more old new copy entries more path node items rest is here stay before p has =
    elim (before p has) [ inl planned ↦ inl (stay p planned) | inr left ↦ by (is_at (path_cmp p) path) refl (ap (λ l. is_some (get_in l p)) (sym is) ∙ left) ]
  where
    by : (b : Bool) → is_at (path_cmp p) path ≡ b → is_some (cond (is_at (path_cmp p) path) (Some node) (get_in rest p)) ≡ true
        → IsPlanned old new more p ⊎ (is_some (get_in rest p) ≡ true)
    by true e left = inl (subst (IsPlanned old new more) (sym (same_path p path (sym (at_path p path) ∙ e))) here)
    by false e left = inr (ap (λ b. is_some (cond b (Some node) (get_in rest p))) (sym e) ∙ left)

pub covers_all : (old new copy : List (Path × BaseNode)) (entries : List (Path × Change)) (items : List (Path × BaseNode)) → items ≡ []
    → Covers old new copy entries items → (p : Path) → is_some (get_in copy p) ≡ true → IsPlanned old new entries p
covers_all old new copy entries items is covers p has =
    elim (covers p has) [ inl planned ↦ planned | inr left ↦ absurd (true≢false (sym left ∙ ap (λ l. is_some (get_in l p)) is)) ]

-- of both copies
pub both_planned : (old new : List (Path × BaseNode)) (first entries : List (Path × Change))
    → ((p : Path) → is_some (get_in old p) ≡ true → IsPlanned old new first p) → StayPlanned old new first entries
    → ((p : Path) → is_some (get_in new p) ≡ true → IsPlanned old new entries p) → ArePlanned old new entries
both_planned old new first entries olds stay news p = by (get_in old p) (get_in new p) refl refl
  where
    by : (o n : Option BaseNode) → get_in old p ≡ o → get_in new p ≡ n → IsPlanned old new entries p
    by (Some x) n is and = stay p (olds p (ap is_some is))
    by None (Some x) is and = news p (ap is_some and)
    by None None is and = λ differs. absurd (differs (is ∙ sym and))

-- ---- a list

pair_of : PathChange → Path × Change
pair_of change = (change.path, change.change)

module _ (old new : List (Path × BaseNode)) (p : Path) where
  has_more : (first : PathChange) (rest : List PathChange) → HasChange old new rest p → HasChange old new (first ∷ rest) p
  has_more first rest has = record {
    change = has.change;
    listed = (suc has.listed.0, omega (arith, has.listed.1), has.listed.2);
    at = has.at;
    is = has.is;
  }

  in_list : (change : Change) (changes : List PathChange) → lookup (is_at (path_cmp p)) (map pair_of changes) ≡ Some change
      → IsChangeOf (get_in old p) (get_in new p) change → HasChange old new changes p
  unfolding pair_of
  in_list change [] found is = cc
  in_list change (first ∷ rest) found is = by (is_at (path_cmp p) first.path) refl (λ later. has_more first rest (in_list change rest later is))
    where
      by : (b : Bool) → is_at (path_cmp p) first.path ≡ b
          → (lookup (is_at (path_cmp p)) (map pair_of rest) ≡ Some change → HasChange old new (first ∷ rest) p) → HasChange old new (first ∷ rest) p
      by true e later =
          let here : Some first.change ≡ Some change = sym (ap (λ b. cond b (Some first.change) (lookup (is_at (path_cmp p)) (map pair_of rest))) e) ∙ found in
          let same : first.change ≡ change = cc in
          record {
            change = first;
            listed = (0, omega arith, refl);
            at = sym (same_path p first.path (sym (at_path p first.path) ∙ e));
            is = subst (IsChangeOf (get_in old p) (get_in new p)) (sym same) is;
          }
      by false e later = later (sym (ap (λ b. cond b (Some first.change) (lookup (is_at (path_cmp p)) (map pair_of rest))) e) ∙ found)

paths_of : (changes : List PathChange) → keys_of (map pair_of changes) ≡ map (λ (change : PathChange). change.path) changes
unfolding pair_of
paths_of [] = refl
paths_of (first ∷ rest) = ap (λ (ps : List Path). first.path ∷ ps) (paths_of rest)

pub each_listed : (old new : List (Path × BaseNode)) (entries : List (Path × Change)) (changes : List PathChange)
    → map (λ (change : PathChange). (change.path, change.change)) changes ≡ entries → IsStrictlySortedBy path_cmp (keys_of entries) → ArePlanned old new entries
    → HasEachChange old new changes
unfolding pair_of
each_listed old new entries changes is order planned = record {
  order = subst (IsStrictlySortedBy path_cmp) (ap (λ (es : List (Path × Change)). keys_of es) (sym is) ∙ paths_of changes) order;
  each = λ p differs.
      let plan = planned p differs in
      in_list old new p plan.change changes (ap (lookup (is_at (path_cmp p))) is ∙ plan.found) plan.is;
}

-- of what a call returns
pub list_of : {E : Type 0} → (old new : List (Path × BaseNode)) (entries : List (Path × Change)) (result : Result (Vec PathChange Global) E)
    → IfOk result (λ list. map (λ (change : PathChange). (change.path, change.change)) list.items ≡ entries)
    → OnOk result (IsStrictlySortedBy path_cmp (keys_of entries)) → ArePlanned old new entries → IfOk result (λ list. HasEachChange old new list.items)
list_of old new entries (Ok list) is order planned = each_listed old new entries list.items is order planned
list_of old new entries (Err fault) is order planned = tt
