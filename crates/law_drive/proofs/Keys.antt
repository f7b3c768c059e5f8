-- Tests on names, paths and keys, and what they mean.
use Rattle.std.proofs.Common.{◌≡◌, ℕ, Bool, true, false, List, [], ◌∷◌, ◌++◌, refl, sym, ◌∙◌, ap, subst}
use Rattle.std.specs.Prelude.{map, cond}
use Rattle.std.specs.declared.cmp.Ordering.TheVariants.{Equal}
use Rattle.std.specs.Ordering.{nat_cmp, is_gt}
use Rattle.std.specs.Cmp.{IsTotalOrder}
use Rattle.std.specs.Cmp.Lexicographic.{slice_cmp, lists_total, on_texts}
use Rattle.std.specs.FinMap.{slice_cmp-IsAntisymmetric, nat_cmp-IsAntisymmetric}
use Rattle.svn_lists.proofs.Orderings.{equal_from_both_at_most}
use Rattle.svn_types.specs.Names.{Path}
use Rattle.svn_types.specs.declared.kind.Kind.TheVariants.{File, Directory}
use Rattle.svn_types.proofs.NameLemmas.{Name}
use Rattle.svn_editor.specs.Steps.{Action, Delete, Open, Add, Change, Text, Close, Step}
use Rattle.svn_model.specs.Follow.{DriveInput}
use Rattle.svn_model.specs.Steps.{Mark, Named, End, mark_cmp, key, key_of, comes_after, has_text}

-- ---- the order of keys

abbrev code : Mark → List ℕ
code (Named n) = 0 ∷ n
code End = 1 ∷ []

mark_cmp-code : (m n : Mark) → slice_cmp nat_cmp (code m) (code n) ≡ mark_cmp m n
mark_cmp-code (Named m) (Named n) = refl
mark_cmp-code (Named m) End = refl
mark_cmp-code End (Named n) = refl
mark_cmp-code End End = refl

pub marks_total : IsTotalOrder mark_cmp
marks_total = subst IsTotalOrder (λ i m n. mark_cmp-code m n i) (on_texts code)

pub keys_total : IsTotalOrder (slice_cmp mark_cmp)
keys_total = lists_total marks_total

-- the path of a key
abbrev pub path_in : List Mark → Path
path_in [] = []
path_in (Named n ∷ k) = n ∷ path_in k
path_in (End ∷ k) = path_in k

pub path_in-map : (p : Path) → path_in (map Named p) ≡ p
path_in-map [] = refl
path_in-map (n ∷ p) = ap (λ (q : Path). n ∷ q) (path_in-map p)

path_in-closed : (p : Path) → path_in (map Named p ++ (End ∷ [])) ≡ p
path_in-closed [] = refl
path_in-closed (n ∷ p) = ap (λ (q : Path). n ∷ q) (path_in-closed p)

path_in-key : (d : DriveInput) (late : Bool) (p : Path) (a : Action) → path_in (key d late p a) ≡ p
path_in-key d late p (Delete r) = path_in-map p
path_in-key d late p (Open k r) = path_in-map p
path_in-key d late p (Add k) = path_in-map p
path_in-key d late p (Change k c) = path_in-map p
path_in-key d true p (Text b t) = path_in-map p
path_in-key d false p (Text b t) = path_in-map p
path_in-key d late p (Close Directory c) = path_in-closed p
path_in-key d true p (Close File c) = by (has_text d p)
  where
    by : (b : Bool) → path_in (cond b (End ∷ map Named p) (map Named p)) ≡ p
    by true = path_in-map p
    by false = path_in-map p
path_in-key d false p (Close File c) = path_in-map p

-- marks that the order doesn't distinguish are the same, and so are keys
tied_names : (m n : Name) → slice_cmp nat_cmp m n ≡ Equal → m ≡ n
tied_names = slice_cmp-IsAntisymmetric nat_cmp-IsAntisymmetric

tied_marks : (m n : Mark) → mark_cmp m n ≡ Equal → m ≡ n
tied_marks (Named m) (Named n) h = ap Named (tied_names m n h)
tied_marks (Named m) End h = cc
tied_marks End (Named n) h = cc
tied_marks End End h = refl

pub tied_keys : (j k : List Mark) → slice_cmp mark_cmp j k ≡ Equal → j ≡ k
tied_keys = slice_cmp-IsAntisymmetric tied_marks

-- two steps, neither after the other, are at one path
pub same_place : (d : DriveInput) (late : Bool) (s t : Step) → comes_after d late s t ≡ false → comes_after d late t s ≡ false
    → s.path ≡ t.path
same_place d late s t h k =
    let o = keys_total in
    let e : slice_cmp mark_cmp (key_of d late s) (key_of d late t) ≡ Equal =
    equal_from_both_at_most _ h (ap is_gt (sym (o.antisymm (key_of d late t) (key_of d late s))) ∙ k) in
    sym (path_in-key d late s.path s.action) ∙ ap path_in (tied_keys (key_of d late s) (key_of d late t) e)
    ∙ path_in-key d late t.path t.action
