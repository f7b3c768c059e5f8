-- One element of a list changed.
use Rattle.std.proofs.Common.{◌≡◌, ℕ, zero, suc, ◌<◌, ◌≤◌, Bool, true, false, ◌||◌, List, [], ◌∷◌, ◌++◌, length, get_or, set, map}
use Rattle.std.proofs.Common.{refl, sym, ◌∙◌, ap, subst, arith, IsTrue, ◌↔◌}
use Rattle.std.specs.Prelude.{Some, slice_get}
use Rattle.std.proofs.lemmas.Option.{none-some, same_Some, slice_get_past, slice_get_read}
use Rattle.svn_lists.proofs.Places.{slice_get-set_other, slice_get-set_same}
use Rattle.svn_types.specs.Names.{Path}
use Rattle.svn_types.specs.Paths.{parent, is_root, path_eq}
use Rattle.svn_types.proofs.PathLemmas.{same_path, path_eq_from}
use Rattle.svn_order.specs.declared.directories.OpenedDirectory.{OpenedDirectory}
use Rattle.svn_order.specs.declared.tokens.GivenToken.{GivenToken}
use Rattle.svn_order.specs.Directories.{shown, ChangesAt, with_change, IsEntry, entry_name}
use Rattle.svn_order.specs.Tokens.{changed_at}

-- ---- tokens

changed_here : (f : GivenToken → GivenToken) (ns : List GivenToken) (i : ℕ) (n : GivenToken) → i < length ns → n ≡ get_or ns i n
    → set ns i (f n) ≡ changed_at f ns i
changed_here f [] i n h e = refl
changed_here f (m ∷ ns) zero n h e = ap (λ x. f x ∷ ns) e
changed_here f (m ∷ ns) (suc i) n h e = ap (λ xs. m ∷ xs) (changed_here f ns i n (omega arith) e)

pub changed_set : (f : GivenToken → GivenToken) (ns : List GivenToken) (i j : ℕ) (n : GivenToken) → j ≡ i → j < length ns
    → n ≡ get_or ns j n → set ns j (f n) ≡ changed_at f ns i
changed_set f ns i j n s h e = changed_here f ns j n h e ∙ ap (changed_at f ns) s

pub changed_past : (f : GivenToken → GivenToken) (ns : List GivenToken) (i : ℕ) → length ns ≤ i → ns ≡ changed_at f ns i
changed_past f [] i h = refl
changed_past f (m ∷ ns) zero h = absurd (omega arith)
changed_past f (m ∷ ns) (suc i) h = ap (λ xs. m ∷ xs) (changed_past f ns i (omega arith))

-- ---- directories

shown-set : (ds : List OpenedDirectory) (i : ℕ) (b d : OpenedDirectory) → slice_get ds i ≡ Some b → shown d ≡ shown b
    → map shown (set ds i d) ≡ map shown ds
shown-set [] i b d at s = refl
shown-set (x ∷ ds) zero b d at s = ap (λ y. y ∷ map shown ds) (s ∙ ap shown (sym (same_Some x b at)))
shown-set (x ∷ ds) (suc i) b d at s = ap (λ ys. shown x ∷ ys) (shown-set ds i b d at s)

ChangesAt-here : (Change : OpenedDirectory → OpenedDirectory → Type 0) (ds : List OpenedDirectory) (i : ℕ) (b d : OpenedDirectory)
    → i < length ds → b ≡ get_or ds i b → shown d ≡ shown b → Change b d → ChangesAt i Change ds (set ds i d)
ChangesAt-here Change ds i b d h e s r = record {
  shown = shown-set ds i b d at s;
  others = λ j x k n. sym (slice_get-set_other ds i d j n) ∙ k;
  changed = λ x k. (b, at, subst (λ (y : OpenedDirectory). Change b y) (same_Some d x (sym (slice_get-set_same ds i d h) ∙ k)) r);
}
  where
    at : slice_get ds i ≡ Some b
    at = slice_get_read ds (length ds) i b refl h e

pub ChangesAt-set : (Change : OpenedDirectory → OpenedDirectory → Type 0) (ds : List OpenedDirectory) (i j : ℕ) (b d : OpenedDirectory)
    → j ≡ i → j < length ds → b ≡ get_or ds j b → shown d ≡ shown b → Change b d → ChangesAt i Change ds (set ds j d)
ChangesAt-set Change ds i j b d p h e s r = subst (λ (k : ℕ). ChangesAt k Change ds (set ds j d)) p (ChangesAt-here Change ds j b d h e s r)

-- the element is as the change wants it already
pub ChangesAt-same : (Change : OpenedDirectory → OpenedDirectory → Type 0) (ds : List OpenedDirectory) (i j : ℕ) (b : OpenedDirectory)
    → j ≡ i → j < length ds → b ≡ get_or ds j b → Change b b → ChangesAt i Change ds ds
ChangesAt-same Change ds i j b p h e r = subst (λ (k : ℕ). ChangesAt k Change ds ds) p record {
  shown = refl;
  others = λ k x l n. l;
  changed =
      λ x k. let same : b ≡ x =
      same_Some b x (sym (slice_get_read ds (length ds) j b refl h e) ∙ k) in
      (x, k, subst (λ (y : OpenedDirectory). Change y y) same r);
}

pub changed_now : (ds : List OpenedDirectory) (i : ℕ) (b d : OpenedDirectory) → slice_get ds i ≡ Some b → slice_get ds i ≡ Some d
    → b.has_subdirectory ≡ true → record d { is_changed_late = true } ≡ with_change d
changed_now ds i b d h k s =
    let same : b ≡ d = same_Some b d (sym h ∙ k) in
    let there : d.has_subdirectory ≡ true = sym (ap (λ (x : OpenedDirectory). x.has_subdirectory) same) ∙ s in
    ap (λ (f : Bool). record d { is_changed_late = f }) (sym (by d.is_changed_late d.has_subdirectory there))
  where
    by : (a c : Bool) → c ≡ true → (a || c) ≡ true
    by true c e = refl
    by false c e = e

pub not_changed : (d : OpenedDirectory) → d.has_subdirectory ≡ false → d ≡ with_change d
not_changed d s = ap (λ (f : Bool). record d { is_changed_late = f }) (sym (by d.is_changed_late d.has_subdirectory s))
  where
    by : (a c : Bool) → c ≡ false → (a || c) ≡ a
    by true c e = refl
    by false c e = e

ChangesAt-past : (Change : OpenedDirectory → OpenedDirectory → Type 0) (ds : List OpenedDirectory) (i : ℕ) → length ds ≤ i
    → ChangesAt i Change ds ds
ChangesAt-past Change ds i h = record {
  shown = refl;
  others = λ j x k n. k;
  changed = λ x k. absurd (none-some x (sym (slice_get_past ds i h) ∙ k));
}

pub ChangesAt-beyond : (Change : OpenedDirectory → OpenedDirectory → Type 0) (ds : List OpenedDirectory) (i j : ℕ) → j ≡ i → length ds ≤ j
    → ChangesAt i Change ds ds
ChangesAt-beyond Change ds i j p h = subst (λ (k : ℕ). ChangesAt k Change ds ds) p (ChangesAt-past Change ds j h)

-- the directory in which an entry is, by the parts of the entry's path
pub entry_set : (Change : List ℕ → OpenedDirectory → OpenedDirectory → Type 0) (ds : List OpenedDirectory) (path above : Path)
    (name : List ℕ) (b d : OpenedDirectory) → IsEntry path above name → length above < length ds → b ≡ get_or ds (length above) b
    → shown d ≡ shown b → Change name b d
    → ChangesAt (length (parent path)) (Change (entry_name path)) ds (set ds (length above) d)
entry_set Change ds path above name b d at h e s r =
    ChangesAt-set (Change (entry_name path)) ds (length (parent path)) (length above) b d (sym (ap length at.parent_is)) h e s
    (subst (λ (n : List ℕ). Change n b d) (sym at.name_is) r)

pub entry_beyond : (Change : OpenedDirectory → OpenedDirectory → Type 0) (ds : List OpenedDirectory) (path above : Path) (name : List ℕ)
    → IsEntry path above name → length ds ≤ length above → ChangesAt (length (parent path)) Change ds ds
entry_beyond Change ds path above name at h =
    ChangesAt-beyond Change ds (length (parent path)) (length above) (sym (ap length at.parent_is)) h

-- ---- names

-- a path with a last name, taken apart
pub split_path : (p q : Path) (n : List ℕ) → p ≡ q ++ n ∷ [] → IsEntry p q n
split_path p q n e = subst (λ (r : Path). IsEntry r q n) (sym e) (record { below_root = below q; parent_is = above q; name_is = last q })
  where
    below : (q : Path) → is_root (q ++ n ∷ []) ≡ false
    below [] = refl
    below (m ∷ q) = refl

    above : (q : Path) → parent (q ++ n ∷ []) ≡ q
    above [] = refl
    above (m ∷ []) = refl
    above (m ∷ k ∷ q) = ap (λ r. m ∷ r) (above (k ∷ q))

    last : (q : Path) → entry_name (q ++ n ∷ []) ≡ n
    last [] = refl
    last (m ∷ []) = refl
    last (m ∷ k ∷ q) = last (k ∷ q)

-- an entry's path, put together
entry_whole : (p : Path) → is_root p ≡ false → p ≡ parent p ++ entry_name p ∷ []
entry_whole [] h = cc
entry_whole (n ∷ []) h = refl
entry_whole (m ∷ n ∷ p) h = ap (λ r. m ∷ r) (entry_whole (n ∷ p) refl)

pub whole_path : (p q : Path) (n : List ℕ) → IsEntry p q n → p ≡ q ++ n ∷ []
whole_path p q n e = entry_whole p e.below_root ∙ (λ i. e.parent_is i ++ e.name_is i ∷ [])

-- an entry is in a directory whose path with the entry's name is the entry's
pub parent_by_name : (d p q : Path) (n : List ℕ) (r : Bool) → IsEntry p q n → (IsTrue r ↔ (p ≡ d ++ n ∷ [])) → r ≡ path_eq d q
parent_by_name d p q n r e test = by r (path_eq d q) refl test
  where
    by : (r b : Bool) → path_eq d q ≡ b → (IsTrue r ↔ (p ≡ d ++ n ∷ [])) → r ≡ b
    by true true is t = refl
    by false false is t = refl
    by true false is t = sym (path_eq_from d q (sym (split_path p d n (t.0 refl)).parent_is ∙ e.parent_is)) ∙ is
    by false true is t = t.1 (whole_path p q n e ∙ ap (λ (k : Path). k ++ n ∷ []) (sym (same_path d q is)))
