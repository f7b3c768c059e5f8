-- The entries of a directory: their names, and where each is below a path.
use Rattle.std.proofs.Common.{◌≡◌, ◌≢◌, ℕ, Bool, true, false, ◌||◌, List, [], ◌∷◌, refl, sym, ◌∙◌, ap, subst}
use Rattle.std.specs.Prelude.{Some, None, cond, bytes_eq}
use Rattle.std.proofs.lemmas.Bool.{or_right}
use Rattle.svn_lists.proofs.Equality.{bytes_eq-same, same_bytes}
use Rattle.svn_types.specs.Names.{Path, IsName}
use Rattle.svn_types.specs.Paths.{child}
use Rattle.svn_types.specs.Pairs.{value_of}
use Rattle.svn_types.proofs.NameLemmas.{Name, value_of-first, has_name}
use Rattle.svn_repo.specs.Readings.{AllNames}
use Rattle.svn_model.specs.Nodes.{WorkingCopy, HasEntries}

pub allowed_name : (es : List (List ℕ × ℕ)) (name : Name) (n : ℕ) → AllNames es → value_of es name ≡ Some n → IsName name
allowed_name [] name n a e = absurd (none e)
  where
    none : None ≡ Some n → ⊥
    none q = cc
allowed_name (x ∷ es) name n a e = by (bytes_eq x.0 name) refl (sym (value_of-first x es name) ∙ e) (allowed_name es name n a.1)
  where
    by : (b : Bool) → bytes_eq x.0 name ≡ b → cond b (Some x.1) (value_of es name) ≡ Some n → (value_of es name ≡ Some n → IsName name)
        → IsName name
    by true q k ih = subst IsName (same_bytes x.0 name q) a.0
    by false q k ih = ih k

-- where each of the names has an entry, all have
pub entries_stand : (v : WorkingCopy) (p : Path) (names : List (List ℕ))
    → ((name : Name) → has_name names name ≡ true → v (child p name) ≢ None) → HasEntries v p names
entries_stand v p [] h = tt
entries_stand v p (name ∷ names) h = (
  h name (ap (λ b. b || has_name names name) (bytes_eq-same name)),
  entries_stand v p names (λ m e. h m (or_right (bytes_eq name m) (has_name names m) e)),
)

pub entries_kept : (v w : WorkingCopy) (p : Path) (names : List (List ℕ))
    → ((name : Name) → w (child p name) ≢ None → v (child p name) ≢ None) → HasEntries w p names → HasEntries v p names
entries_kept v w p [] f h = tt
entries_kept v w p (name ∷ names) f h = (f name h.0, entries_kept v w p names f h.1)
