-- Names in their order, put one by one into a set.
use Rattle.std.proofs.Common.{◌≡◌, List, [], ◌∷◌, ◌++◌, refl, sym, ◌∙◌, ap, append_assoc, append-nil}
use Rattle.std.specs.Prelude.{fold}
use Rattle.std.specs.List.{AllByRecursion}
use Rattle.std.specs.List.Sorted.{IsStrictlySortedBy}
use Rattle.std.specs.BTreeSet.{insert_key}
use Rattle.std.specs.declared.cmp.Ordering.{Ordering}
use Rattle.std.specs.declared.cmp.Ordering.TheVariants.{Less, Greater}
use Rattle.std.specs.Ordering.{ordering_reverse, match_ordering}
use Rattle.std.specs.Cmp.Lexicographic.{nat_list_cmp_total}
use Rattle.svn_types.specs.Names.{name_cmp}
use Rattle.svn_types.proofs.NameLemmas.{Name}

-- each of the names comes before the key
abbrev Above : List Name → Name → Type 0
Above done k = AllByRecursion (λ x. name_cmp x k ≡ Less) done

insert_last : (ks : List Name) (k : Name) → Above ks k → insert_key name_cmp ks k ≡ ks ++ k ∷ []
insert_last [] k h = refl
insert_last (x ∷ ks) k h = by (name_cmp k x) (nat_list_cmp_total.antisymm k x ∙ ap ordering_reverse h.0) (insert_last ks k h.1)
  where
    by : (o : Ordering) → o ≡ Greater → insert_key name_cmp ks k ≡ ks ++ k ∷ []
        → match_ordering o (k ∷ x ∷ ks) (x ∷ ks) (x ∷ insert_key name_cmp ks k) ≡ x ∷ ks ++ k ∷ []
    by o e ih = ap (λ p. match_ordering p (k ∷ x ∷ ks) (x ∷ ks) (x ∷ insert_key name_cmp ks k)) e ∙ ap (λ (l : List Name). x ∷ l) ih

above_one_more : (done : List Name) (k y : Name) → Above done y → name_cmp k y ≡ Less → Above (done ++ k ∷ []) y
above_one_more [] k y h l = (l, tt)
above_one_more (x ∷ done) k y h l = (h.0, above_one_more done k y h.1 l)

all_above : (done : List Name) (k : Name) (ks : List Name) → AllByRecursion (Above done) ks → AllByRecursion (λ y. name_cmp k y ≡ Less) ks
    → AllByRecursion (Above (done ++ k ∷ [])) ks
all_above done k [] h l = tt
all_above done k (y ∷ ks) h l = (above_one_more done k y h.0 l.0, all_above done k ks h.1 l.1)

fold_from : (ks done : List Name) → IsStrictlySortedBy name_cmp ks → AllByRecursion (Above done) ks
    → fold (insert_key name_cmp) done ks ≡ done ++ ks
unfolding IsStrictlySortedBy
fold_from [] done sorted h = sym (append-nil done)
fold_from (k ∷ ks) done sorted h =
    ap (λ l. fold (insert_key name_cmp) l ks) (insert_last done k h.0)
    ∙ fold_from ks (done ++ k ∷ []) sorted.1 (all_above done k ks h.1 sorted.0)
    ∙ append_assoc done (k ∷ []) ks

none_above : (ks : List Name) → AllByRecursion (Above []) ks
none_above [] = tt
none_above (k ∷ ks) = (tt, none_above ks)

-- sorted names, put into the empty set one by one, are the set
pub fold_sorted : (ks : List Name) → IsStrictlySortedBy name_cmp ks → fold (insert_key name_cmp) [] ks ≡ ks
fold_sorted ks sorted = fold_from ks [] sorted (none_above ks)
