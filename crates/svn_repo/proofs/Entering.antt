-- What holds of the entries of each node of a draft, after a node is added and after a child is put.
use Rattle.std.proofs.Common.{◌≡◌, ℕ, ◌<◌, ◌≤◌, List, [], ◌∷◌, ◌++◌, length, refl, arith, Option, Some, None, subst, sym, ap, ◌⊎◌, inl, inr}
use Rattle.std.proofs.Common.{length-append}
use Rattle.std.specs.List.{All}
use Rattle.std.specs.Map.{keys_of}
use Rattle.std.specs.Option.{option_map}
use Rattle.std.proofs.lemmas.Bool.{cases_lt, cases_eq}
use Rattle.std.proofs.lemmas.Option.{slice_get_past}
use Rattle.std.proofs.lemmas.List.Elements.{All-nil}
use Rattle.svn_lists.proofs.Places.{slice_get-append, slice_get-push}
use Rattle.svn_repo.specs.declared.store.Node.{Node}
use Rattle.svn_types.specs.Names.{IsName}
use Rattle.svn_types.specs.Pairs.{InNameOrder, value_of, with_value}
use Rattle.svn_repo.specs.History.{NodeRow, entries_at, child_in}
use Rattle.svn_repo.specs.Stored.{row_of, rows, entries_of}
use Rattle.svn_repo.specs.Drafts.{IsDraftEntries, PutsChild}
use Rattle.svn_name_map.proofs.Pairs.{in_order-nil, in_order-with_value, names-with_value, values-with_value, all_values}

pub children_found : (o : Option NodeRow) (name : List ℕ) → value_of (entries_at o) name ≡ child_in o name
children_found None name = refl
children_found (Some row) name = refl

pub no_entries : (base n : ℕ) (es : List (List ℕ × ℕ)) → es ≡ [] → IsDraftEntries base n es
no_entries base n es e = rw e (record {
  in_order = in_order-nil ℕ;
  named = All-nil IsName;
  later =
      λ h. All-nil (λ m. (m < base) ⊎ (n < m));
})

-- entries that all lead to old nodes
pub old_entries : (base n : ℕ) (es : List (List ℕ × ℕ)) → InNameOrder es → All IsName (keys_of es)
    → ((name : List ℕ) (m : ℕ) → value_of es name ≡ Some m → m < base) → IsDraftEntries base n es
old_entries base n es order named old = record {
  in_order = order;
  named = named;
  later = λ h. all_values (λ m. (m < base) ⊎ (n < m)) es order (λ name m e. inl (old name m e));
}

pub put_entries : (base n : ℕ) (es : List (List ℕ × ℕ)) (name : List ℕ) (child : Option ℕ) → IsDraftEntries base n es → IsName name
    → ((c : ℕ) → child ≡ Some c → (c < base) ⊎ (n < c)) → IsDraftEntries base n (with_value es name child)
put_entries base n es name child before is_name later = record {
  in_order = in_order-with_value es name child before.in_order;
  named = names-with_value IsName es name child before.named is_name;
  later = λ h. values-with_value (λ m. (m < base) ⊎ (n < m)) es name child (before.later h) later;
}

pub each-push : (base : ℕ) (old : List Node) (node : Node) → ((n : ℕ) → IsDraftEntries base n (entries_at (rows old n)))
    → IsDraftEntries base (length old) (entries_of node.content) → (n : ℕ) → IsDraftEntries base n (entries_at (rows (old ++ node ∷ []) n))
each-push base old node each last n = elim (cases_lt n (length old)) [
  | inl h ↦
      let e : entries_at (rows old n) ≡ entries_at (rows (old ++ node ∷ []) n) =
      ap (λ o. entries_at (option_map row_of o)) (sym (slice_get-append old (node ∷ []) n h)) in
      subst (IsDraftEntries base n) e (each n)
  | inr h ↦ elim (cases_eq n (length old)) [
    | inl same ↦
        let e : entries_of node.content ≡ entries_at (rows (old ++ node ∷ []) (length old)) =
        ap (λ o. entries_at (option_map row_of o)) (sym (slice_get-push old node)) in
        subst (λ k. IsDraftEntries base k (entries_at (rows (old ++ node ∷ []) k))) (sym same)
        (subst (IsDraftEntries base (length old)) e last)
    | inr other ↦
        let past : length (old ++ node ∷ []) ≤ n = omega (arith, length-append old (node ∷ [])) in
        no_entries base n (entries_at (rows (old ++ node ∷ []) n))
        (ap (λ o. entries_at (option_map row_of o)) (slice_get_past (old ++ node ∷ []) n past))
  ]
]

pub each-put : (base : ℕ) (mid new : List Node) (at : ℕ) (name : List ℕ) (child : Option ℕ)
    → ((n : ℕ) → IsDraftEntries base n (entries_at (rows mid n))) → PutsChild mid new at name child
    → ((c : ℕ) → child ≡ Some c → (c < base) ⊎ (at < c)) → (n : ℕ) → IsDraftEntries base n (entries_at (rows new n))
each-put base mid new at name child each put later n = elim (cases_eq n at) [
  | inl same ↦ subst (λ k. IsDraftEntries base k (entries_at (rows new k))) (sym same)
      (subst (IsDraftEntries base at) (sym put.entries) (put_entries base at (entries_at (rows mid at)) name child
      (each at) put.named later))
  | inr ne ↦ subst (IsDraftEntries base n) (ap (λ o. entries_at (option_map row_of o)) (sym (put.others n ne))) (each n)
]
