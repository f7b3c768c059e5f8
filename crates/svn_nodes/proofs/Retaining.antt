-- What a walk over all nodes leaves of them, where a test of their paths decides.
use Rattle.std.proofs.Common.{◌≡◌, Bool, true, false, cond, List, [], ◌∷◌, refl, sym, ◌∙◌, ap, subst}
use Rattle.std.specs.Prelude.{Option, Some, None, option_and_then}
use Rattle.std.specs.BTreeMap.{is_at}
use Rattle.std.specs.Map.{keys_of}
use Rattle.std.specs.Map.Calls.{RetainsPairs}
use Rattle.std.proofs.lemmas.Map.Keys.{sorted_tail}
use Rattle.svn_types.specs.Names.{Path, path_cmp}
use Rattle.svn_types.proofs.PathLemmas.{same_path}
use Rattle.svn_model.specs.declared.base_node.BaseNode.{BaseNode}
use Rattle.svn_model.specs.Nodes.{get_in, InPathOrder}
use Rattle.law_copy.proofs.Lookups.{at_path}
use Rattle.law_copy.proofs.NodeLists.{absent_after}

module _ (keep : Path → Bool) where
  -- what a walk leaves of a node
  abbrev pub left_of : Path → Option BaseNode → Option BaseNode
  left_of p o = option_and_then (λ n. cond (keep p) (Some n) None) o

  pub retained_by : {F : Type 0} (T : F → Path → BaseNode → Bool → BaseNode → F → Type 0) (f : F)
      → ((k : Path) (v : BaseNode) (b : Bool) (w : BaseNode) (g : F) → T f k v b w g → (b ≡ keep k) × (w ≡ v) × (g ≡ f))
      → (es kept : List (Path × BaseNode)) → InPathOrder es → RetainsPairs T f es kept
      → (p : Path) → get_in kept p ≡ left_of p (get_in es p)
  retained_by T f each [] kept order h p = ap (λ (l : List (Path × BaseNode)). get_in l p) h
  retained_by {F} T f each (e ∷ es) kept order h p =
      let step = each e.0 e.1 h.0 h.1 h.2 h.4 in
      let rest : get_in h.3 p ≡ left_of p (get_in es p) =
      retained_by T f each es h.3 (sorted_tail path_cmp e.0 (keys_of es) order) (along h.2 step.2 h.5) p in
      ap (λ (l : List (Path × BaseNode)). get_in l p) h.6
      ∙ (λ i. get_in (cond (step.0 i) ((e.0, step.1 i) ∷ h.3) h.3) p)
      ∙ by (is_at (path_cmp p) e.0) refl (keep e.0) refl rest
    where
      along : (g : F) → g ≡ f → RetainsPairs T g es h.3 → RetainsPairs T f es h.3
      along g s x = let P : F → Type 0 = λ y. RetainsPairs T y es h.3 in subst P s x

      by : (a : Bool) → is_at (path_cmp p) e.0 ≡ a → (b : Bool) → keep e.0 ≡ b → get_in h.3 p ≡ left_of p (get_in es p)
          → get_in (cond b (e ∷ h.3) h.3) p ≡ left_of p (cond a (Some e.1) (get_in es p))
      by true x true y rest =
          let same : p ≡ e.0 = same_path p e.0 (sym (at_path p e.0) ∙ x) in
          ap (λ b. cond b (Some e.1) (get_in h.3 p)) x ∙ sym (ap (λ b. cond b (Some e.1) None) (ap keep same ∙ y))
      by true x false y rest =
          let same : p ≡ e.0 = same_path p e.0 (sym (at_path p e.0) ∙ x) in
          rest ∙ ap (left_of p) (ap (get_in es) same ∙ absent_after e es order)
          ∙ sym (ap (λ b. cond b (Some e.1) None) (ap keep same ∙ y))
      by false x true y rest = ap (λ b. cond b (Some e.1) (get_in h.3 p)) x ∙ rest
      by false x false y rest = rest
