-- What writing the entries of one directory does to the nodes.
use Rattle.std.proofs.Common.{◌≡◌, ℕ, ◌-◌, ◌<◌, ◌≤◌, ◌++◌, List, ◌∷◌, [], length, refl, ap, sym, subst, ◌∙◌, Option, Some, None, arith}
use Rattle.std.proofs.Common.{inl, inr, length-append}
use Rattle.std.proofs.lemmas.Bool.{cases_lt, cases_eq}
use Rattle.std.specs.List.{slice_get, slice_set}
use Rattle.std.specs.Option.{option_map}
use Rattle.std.proofs.lemmas.Grind.{common_steps}
use Rattle.std.proofs.lemmas.Option.{slice_get_within}
use Rattle.svn_lists.proofs.Places.{slice_get-append, slice_get-append_right, slice_get-set_other, slice_get-set_same}
use Rattle.svn_repo.specs.declared.store.Node.{Node}
use Rattle.svn_repo.specs.declared.store.Content.TheVariants.{Listing}
use Rattle.svn_types.specs.Names.{IsName}
use Rattle.svn_types.specs.Pairs.{ChangesOnly, with_value}
use Rattle.svn_repo.specs.History.{child_in}
use Rattle.svn_repo.specs.Stored.{row_of, rows}
use Rattle.svn_repo.specs.Trees.{place_of}
use Rattle.svn_repo.specs.Drafts.{PutsChild, ThawsChild, copied, shape_at}

-- a directory with other entries
abbrev pub listing : Node → List (List ℕ × ℕ) → Node
listing node entries = record { line = node.line; props = node.props; content = Listing entries }

pub puts_child : (old : List Node) (at : ℕ) (node : Node) (es fs : List (List ℕ × ℕ)) (name : List ℕ) (child : Option ℕ)
    → slice_get old at ≡ Some node → node.content ≡ Listing es → ChangesOnly es fs name child → fs ≡ with_value es name child → IsName name
    → PutsChild old (slice_set old at (listing node fs)) at name child
puts_child old at node es fs name child here is changes written is_name =
    let now : slice_get (slice_set old at (listing node fs)) at ≡ Some (listing node fs) =
    slice_get-set_same old at (listing node fs) (slice_get_within old at node here) in
    let row_now : rows (slice_set old at (listing node fs)) at ≡ Some (row_of (listing node fs)) = ap (option_map row_of) now in
    let was : node ≡ listing node es = ap (λ c. record node { content = c }) is in
    let row_was : rows old at ≡ Some (row_of (listing node es)) = ap (option_map row_of) (here ∙ ap Some was) in
    record {
      size = grind (arith, common_steps);
      others = slice_get-set_other old at (listing node fs);
      shape = rw (row_now, row_was) refl;
      children = λ x. rw (row_now, row_was) (changes x);
      entries = rw (row_now, row_was) written;
      named = is_name;
    }

-- no node but for its entries changes
pub shape_put : (old new : List Node) (at : ℕ) (name : List ℕ) (child : Option ℕ) → PutsChild old new at name child → (m : ℕ)
    → shape_at new m ≡ shape_at old m
shape_put old new at name child put m = elim (cases_eq m at) [
  | inl e ↦ subst (λ k. shape_at new k ≡ shape_at old k) (sym e) put.shape
  | inr ne ↦ ap (λ o. option_map (place_of None) (option_map row_of o)) (put.others m ne)
]

-- a child is put, and then a node after the others: in the other order all is the same
pub puts_pushed : (old new : List Node) (node : Node) (at : ℕ) (name : List ℕ) (child : Option ℕ) → at < length old
    → PutsChild old new at name child → PutsChild (old ++ node ∷ []) (new ++ node ∷ []) at name child
puts_pushed old new node at name child below put =
    let was : slice_get (old ++ node ∷ []) at ≡ slice_get old at = slice_get-append old (node ∷ []) at below in
    let now : slice_get (new ++ node ∷ []) at ≡ slice_get new at = slice_get-append new (node ∷ []) at (omega (arith, below, put.size)) in
    let row_was : rows (old ++ node ∷ []) at ≡ rows old at = ap (option_map row_of) was in
    let row_now : rows (new ++ node ∷ []) at ≡ rows new at = ap (option_map row_of) now in
    record {
      size = omega (arith, put.size, length-append old (node ∷ []), length-append new (node ∷ []));
      others = λ m ne. elim (cases_lt m (length old)) [
        | inl h ↦
            slice_get-append new (node ∷ []) m (omega (arith, h, put.size)) ∙ put.others m ne ∙ sym (slice_get-append old (node ∷ []) m h)
        | inr h ↦
            slice_get-append_right new (node ∷ []) m (omega (arith, h, put.size)) ∙ ap (λ k. slice_get (node ∷ []) (m - k)) put.size
            ∙ sym (slice_get-append_right old (node ∷ []) m h)
      ];
      shape = rw (row_now, row_was) put.shape;
      children = λ x. rw (row_now, row_was) (put.children x);
      entries = rw (row_now, row_was) put.entries;
      named = put.named;
    }

-- the name of an old child is made to lead to its copy, and then the copy is appended to the others
pub copied_behind : (base : ℕ) (old mid new : List Node) (at n : ℕ) (name : List ℕ) (node : Node)
    → child_in (rows old at) name ≡ Some n → n < base → base ≤ at → at < length old → PutsChild old mid at name (Some (length old))
    → new ≡ mid ++ node ∷ [] → rows mid n ≡ Some (row_of node) → ThawsChild base old new at name (length old)
copied_behind base old mid new at n name node found is_old fresh below put pushed row =
    let same : rows mid n ≡ rows old n = ap (option_map row_of) (put.others n (λ e. absurd (omega arith))) in
    subst (λ nodes. ThawsChild base old nodes at name (length old)) (sym pushed)
    (copied n (old ++ node ∷ []) found is_old refl (node, refl, sym same ∙ row) (puts_pushed old mid node at name (Some (length old)) below put))
