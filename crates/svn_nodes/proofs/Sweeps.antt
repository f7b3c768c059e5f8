-- One entry of a directory after the other.
use Rattle.std.proofs.Common.{◌≡◌, ℕ, Bool, true, false, cond, List, [], ◌∷◌, ◌++◌, refl, sym, ap, subst, ◌∙◌, Option, Some, None}
use Rattle.std.specs.Prelude.{bytes_eq}
use Rattle.std.specs.Option.{is_some}
use Rattle.std.specs.Ordering.{eq_by_cmp}
use Rattle.std.specs.List.{AllByRecursion, IsDistinct}
use Rattle.std.proofs.lemmas.Map.Keys.{IsDistinct-from_sorted, sorted_tail}
use Rattle.std.specs.Map.{keys_of}
use Rattle.std.proofs.lemmas.Slice.Eq.{bytes_eq-Decides}
use Rattle.svn_lists.proofs.Equality.{bytes_eq-same, bytes_eq-symm}
use Rattle.svn_types.specs.Names.{Path, name_cmp}
use Rattle.svn_types.specs.Pairs.{InNameOrder, value_of}
use Rattle.svn_types.proofs.NameLemmas.{at_name}
use Rattle.svn_types.proofs.PathLemmas.{outside_child, within_shorter, within_other}
use Rattle.svn_model.specs.declared.base_node.BaseNode.{BaseNode}
use Rattle.svn_model.specs.Nodes.{WorkingCopy}
use Rattle.svn_nodes.specs.Standing.{IsSwept, SameOutside, AreAmong}

pub value_of-cons : {V : Type 0} (e : List ℕ × V) (es : List (List ℕ × V)) (name : List ℕ)
    → value_of (e ∷ es) name ≡ cond (bytes_eq name e.0) (Some e.1) (value_of es name)
value_of-cons e es name = ap (λ b. cond b (Some e.1) (value_of es name)) (at_name name e.0)

pub value_of-first : {V : Type 0} (e : List ℕ × V) (es : List (List ℕ × V)) → value_of (e ∷ es) e.0 ≡ Some e.1
value_of-first e es = value_of-cons e es e.0 ∙ ap (λ b. cond b (Some e.1) (value_of es e.0)) (bytes_eq-same e.0)

-- a name before all others isn't among them
absent : {V : Type 0} (name : List ℕ) (es : List (List ℕ × V)) → AllByRecursion (λ x. eq_by_cmp name_cmp name x ≡ false) (keys_of es)
    → value_of es name ≡ None
absent name [] h = refl
absent name (e ∷ es) h = ap (λ b. cond b (Some e.1) (value_of es name)) h.0 ∙ absent name es h.1

-- the first entry is taken
module _ (V : Type 0) (e : List ℕ × V) (left : List (List ℕ × V)) (order : InNameOrder (e ∷ left)) where
  not_again : value_of left e.0 ≡ None
  unfolding IsDistinct
  not_again = absent e.0 left (IsDistinct-from_sorted name_cmp (keys_of (e ∷ left)) order).0

  later : (name : List ℕ) → bytes_eq e.0 name ≡ false → value_of (e ∷ left) name ≡ value_of left name
  later name h = value_of-cons e left name ∙ ap (λ b. cond b (Some e.1) (value_of left name)) (bytes_eq-symm name e.0 ∙ h)

  pub among_left : (all : List (List ℕ × V)) → AreAmong (e ∷ left) all → AreAmong left all
  among_left all among name v h = by (bytes_eq e.0 name) refl
    where
      by : (b : Bool) → bytes_eq e.0 name ≡ b → value_of all name ≡ Some v
      by true t =
          let s : e.0 ≡ name = (bytes_eq-Decides e.0 name).0 t in
          let none : value_of left name ≡ None = ap (value_of left) (sym s) ∙ not_again in
          cc
      by false f = among name v (later name f ∙ h)

  pub swept_on : (q : Path) (before after : List ℕ → Path → Option BaseNode → Type 0) (w0 w w' : WorkingCopy)
      → IsSwept q (e ∷ left) before after w0 w → ((r : Path) → after e.0 r (w' (q ++ e.0 ∷ r))) → SameOutside (q ++ e.0 ∷ []) w w'
      → IsSwept q left before after w0 w'
  swept_on q before after w0 w w' swept inside outside = record {
    order = sorted_tail name_cmp e.0 (keys_of left) order;
    here = outside q (within_shorter q e.0 []) ∙ swept.here;
    outside = λ p h. outside p (outside_child q e.0 p h) ∙ swept.outside p h;
    waiting = λ name h r. waits name h r (bytes_eq e.0 name) refl;
    done = λ name h r. is_done name h r (bytes_eq e.0 name) refl;
  }
    where
      moved : (name : List ℕ) (r : Path) → bytes_eq e.0 name ≡ false → w' (q ++ name ∷ r) ≡ w (q ++ name ∷ r)
      moved name r f = outside (q ++ name ∷ r) (within_other q r e.0 name f)

      waits : (name : List ℕ) → is_some (value_of left name) ≡ true → (r : Path) (b : Bool) → bytes_eq e.0 name ≡ b
          → before name r (w' (q ++ name ∷ r))
      waits name h r true t =
          let s : e.0 ≡ name = (bytes_eq-Decides e.0 name).0 t in
          let none : is_some (value_of left name) ≡ false = ap (λ x. is_some (value_of left x)) (sym s) ∙ ap is_some not_again in
          cc
      waits name h r false f = subst (before name r) (sym (moved name r f)) (swept.waiting name (ap is_some (later name f) ∙ h) r)

      is_done : (name : List ℕ) → is_some (value_of left name) ≡ false → (r : Path) (b : Bool) → bytes_eq e.0 name ≡ b
          → after name r (w' (q ++ name ∷ r))
      is_done name h r true t =
          let s : e.0 ≡ name = (bytes_eq-Decides e.0 name).0 t in
          subst (λ (x : List ℕ). after x r (w' (q ++ x ∷ r))) s (inside r)
      is_done name h r false f = subst (after name r) (sym (moved name r f)) (swept.done name (ap is_some (later name f) ∙ h) r)
