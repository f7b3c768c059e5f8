-- Lists that a loop makes of the nodes of a copy, one after the other.
use Rattle.std.proofs.Common.{◌≡◌, Bool, false, ◌||◌, List, [], ◌∷◌, ◌++◌, sym, ◌∙◌, ap, append_assoc, append-nil}
use Rattle.std.specs.List.{flat_map, list_any}

-- one more node, and what is left
pub next_node : {A : Type 0} → {B : Type 0} → (g : A → List B) (done more all : List B) (x : A) (rest items : List A) → items ≡ x ∷ rest
    → more ≡ done ++ g x → done ++ flat_map g items ≡ all → more ++ flat_map g rest ≡ all
next_node g done more all x rest items step now e =
    ap (λ l. l ++ flat_map g rest) now ∙ append_assoc done (g x) (flat_map g rest) ∙ ap (λ l. done ++ flat_map g l) (sym step) ∙ e

pub last_node : {A : Type 0} → {B : Type 0} → (g : A → List B) (done all : List B) (items : List A) → items ≡ [] → done ++ flat_map g items ≡ all → done ≡ all
last_node g done all items step e = sym (append-nil done) ∙ ap (λ l. done ++ flat_map g l) (sym step) ∙ e

-- one more that doesn't have it, and what is left
pub any_next : {A : Type 0} (f : A → Bool) (x : A) (rest items : List A) (all : Bool) → items ≡ x ∷ rest → f x ≡ false → list_any f items ≡ all
    → list_any f rest ≡ all
any_next f x rest items all step none e = sym (ap (λ b. b || list_any f rest) none) ∙ sym (ap (list_any f) step) ∙ e

pub any_last : {A : Type 0} (f : A → Bool) (items : List A) (all : Bool) → items ≡ [] → list_any f items ≡ all → all ≡ false
any_last f items all step e = sym e ∙ ap (list_any f) step
