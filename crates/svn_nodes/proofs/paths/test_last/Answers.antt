use Rattle.std.proofs.Common.{◌≡◌, ◌+◌, [], ◌∷◌, length, Bool, true, false, not, refl, sym, ◌∙◌, length-append, true≢false}
use Rattle.std.specs.Prelude.{IsTrue, ◌↔◌}
use mir.Val.{bool_byte}
use Rattle.svn_types.specs.Names.{Path}
use Rattle.svn_types.specs.Paths.{last_name}
use Rattle.svn_nodes.proofs.paths.test_last.Goals as goal

-- every path but the root has a last name
one_name : (p : Path) (root : Bool) → (IsTrue root ↔ (p ≡ [])) → length (last_name p) ≡ bool_byte (not root)
one_name [] true h = refl
one_name [] false h = absurd (true≢false (sym (h.1 refl)))
one_name (n ∷ p) true h = let none = h.0 refl in cc
one_name (n ∷ []) false h = refl
one_name (m ∷ n ∷ p) false h = one_name (n ∷ p) false (λ t. absurd (true≢false (sym t)), λ e. cc)

pub returns : goal.returns
returns c =
    c.test_depth.ensures _ (length-append c.args.above.now (last_name c.args.path.now)
    ∙ (λ i. length (sym c.components.ensures.names i) + (one_name c.args.path.now c.is_root.result c.is_root.ensures
    ∙ sym c.from.ensures) i))
