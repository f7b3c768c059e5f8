-- A path is forgotten: its node is no longer present, and those below it go.
use Rattle.std.proofs.Common.{◌≡◌, Bool, true, false, ◌&&◌, not, cond, [], ◌∷◌, refl, sym, ◌∙◌, true≢false}
use Rattle.std.specs.Prelude.{Option, Some, None}
use Rattle.std.specs.Option.{option_map}
use Rattle.svn_types.specs.Names.{Path}
use Rattle.svn_types.specs.Paths.{path_eq, is_within, is_below, is_root}
use Rattle.svn_model.specs.declared.base_node.BaseNode.{BaseNode}
use Rattle.svn_model.specs.declared.base_node.BaseNode.TheVariants.{NotPresent}
use Rattle.svn_model.specs.Nodes.{WorkingCopy, is_present}
use Rattle.svn_model.specs.Builders.{forgotten}
use Rattle.svn_model.specs.Refusals.{forget_fault}
use Rattle.svn_model.specs.declared.wc_fault.WcFault.TheVariants.{IsRoot, Missing}

pub absent_forgotten : (w : WorkingCopy) (at p : Path) → is_present (w at) ≡ true
    → cond (is_below at p) None (cond (path_eq at p) (option_map (λ (n : BaseNode). NotPresent) (w at)) (w p)) ≡ forgotten w at p
absent_forgotten w at p present = by (path_eq at p) (is_within at p) (w at) present
  where
    by : (a b : Bool) (o : Option BaseNode) → is_present o ≡ true
        → cond (b && not a) None (cond a (option_map (λ (n : BaseNode). NotPresent) o) (w p)) ≡ cond a (Some NotPresent) (cond b None (w p))
    by true b None h = absurd (true≢false (sym h))
    by true true (Some n) h = refl
    by true false (Some n) h = refl
    by false true o h = refl
    by false false o h = refl

-- a test for the root
pub not_root : (p : Path) (b : Bool) → (p ≡ [] → b ≡ true) → b ≡ false → is_root p ≡ false
not_root [] b root other = absurd (true≢false (sym (root refl) ∙ other))
not_root (n ∷ p) b root other = refl

pub may_forget : (w : WorkingCopy) (at : Path) → is_root at ≡ false → is_present (w at) ≡ true → forget_fault w at ≡ None
may_forget w at root present = (λ i. cond (root i) (Some IsRoot) (cond (not (present i)) (Some Missing) None))
