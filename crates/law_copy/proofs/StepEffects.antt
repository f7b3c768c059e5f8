-- What one step does at each path.
use Rattle.std.proofs.Common.{◌≡◌, ℕ, Bool, true, false, cond, List, refl, sym, ◌∙◌, ap}
use Rattle.std.specs.Prelude.{Option, None}
use Rattle.svn_types.specs.Names.{Path}
use Rattle.svn_types.specs.Paths.{path_eq, is_within}
use Rattle.svn_types.proofs.PathLemmas.{same_path, is_within-same}
use Rattle.svn_editor.specs.declared.mode.Mode.{Mode}
use Rattle.svn_editor.specs.Steps.{Action, Delete, Step}
use Rattle.svn_model.specs.declared.base_node.BaseNode.{BaseNode}
use Rattle.svn_model.specs.Nodes.{WorkingCopy}
use Rattle.svn_model.specs.Effects.{stepped, below_after, step_effect}

-- a step that is no delete changes its own path alone
pub effect_alone : (mode : Mode) (target : ℕ) (earlier : List Step) (p : Path) (a : Action) (w : WorkingCopy)
    → ((o : Option BaseNode) → below_after a o ≡ o) → (q : Path)
    → step_effect mode target earlier (record { path = p; action = a }) w q ≡ cond (path_eq p q) (stepped mode target earlier w p a) (w q)
effect_alone mode target earlier p a w still q = by (path_eq p q) (is_within p q)
  where
    by : (b c : Bool)
        → cond b (stepped mode target earlier w p a) (cond c (below_after a (w q)) (w q)) ≡ cond b (stepped mode target earlier w p a) (w q)
    by true c = refl
    by false true = still (w q)
    by false false = refl

-- one that leaves its own path too changes nothing
pub effect_none : (mode : Mode) (target : ℕ) (earlier : List Step) (p : Path) (a : Action) (w : WorkingCopy)
    → ((o : Option BaseNode) → below_after a o ≡ o) → stepped mode target earlier w p a ≡ w p → (q : Path)
    → w q ≡ step_effect mode target earlier (record { path = p; action = a }) w q
effect_none mode target earlier p a w still same q = sym (effect_alone mode target earlier p a w still q ∙ by (path_eq p q) refl)
  where
    by : (b : Bool) → path_eq p q ≡ b → cond b (stepped mode target earlier w p a) (w q) ≡ w q
    by true e = same ∙ ap w (same_path p q e)
    by false e = refl

-- a delete takes away what is at the path and below
pub effect_delete : (mode : Mode) (target : ℕ) (earlier : List Step) (p : Path) (rev : ℕ) (w : WorkingCopy) (q : Path)
    → cond (is_within p q) None (w q) ≡ step_effect mode target earlier (record { path = p; action = Delete rev }) w q
effect_delete mode target earlier p rev w q = by (path_eq p q) refl
  where
    by : (b : Bool) → path_eq p q ≡ b → cond (is_within p q) None (w q) ≡ cond b None (cond (is_within p q) None (w q))
    by true e = ap (λ c. cond c None (w q)) (ap (is_within p) (sym (same_path p q e)) ∙ is_within-same p)
    by false e = refl
