use Rattle.std.proofs.Common.{subst, List}
use Rattle.svn_types.specs.Names.{Path}
use Rattle.svn_editor.specs.declared.mode.Mode.TheVariants.{SwitchTo}
use Rattle.svn_model.specs.declared.base_node.BaseNode.{BaseNode}
use Rattle.svn_model.specs.Nodes.{get_in}
use Rattle.svn_wc.specs.Unswitched.{IsLevel}
use Rattle.svn_wc.proofs.ShapeKept.{begun_in_shape}
use Rattle.svn_wc.proofs.applier.Applier.new_switch.Goals as goal

pub returns-clause-begun : goal.returns-clause-begun
returns-clause-begun c = c.in_ok-edit.ensures.begun (SwitchTo c.args.to.now) c.args.copy.now

pub invariant_of-result : goal.invariant_of-result
invariant_of-result c =
    let nodes = c.args.copy.now in
    record {
      in_shape = ∣ begun_in_shape (SwitchTo c.in-Ok.root) _ c.in_ok-edit.edit nodes (λ known.
          subst (λ (l : List (Path × BaseNode)). IsLevel (get_in l)) c.copy.view_is (c.copy.invariant.2 known))
          (c.in_ok-edit.ensures.begun (SwitchTo c.in-Ok.root) nodes)
          c.law.ensures.shape ∣₁;
    }
