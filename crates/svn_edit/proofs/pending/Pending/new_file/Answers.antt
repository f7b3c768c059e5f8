use Rattle.std.proofs.Common.{sym, subst}
use Rattle.std.specs.Prelude.{Option}
use Rattle.svn_editor.specs.declared.fault.EditFault.{EditFault}
use Rattle.svn_model.specs.declared.base_node.BaseNode.TheVariants.{NotPresent}
use Rattle.svn_edit.specs.Applying.{MakesNode}
use Rattle.svn_edit.proofs.pending.Pending.new_file.Goals as goal

pub returns : goal.returns
returns c =
    subst (λ (f : Option EditFault). MakesNode c.args.path.now f NotPresent c.file_below.result) (sym c.in_ok-test_joined.ensures)
    c.file_below.ensures
