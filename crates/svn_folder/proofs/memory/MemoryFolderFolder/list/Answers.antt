use Rattle.std.proofs.Common.{sym, ◌∙◌}
use Rattle.svn_folder.specs.Memory.{state_of}
use Rattle.svn_folder.proofs.Listed.{listed}
use Rattle.svn_folder.proofs.memory.MemoryFolderFolder.list.Goals as goal

pub returns : goal.returns
returns c =
    listed (state_of c.args.self.now) c.args.path.now c.in_ok-names_in.field-0 c.in_ok-in_order.field-0.items
    (sym c.in_ok-is_directory.ensures ∙ c.if-not-branch.false) c.in_ok-names_in.ensures c.in_ok-in_order.ensures.names c.in_ok-in_order.ensures.ascending
