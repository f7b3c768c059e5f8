use Rattle.std.proofs.Common.{refl}
use Rattle.svn_folder.specs.Memory.{state_of}
use Rattle.svn_folder.proofs.Back.{clear_at_last}
use Rattle.svn_folder.proofs.Made.{empty_if_clear}
use Rattle.svn_folder.proofs.memory.MemoryFolder.is_empty.Goals as goal

pub returns : goal.returns
returns c = (
  λ t. empty_if_clear c.args.self.now.steps.items c.args.path.now
      (c.names.invariant.1 (clear_at_last (state_of c.args.self.now) c.args.path.now c.names.rest.now c.in_default.ensures.cases)),
  λ none. refl,
)
