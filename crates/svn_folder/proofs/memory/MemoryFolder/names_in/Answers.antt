use Rattle.svn_folder.proofs.Listed.{all_names}
use Rattle.svn_folder.proofs.memory.MemoryFolder.names_in.Goals as goal

pub returns : goal.returns
returns c =
    all_names c.args.self.now.steps.items c.names.rest.now c.args.path.now c.names.names c.in_default.ensures.cases c.names.invariant
