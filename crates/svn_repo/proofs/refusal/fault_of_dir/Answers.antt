use Rattle.std.proofs.Common.{sym, ◌∙◌}
use Rattle.svn_lists.proofs.Options.{option_or_next}
use Rattle.svn_repo.specs.Drafts.{tree_in}
use Rattle.svn_repo.specs.Changes.{root_fault, directory_fault_at, depth_fault}
use Rattle.svn_repo.proofs.Faults.{taken_path}
use Rattle.svn_repo.proofs.Standing.{stands_at}
use Rattle.svn_repo.proofs.refusal.fault_of_dir.Goals as goal

pub returns-in-Ok-Some : goal.returns-in-Ok-Some
returns-in-Ok-Some c = λ base.
    let names = c.args.names.now in
    let t = tree_in base c.args.nodes.now c.args.root in
    sym (option_or_next (root_fault names) (directory_fault_at t names) (sym c.fault_of_root.ensures ∙ c.in_default.is)
    ∙ taken_path t names (depth_fault names) (c.in-Ok-Some.ensures.above base)
    (stands_at base c.args.nodes.now c.args.root _ names c.requires.root_in c.requires.closed
    (sym c.in-Ok-Some.ensures.found ∙ c.in-Ok-Some.field-0-is)))
