use Rattle.std.proofs.Common.{cond, Some, None, sym, ap, ◌∙◌}
use Rattle.svn_lists.proofs.Options.{option_or_next}
use Rattle.svn_repo.specs.declared.change.CommitFault.TheVariants.{Missing}
use Rattle.svn_repo.specs.Drafts.{tree_in}
use Rattle.svn_repo.specs.Changes.{above_fault, missing_fault}
use Rattle.svn_repo.proofs.Standing.{stands_at}
use Rattle.svn_repo.proofs.refusal.find_node.Goals as goal

pub returns-in-Ok-Some-clause-no_fault : goal.returns-in-Ok-Some-clause-no_fault
returns-in-Ok-Some-clause-no_fault c = λ base.
    let names = c.args.names.now in
    let t = tree_in base c.args.nodes.now c.args.root in
    option_or_next (above_fault t names) (missing_fault (t names)) (c.in-Ok-Some.ensures.above base)
    ∙ ap (λ b. cond b None (Some Missing)) (stands_at base c.args.nodes.now c.args.root _ names c.requires.root_in c.requires.closed
    (sym c.in-Ok-Some.ensures.found ∙ c.in-Ok-Some.field-0-is))
