use Rattle.std.proofs.Common.{◌≡◌, None, length, sym, ap, ◌∙◌}
use Rattle.std.specs.Option.{option_or}
use Rattle.svn_repo.specs.Drafts.{past_in, tree_in}
use Rattle.svn_repo.specs.Changes.{root_fault, copy_fault}
use Rattle.svn_repo.proofs.OldRevisions.{copy_fault_from}
use Rattle.svn_repo.proofs.refusal.fault_of_copy.Goals as goal

pub returns : goal.returns
returns c = λ l.
    let base = length c.args.past.now.heights.now in
    let nodes = c.args.nodes.now in
    let names = c.args.to.now.names.now in
    let not_root : root_fault names ≡ None = sym c.fault_of_root.ensures ∙ c.in_default.is in
    let old = c.requires.past.old in
    let from = copy_fault_from base c.args.past.now.roots.now nodes old.inside c.requires.past.roots_in old.closed l c.args.source.now.rev
    c.in-Some-get.root
    (tree_in base nodes c.args.to.now.root) c.args.source.now.names.now names (sym c.get.ensures ∙ c.in-Some-get.is) in
    c.fault_below_top.ensures base
    ∙ sym (ap (λ o. option_or o (copy_fault (past_in base c.args.past.now.roots.now nodes l)
    (tree_in base nodes c.args.to.now.root) c.args.source.now.rev c.args.source.now.names.now names)) not_root ∙ from)
