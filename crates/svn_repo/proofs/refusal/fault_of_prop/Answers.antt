use Rattle.std.proofs.Common.{sym, ◌∙◌}
use Rattle.svn_lists.proofs.Options.{option_or_next, some_value}
use Rattle.svn_repo.specs.Drafts.{tree_in}
use Rattle.svn_repo.specs.Changes.{value_fault, walk_fault}
use Rattle.svn_repo.proofs.Known.{no_walk_fault}
use Rattle.svn_repo.proofs.refusal.fault_of_prop.Goals as goal

pub returns-then-is_some : goal.returns-then-is_some
returns-then-is_some c = λ base.
    let names = c.args.names.now in
    let t = tree_in base c.args.nodes.now c.args.root in
    let known = some_value c.args.near.now (sym c.is_some.ensures ∙ c.if-is_some.true) in
    sym (option_or_next (value_fault c.args.value.now) (walk_fault t names) (sym c.fault_of_value.ensures ∙ c.in_default.is)
    ∙ no_walk_fault base c.args.nodes.now c.args.root known.0 names c.requires.root_in c.requires.closed (c.requires.near known.0 known.1))
