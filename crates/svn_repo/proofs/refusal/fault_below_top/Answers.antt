use Rattle.std.proofs.Common.{length, take, sym, ap, ◌∙◌}
use Rattle.std.specs.Option.{option_and_then}
use Rattle.svn_lists.proofs.Options.{option_or_next}
use Rattle.svn_repo.specs.History.{walk}
use Rattle.svn_repo.specs.Stored.{rows}
use Rattle.svn_repo.specs.Trees.{place_at}
use Rattle.svn_repo.specs.Drafts.{tree_in}
use Rattle.svn_repo.specs.Changes.{walk_fault, copy_depth_fault}
use Rattle.svn_repo.proofs.Faults.{taken_path, free_path}
use Rattle.svn_repo.proofs.OldRevisions.{copy_depth_by_height, old_in}
use Rattle.svn_repo.proofs.Standing.{stands_at}
use Rattle.svn_repo.proofs.refusal.fault_below_top.Goals as goal

pub fault_of_height-requires-clause-node_in : goal.fault_of_height-requires-clause-node_in
fault_of_height-requires-clause-node_in c = old_in c.args.heights.now c.args.nodes.now c.args.source.now.root c.in-Ok.node
    c.args.source.now.names.now c.requires.past c.requires.top_in c.in-Ok.ensures.found

pub returns-in-Ok-Some : goal.returns-in-Ok-Some
returns-in-Ok-Some c = λ base.
    let nodes = c.args.nodes.now in
    let names = c.args.to.now.names.now in
    let t = tree_in base nodes c.args.to.now.root in
    let top = c.args.source.now.root in
    let from = c.args.source.now.names.now in
    let deep = copy_depth_fault (rows (take (length c.args.heights.now) nodes)) (walk (rows nodes) top from) names in
    sym (option_or_next (walk_fault (tree_in base nodes top) from) _ (c.in-Ok.ensures.no_fault base)
    ∙ taken_path t names deep (c.in-Ok-Some.ensures.above base)
    (stands_at base nodes c.args.to.now.root _ names c.requires.root_in c.requires.closed
    (sym c.in-Ok-Some.ensures.found ∙ c.in-Ok-Some.field-0-is)))

pub returns-in-Ok-None : goal.returns-in-Ok-None
returns-in-Ok-None c = λ base.
    let heights = c.args.heights.now in
    let nodes = c.args.nodes.now in
    let names = c.args.to.now.names.now in
    let t = tree_in base nodes c.args.to.now.root in
    let top = c.args.source.now.root in
    let from = c.args.source.now.names.now in
    let old = rows (take (length heights) nodes) in
    let inside = old_in heights nodes top c.in-Ok.node from c.requires.past c.requires.top_in c.in-Ok.ensures.found in
    copy_depth_by_height heights nodes c.in-Ok.node names c.fault_of_height.result c.requires.past c.requires.not_root inside
    c.fault_of_height.ensures
    ∙ ap (λ o. copy_depth_fault old o names) (sym c.in-Ok.ensures.found)
    ∙ sym (option_or_next (walk_fault (tree_in base nodes top) from) _ (c.in-Ok.ensures.no_fault base)
    ∙ free_path t names (copy_depth_fault old (walk (rows nodes) top from) names) (c.in-Ok-None.ensures.above base)
    (ap (option_and_then (place_at (rows nodes) base)) (sym c.in-Ok-None.ensures.found ∙ c.in-Ok-None.field-0-is)))
