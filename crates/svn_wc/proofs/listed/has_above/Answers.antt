use Rattle.std.proofs.Common.{sym, ap, ◌∙◌, rules}
use Rattle.std.proofs.lemmas.Fn.{always_returns_same}
use Rattle.std.proofs.lemmas.List.Sorted.{searchable_from_sorted}
use Rattle.svn_types.specs.Names.{Path, path_cmp}
use Rattle.svn_types.specs.Paths.{parent}
use Rattle.svn_types.proofs.PathsInOrder.{paths_total, path_tie}
use Rattle.svn_model.specs.declared.base_node.BaseNode.{BaseNode}
use Rattle.svn_model.specs.Nodes.{is_dir}
use Rattle.svn_wc.proofs.SortedNodes.{found_at, none_between}
use Rattle.svn_wc.proofs.listed.has_above.Goals as goal

pub returns-in-Ok : goal.returns-in-Ok
returns-in-Ok c =
    let q = parent c.args.path.now in
    let at = c.in-Ok.ensures.position (λ (e : Path × BaseNode). path_cmp e.0 q)
    (always_returns_same _ _ _ (λ a r g called. search rules)) in
    let item = c.index-nodes-place.result in
    c.is_directory.ensures
    ∙ ap is_dir (sym (found_at c.args.nodes.now c.requires.1 c.in-Ok.place item c.in-Ok.ensures.bound q (path_tie _ q (at item))))

pub returns-in-Err : goal.returns-in-Err
returns-in-Err c =
    let q = parent c.args.path.now in
    let parts = c.in-Err.ensures.position (λ (e : Path × BaseNode). path_cmp e.0 q)
    (always_returns_same _ _ _ (λ a r g called. search rules))
    (searchable_from_sorted paths_total (λ (e : Path × BaseNode). e.0) c.args.nodes.now q c.requires.0) in
    sym (ap is_dir (none_between c.args.nodes.now q c.in-Err.field-0 parts))
