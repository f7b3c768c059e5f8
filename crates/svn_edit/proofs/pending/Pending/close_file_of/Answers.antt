use Rattle.std.proofs.Common.{List, Some, sym, ap, subst, ◌∙◌, rules}
use Rattle.std.proofs.lemmas.Map.Steps.{set_value_same}
use Rattle.svn_lists.proofs.Results.{OnOk_then}
use Rattle.svn_types.specs.Names.{Path}
use Rattle.svn_model.specs.declared.base_node.BaseNode.{BaseNode}
use Rattle.svn_model.specs.Nodes.{get_in}
use Rattle.svn_model.specs.Effects.{moved_path, joined_path}
use Rattle.svn_edit.specs.Closing.{ClosesFile}
use Rattle.law_copy.proofs.Lookups.{get_in-updated}
use Rattle.svn_edit.proofs.FileCloses.{node_closes, nothing_closes}
use Rattle.svn_edit.proofs.pending.Pending.close_file_of.Goals as goal

pub returns-in_default-get_mut : goal.returns-in_default-get_mut
returns-in_default-get_mut c =
    nothing_closes c.args.mode.now c.args.self.now c.args.baton.now c.args.text_md5.now c.as_rel_path-path.result.now c.args.copy.now.entries _
    c.close_nothing.result c.as_rel_path-path.ensures c.in_default-get_mut.ensures.value (search rules) c.close_nothing.ensures

pub returns-then-is_present : goal.returns-then-is_present
returns-then-is_present c =
    let nodes = c.args.copy.now.entries in
    let w = get_in nodes in
    let at = c.as_rel_path-path.result.now in
    let written = c.get_mut.follows.holds c.close_opened.new.node in
    node_closes c.args.mode.now c.args.self.now c.args.baton.now c.args.text_md5.now at nodes _ c.in-Some-get_mut.node.now c.close_opened.new.node
    c.close_opened.result c.as_rel_path-path.ensures c.in-Some-get_mut.ensures.value
    c.close_opened.ensures.answers
    (OnOk_then c.close_opened.result c.close_opened.ensures.closed (λ closed said s.
    closed said (moved_path c.args.mode.now w at) (joined_path w at) s c.moved_again-moved.ensures))
    c.close_opened.ensures.refused
    (get_in-updated nodes _ at (Some c.close_opened.new.node) (written.3 (rw (← c.in-Some-get_mut.ensures.value) (search rules))).0)
    (λ kept. written.0 ∙ set_value_same _ _ _ (sym c.in-Some-get_mut.ensures.value ∙ ap Some (sym kept)))

pub returns : goal.returns
returns c =
    let same = (c.get_mut.follows.holds c.in-Some-get_mut.node.now).0 ∙ set_value_same _ _ _ (sym c.in-Some-get_mut.ensures.value) in
    subst (λ (nodes : List (Path × BaseNode)). ClosesFile c.args.mode.now c.args.self.now c.args.baton.now c.args.text_md5.now nodes
    c.close_joined-2.result c.close_joined-2.new.copy.entries) same c.close_joined-2.ensures
