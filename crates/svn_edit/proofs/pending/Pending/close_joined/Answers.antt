use Rattle.std.proofs.Common.{◌≡◌, Some, sym, ap, subst, ◌∙◌, rules}
use Rattle.std.specs.Prelude.{IfOk}
use Rattle.std.proofs.lemmas.Map.Steps.{set_value_same}
use Rattle.svn_lists.proofs.Results.{OnOk_then}
use Rattle.svn_types.specs.Names.{Path}
use Rattle.svn_model.specs.Nodes.{get_in}
use Rattle.svn_model.specs.Effects.{joined_path}
use Rattle.law_copy.proofs.Lookups.{get_in-updated}
use Rattle.svn_edit.proofs.FileCloses.{node_closes, nothing_closes}
use Rattle.svn_edit.proofs.pending.Pending.close_joined.Goals as goal

pub returns-in-Some : goal.returns-in-Some
returns-in-Some c =
    let nodes = c.args.copy.now.entries in
    let at = c.as_rel_path.result.now in
    let joined = subst (λ (p : Path). IfOk c.args.joined (λ j. j ≡ joined_path (get_in nodes) p)) (sym c.as_rel_path.ensures) c.requires in
    let written = c.get_mut.follows.holds c.close_new.new.node in
    node_closes c.args.mode.now c.args.self.now c.args.baton.now c.args.text_md5.now at nodes _ c.in-Some.node.now c.close_new.new.node c.close_new.result
    c.as_rel_path.ensures c.in-Some.ensures.value c.close_new.ensures.answers
    (OnOk_then c.close_new.result c.close_new.ensures.closed
    (λ closed said s. closed said (get_in nodes) at s c.as_rel_path.ensures joined))
    c.close_new.ensures.refused
    (get_in-updated nodes _ at (Some c.close_new.new.node) (written.3 (rw (← c.in-Some.ensures.value) (search rules))).0)
    (λ kept. written.0 ∙ set_value_same _ _ _ (sym c.in-Some.ensures.value ∙ ap Some (sym kept)))

pub returns-in-None : goal.returns-in-None
returns-in-None c =
    nothing_closes c.args.mode.now c.args.self.now c.args.baton.now c.args.text_md5.now c.as_rel_path.result.now c.args.copy.now.entries _
    c.close_nothing.result c.as_rel_path.ensures c.in-None.ensures.value (search rules) c.close_nothing.ensures
