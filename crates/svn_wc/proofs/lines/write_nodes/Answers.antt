use Rattle.std.proofs.Common.{◌≡◌, ◌++◌, [], rules, refl, ap, ◌∙◌}
use Rattle.std.specs.List.{flat_map}
use Rattle.std.proofs.Output.{has_written_append, has_written_of_eq}
use Rattle.svn_lists.proofs.Parts.{next_item, no_item}
use Rattle.svn_nodes.specs.Lines.{node_lines}
use Rattle.svn_wc.proofs.lines.write_nodes.Goals as goal

pub loop-path-init : goal.loop-path-init
loop-path-init g c =
    let begins : c.into_iter-path-iterator.result ≡ c.nodes-path-items.result.now.entries =
    c.into_iter-path-iterator.ensures.into_iter_gives.0 in
    ([], ap (flat_map node_lines) (begins ∙ c.nodes-path-items.ensures), λ plain. search rules)

pub loop-path-preserved : goal.loop-path-preserved
loop-path-preserved g c =
    let inv = c.loop-path.invariant in
    let text = node_lines (c.in-Some.path.now, c.in-Some.node.now) in (
      inv.0 ++ text,
      next_item node_lines inv.0 (c.in-Some.path.now, c.in-Some.node.now) c.next.new.self c.loop-path.path-iterator
          (flat_map node_lines c.args.copy.now) c.in-Some.ensures.steps inv.1,
      λ plain. let before = inv.2 plain in has_written_append _ _ _ _ _ _ before (c.in_ok-write_node.ensures before.plain refl),
    )

pub returns : goal.returns
returns g c = λ plain ok.
    let inv = c.loop-path.invariant in
    has_written_of_eq _ _ _ _ _
    (no_item node_lines inv.0 c.loop-path.path-iterator (flat_map node_lines c.args.copy.now) c.in-None.ensures.steps.0 inv.1)
    (inv.2 plain)
