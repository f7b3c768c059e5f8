use Rattle.std.proofs.Common.{◌≡◌, ◌++◌, [], rules, refl, ap, ◌∙◌}
use Rattle.std.specs.List.{flat_map}
use Rattle.std.proofs.Output.{has_written_append, has_written_of_eq}
use Rattle.svn_lists.proofs.Parts.{next_item, no_item}
use Rattle.svn_types.specs.Names.{Path}
use Rattle.svn_nodes.specs.Lines.{prop_line}
use Rattle.svn_nodes.proofs.lines.write_props.Goals as goal

pub loop-name-init : goal.loop-name-init
loop-name-init g c =
    let begins : c.into_iter-name-iterator.result ≡ c.as_map-name-items.result.now.entries =
    c.into_iter-name-iterator.ensures.into_iter_gives.0 in
    ([], ap (flat_map (prop_line c.args.path.now)) (begins ∙ c.as_map-name-items.ensures), λ plain. search rules)

pub loop-name-preserved : goal.loop-name-preserved
loop-name-preserved g c =
    let inv = c.loop-name.invariant in
    let text = prop_line c.args.path.now (c.in-Some.name.now, c.in-Some.value.now) in (
      inv.0 ++ text,
      next_item (prop_line c.args.path.now) inv.0 (c.in-Some.name.now, c.in-Some.value.now) c.next.new.self c.loop-name.name-iterator
          (flat_map (prop_line c.args.path.now) c.args.props.now) c.in-Some.ensures.steps inv.1,
      λ plain. let before = inv.2 plain in has_written_append _ _ _ _ _ _ before
          (has_written_of_eq _ _ _ _ _
          (ap (λ (p : Path). prop_line p (c.in-Some.name.now, c.in-Some.value.now)) c.of-start.ensures)
          (c.in_ok-write_prop.ensures before.plain refl)),
    )

pub returns : goal.returns
returns g c = λ plain ok.
    let inv = c.loop-name.invariant in
    has_written_of_eq _ _ _ _ _
    (no_item (prop_line c.args.path.now) inv.0 c.loop-name.name-iterator
    (flat_map (prop_line c.args.path.now) c.args.props.now) c.in-None.ensures.steps.0 inv.1)
    (inv.2 plain)
