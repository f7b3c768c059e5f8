use Rattle.std.proofs.Common.{◌≡◌, ◌++◌, [], Some, List, ℕ, append_assoc, append-nil, sym, ap, ◌∙◌}
use Rattle.std.specs.List.{flat_map}
use Rattle.svn_lists.proofs.Parts.{next_item, no_item}
use Rattle.svn_dump.specs.Written.{entry}
use Rattle.svn_dump.proofs.writer.push_props.Goals as goal

pub loop-name-init : goal.loop-name-init
loop-name-init c =
    let begins : c.into_iter-name-iterator.result ≡ c.as_map-name-items.result.now.entries = c.into_iter-name-iterator.ensures.into_iter_gives.0 in
    ([], ap (flat_map (λ p. entry p.0 (Some p.1))) (begins ∙ c.as_map-name-items.ensures), sym (append-nil c.args.out.now.items))

pub loop-name-preserved : goal.loop-name-preserved
loop-name-preserved c =
    let inv = c.loop-name.invariant in
    let text = entry c.in-Some.name.now (Some c.in-Some.value.now) in (
      inv.0 ++ text,
      next_item (λ p. entry p.0 (Some p.1)) inv.0 (c.in-Some.name.now, c.in-Some.value.now) c.next.new.self c.loop-name.name-iterator
          (flat_map (λ p. entry p.0 (Some p.1)) c.args.props.now) c.in-Some.ensures.steps inv.1,
      c.in_ok-push_set.ensures ∙ ap (λ (l : List ℕ). l ++ text) inv.2 ∙ append_assoc c.args.out.now.items inv.0 text,
    )

pub returns : goal.returns
returns c =
    let inv = c.loop-name.invariant in
    inv.2 ∙ ap (λ (l : List ℕ). c.args.out.now.items ++ l)
    (no_item (λ p. entry p.0 (Some p.1)) inv.0 c.loop-name.name-iterator (flat_map (λ p. entry p.0 (Some p.1)) c.args.props.now)
    c.in-None.ensures.steps.0 inv.1)
