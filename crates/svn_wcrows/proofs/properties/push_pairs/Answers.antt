use Rattle.std.proofs.Common.{◌≡◌, ◌++◌, [], List, ℕ, append_assoc, append-nil, sym, ap, ◌∙◌}
use Rattle.std.specs.List.{flat_map}
use Rattle.svn_lists.proofs.Parts.{next_item, no_item}
use Rattle.svn_wcrows.specs.Skels.{pair_bytes}
use Rattle.svn_wcrows.proofs.properties.push_pairs.Goals as goal

pub loop-name-init : goal.loop-name-init
loop-name-init c =
    let begins : c.into_iter-name-iterator.result ≡ c.as_map-name-items.result.now.entries = c.into_iter-name-iterator.ensures.into_iter_gives.0 in
    ([], ap (flat_map pair_bytes) (begins ∙ c.as_map-name-items.ensures), sym (append-nil c.args.out.now.items))

pub loop-name-preserved : goal.loop-name-preserved
loop-name-preserved c =
    let inv = c.loop-name.invariant in
    let pair : List ℕ × List ℕ = (c.in-Some.name.now, c.in-Some.value.now) in
    let text = pair_bytes pair in (
      inv.0 ++ text,
      next_item pair_bytes inv.0 pair c.next.new.self c.loop-name.name-iterator (flat_map pair_bytes c.args.props.now) c.in-Some.ensures.steps
          inv.1,
      c.in_ok-push_pair.ensures ∙ ap (λ (l : List ℕ). l ++ text) inv.2 ∙ append_assoc c.args.out.now.items inv.0 text,
    )

pub returns : goal.returns
returns c =
    let inv = c.loop-name.invariant in
    inv.2 ∙ ap (λ (l : List ℕ). c.args.out.now.items ++ l)
    (no_item pair_bytes inv.0 c.loop-name.name-iterator (flat_map pair_bytes c.args.props.now) c.in-None.ensures.steps.0 inv.1)
