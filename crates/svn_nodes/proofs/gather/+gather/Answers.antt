use Rattle.std.proofs.Common.{◌≡◌, ◌+◌, ℕ, List, [], ◌∷◌, ◌++◌, length, length-append, arith, subst, sym, ap, ◌∙◌}
use Rattle.std.specs.Prelude.{⊤}
use Rattle.svn_lists.proofs.Options.{when_none}
use Rattle.svn_types.specs.Pairs.{InNameOrder}
use Rattle.svn_repo.specs.Readings.{entries_of}
use Rattle.svn_nodes.specs.Gathered.{gathered}
use Rattle.svn_nodes.proofs.Gathering.{fill_begins, fill_ends, fill_leaf, fill_free_at, fill_next_at}
use Rattle.svn_nodes.proofs.gather.+gather.Goals as goal

pub returns-in_default : goal.returns-in_default
returns-in_default t c =
    fill_leaf c.args.from.now.repo.now c.args.from.now.rev c.args.at.now c.args.repos_path.now c.args.id (gathered c.args.pairs.now.items)
    (gathered c.push_node.new.pairs.items)
    c.in_ok-push_node.ensures c.requires.free
    (when_none c.entries.result (entries_of c.args.from.now.repo.now c.args.id ≡ []) (λ _. ⊤) c.in_default.not-Some c.entries.ensures.leaf)

pub loop-name-init : goal.loop-name-init
loop-name-init t c =
    let e1 : c.into_iter-name-iterator.result ≡ c.iter-name-items.result = c.into_iter-name-iterator.ensures.into_iter_gives in
    let e2 : c.iter-name-items.result ≡ c.in-Some.entries.now = c.iter-name-items.ensures.rest in
    let e3 : c.in-Some.entries.now ≡ entries_of c.args.from.now.repo.now c.args.id = c.in-Some.ensures.listing in
    fill_begins c.args.from.now.repo.now c.args.from.now.rev c.args.at.now c.args.repos_path.now c.args.id (gathered c.args.pairs.now.items)
    (gathered c.push_node.new.pairs.items)
    c.in_ok-push_node.ensures c.requires.free c.into_iter-name-iterator.result
    (subst (λ (l : List (List ℕ × ℕ)). InNameOrder l) (sym (e1 ∙ e2)) c.iter-name-items.ensures.ordered)
    (e1 ∙ e2 ∙ e3)

pub gather-requires : goal.gather-requires
gather-requires t c =
    let at : c.in_ok-at_below.at_below ≡ c.args.at.now ++ c.in-Some-2.name.now ∷ [] = c.in_ok-at_below.ensures.at in
    let longer : length c.in_ok-at_below.at_below ≡ length c.args.at.now + 1 =
    ap length at ∙ length-append c.args.at.now (c.in-Some-2.name.now ∷ []) in
    let step : c.loop-name.name-iterator ≡ (c.in-Some-2.name.now, c.in-Some-2.child.now) ∷ c.next.new.self = c.in-Some-2.ensures.steps in
    let inv = rw step at c.loop-name.invariant in (
      omega (arith, longer, c.in_ok-at_below.ensures.bounded),
      (
        fill_free_at c.args.from.now.repo.now c.args.from.now.rev c.args.at.now c.args.repos_path.now c.args.id (gathered c.args.pairs.now.items)
            (gathered c.push_node.new.pairs.items) c.in_ok-push_node.ensures (c.in-Some-2.name.now, c.in-Some-2.child.now) c.next.new.self
            (gathered c.loop-name.pairs.items) (gathered c.loop-name.pairs.items) inv.0 c.in_ok-at_below.at_below c.in_ok-at_below.below at
            c.in_ok-at_below.ensures.repos_path,
        c.in_ok-at_below.ensures.tail,
      ),
    )

pub push_leaf-requires-clause-free : goal.push_leaf-requires-clause-free
push_leaf-requires-clause-free t c =
    let step : c.loop-name.name-iterator ≡ (c.in-Some-2.name.now, c.in-Some-2.child.now) ∷ c.next.new.self = c.in-Some-2.ensures.steps in
    let inv = rw step at c.loop-name.invariant in
    fill_free_at c.args.from.now.repo.now c.args.from.now.rev c.args.at.now c.args.repos_path.now c.args.id (gathered c.args.pairs.now.items)
    (gathered c.push_node.new.pairs.items) c.in_ok-push_node.ensures (c.in-Some-2.name.now, c.in-Some-2.child.now) c.next.new.self
    (gathered c.loop-name.pairs.items) (gathered c.loop-name.pairs.items) inv.0 c.in_ok-at_below.at_below c.in_ok-at_below.below
    c.in_ok-at_below.ensures.at c.in_ok-at_below.ensures.repos_path

pub loop-name-preserved : goal.loop-name-preserved
loop-name-preserved t c =
    let step : c.loop-name.name-iterator ≡ (c.in-Some-2.name.now, c.in-Some-2.child.now) ∷ c.next.new.self = c.in-Some-2.ensures.steps in
    let inv = rw step at c.loop-name.invariant in
    fill_next_at c.args.from.now.repo.now c.args.from.now.rev c.args.at.now c.args.repos_path.now c.args.id (gathered c.args.pairs.now.items)
    (gathered c.push_node.new.pairs.items) c.in_ok-push_node.ensures (c.in-Some-2.name.now, c.in-Some-2.child.now) c.next.new.self
    (gathered c.loop-name.pairs.items) (gathered c.push_leaf.new.pairs.items) inv.0 c.in_ok-at_below.at_below c.in_ok-at_below.below
    c.in_ok-at_below.ensures.at c.in_ok-at_below.ensures.repos_path inv.1 c.in_ok-push_leaf-in-None-entries.ensures

pub loop-name-preserved-in-Some-entries-2 : goal.loop-name-preserved-in-Some-entries-2
loop-name-preserved-in-Some-entries-2 t c =
    let step : c.loop-name.name-iterator ≡ (c.in-Some-2.name.now, c.in-Some-2.child.now) ∷ c.next.new.self = c.in-Some-2.ensures.steps in
    let inv = rw step at c.loop-name.invariant in
    fill_next_at c.args.from.now.repo.now c.args.from.now.rev c.args.at.now c.args.repos_path.now c.args.id (gathered c.args.pairs.now.items)
    (gathered c.push_node.new.pairs.items) c.in_ok-push_node.ensures (c.in-Some-2.name.now, c.in-Some-2.child.now) c.next.new.self
    (gathered c.loop-name.pairs.items) (gathered c.gather.new.pairs.items) inv.0 c.in_ok-at_below.at_below c.in_ok-at_below.below
    c.in_ok-at_below.ensures.at c.in_ok-at_below.ensures.repos_path inv.1 c.in_ok-gather-in-Some-entries.ensures

pub returns : goal.returns
returns t c =
    let step : c.loop-name.name-iterator ≡ [] = c.in-None.ensures.steps.0 in
    let inv = rw step at c.loop-name.invariant in
    fill_ends c.args.from.now.repo.now c.args.from.now.rev c.args.at.now c.args.repos_path.now c.args.id (gathered c.args.pairs.now.items)
    (gathered c.push_node.new.pairs.items)
    c.in_ok-push_node.ensures (gathered c.loop-name.pairs.items) inv.0
