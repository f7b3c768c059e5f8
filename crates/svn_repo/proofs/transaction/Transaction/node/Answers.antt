use Rattle.std.proofs.Common.{◌≡◌, None, Some, length, refl}
use Rattle.std.specs.List.{slice_get}
use Rattle.std.proofs.lemmas.Option.{slice_get_past, slice_get_read}
use Rattle.svn_repo.proofs.Transactions.{no_node_at, no_place_at, place_is}
use Rattle.svn_repo.proofs.transaction.Transaction.node.Goals as goal

pub returns-in_err-id-clause-none : goal.returns-in_err-id-clause-none
returns-in_err-id-clause-none c =
    let t = c.self.inside in
    let found = rw (c.deref.ensures.value, c.components.ensures.names) at c.in_err-id.ensures in
    rw (← c.self.view_is, c.from_residual.ensures) (no_node_at t.draft.base t.stored.roots t.stored.nodes.items t.lines t.draft.root t.draft.lines c.self.invariant.inside c.args.path.now found)

pub returns-in_err-node-clause-none : goal.returns-in_err-node-clause-none
returns-in_err-node-clause-none c =
    let t = c.self.inside in
    let found = rw (c.deref.ensures.value, c.components.ensures.names) at c.in_ok-id.ensures in
    let past : slice_get c.deref-2.result.now c.id.inside.index ≡ None = slice_get_past c.deref-2.result.now c.id.inside.index
    c.in_err-node.ensures.lookup.3 in
    let none = rw (c.deref-2.ensures.value, c.id.view_is) at past in
    rw (← c.self.view_is, c.from_residual-in_err-node.ensures) (no_place_at t.draft.base t.stored.roots t.stored.nodes.items t.lines t.draft.root t.draft.lines c.self.invariant.inside c.args.path.now c.in_ok-id.id found none)

pub returns-clause-some : goal.returns-clause-some
returns-clause-some c =
    let t = c.self.inside in
    let found = rw (c.deref.ensures.value, c.components.ensures.names) at c.in_ok-id.ensures in
    let looked = c.in_ok-node.ensures.lookup in
    let read : slice_get c.deref-2.result.now c.id.inside.index ≡ Some c.in_ok-node.node.now = slice_get_read c.deref-2.result.now
    (length c.deref-2.result.now) c.id.inside.index c.in_ok-node.node.now refl looked.3.0 looked.1 in
    let some = rw (c.deref-2.ensures.value, c.id.view_is) at read in
    rw (← c.self.view_is) (place_is t.draft.base t.stored.roots t.stored.nodes.items t.lines t.draft.root t.draft.lines c.self.invariant.inside c.args.path.now c.in_ok-id.id found c.in_ok-node.node.now some)
