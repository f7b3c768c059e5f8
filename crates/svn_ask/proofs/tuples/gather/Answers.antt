use Rattle.std.proofs.Common.{◌≡◌, true, Ok, sym, arith}
use Rattle.std.proofs.lemmas.Result.{err_from_is_err_and}
use Rattle.svn_ask.specs.Tuples.{begins}
use Rattle.svn_ask.proofs.TupleLemmas.{bad_begin, bad_tuple, endless_tuple}
use Rattle.svn_ask.proofs.tuples.gather.Goals as goal

pub returns-in_err-is_open-clause-fault : goal.returns-in_err-is_open-clause-fault
returns-in_err-is_open-clause-fault g c =
    let p = err_from_is_err_and c.from_residual.result c.from_residual.ensures.1 in
    rw (p.1, p.2, sym c.tuples.invariant) (bad_begin g.G.Tuples.adds c.tuples.gathered _ _ c.in_err-is_open.ensures.after)

pub returns-in_err-add-clause-fault : goal.returns-in_err-add-clause-fault
returns-in_err-add-clause-fault g c =
    let p = err_from_is_err_and c.from_residual-in_err-add.result c.from_residual-in_err-add.ensures.1 in
    let begun : begins c.tuples.rest.now ≡ Ok (true, c.in_ok-is_open.after.now) = grind (arith, c.in_ok-is_open.ensures.after, c.if-not-is_open.false) in
    rw (p.1, p.2, sym c.tuples.invariant) (bad_tuple g.G.Tuples.adds c.tuples.gathered _ _ _ begun c.in_err-add.ensures.fault)

pub returns-in_err-rest-clause-fault : goal.returns-in_err-rest-clause-fault
returns-in_err-rest-clause-fault g c =
    let p = err_from_is_err_and c.from_residual-in_err-rest.result c.from_residual-in_err-rest.ensures.1 in
    let begun : begins c.tuples.rest.now ≡ Ok (true, c.in_ok-is_open.after.now) = grind (arith, c.in_ok-is_open.ensures.after, c.if-not-is_open.false) in
    rw (p.1, p.2, sym c.tuples.invariant)
    (endless_tuple g.G.Tuples.adds c.tuples.gathered _ _ _ _ begun c.in_ok-add.ensures.added c.in_err-rest.ensures.rest)
