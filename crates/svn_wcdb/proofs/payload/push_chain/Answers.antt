use Rattle.std.proofs.Common.{Result, subst}
use Rattle.std.proofs.lemmas.Result.{err_from_is_err_and}
use Rattle.svn_wcdb.specs.declared.fault.Reason.{Reason}
use Rattle.svn_wcdb.specs.Reading.{Gives}
use Rattle.svn_wcdb.specs.Tables.{Bytes}
use Rattle.svn_wcdb.proofs.ChainLemmas.{one_link, bad_link, no_page, last_link}
use Rattle.svn_wcdb.proofs.payload.push_chain.Goals as goal

pub returns-in_err-spare : goal.returns-in_err-spare
returns-in_err-spare c =
    let p = err_from_is_err_and c.from_residual.result c.from_residual.ensures.1 in
    rw (p.1, p.2) (no_page _ _ _ _ _ _ _ _ c.in_err-spare.ensures.taken c.links-test.true c.links.invariant)

pub returns-in_err-next : goal.returns-in_err-next
returns-in_err-next c =
    let p = err_from_is_err_and c.from_residual-in_err-next.result c.from_residual-in_err-next.ensures.1 in
    rw (p.1, p.2)
    (bad_link _ _ _ _ _ _ _ _ _ c.in_ok-spare.ensures.fewer c.links-test.true c.in_err-next.ensures c.links.invariant)

pub links-preserved : goal.links-preserved
links-preserved c = one_link _ _ _ _ _ _ _ _ _ _ _ c.in_ok-spare.ensures.fewer c.links-test.true c.in_ok-next.ensures c.links.invariant

pub returns : goal.returns
returns c =
    subst (λ (read : Result Bytes Reason). Gives (λ (_ : Unit {0}). (c.links.out.items, c.links.spare)) c.check_end.result read)
    (last_link _ _ _ _ _ _ _ c.links-test.false c.links.invariant)
    (c.check_end.ensures c.links.out.items c.links.spare)
