use Rattle.std.proofs.lemmas.Result.{IfOk-equal}
use Rattle.svn_served.proofs.Greetings.{admitted}
use Rattle.svn_served.proofs.opening.push_admission.Goals as goal

pub returns : goal.returns
returns c =
    IfOk-equal c.push_end.result _ _ _ c.push_end.ensures
    (admitted c.args.served.now c.args.session.now c.as_slice.result.now c.as_slice-2.result.now _ _ _ _ _ _ _ c.as_slice.ensures c.as_slice-2.ensures
    c.in_ok-push_done.ensures c.in_ok-push_success.ensures c.in_ok-push_text.ensures c.in_ok-push_text-2.ensures c.in_ok-push_open.ensures
    c.in_ok-push_close.ensures)
