use Rattle.std.proofs.lemmas.Result.{IfOk-equal}
use Rattle.svn_served.proofs.Greetings.{offered}
use Rattle.svn_served.proofs.opening.push_mechanisms.Goals as goal

pub returns : goal.returns
returns c =
    IfOk-equal c.push_end.result _ _ _ c.push_end.ensures
    (offered c.args.served.now.uuid c.as_slice.result.now _ _ _ c.as_slice.ensures c.in_ok-extend_from_slice.ensures.items c.in_ok-push_text.ensures)
