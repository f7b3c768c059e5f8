use Rattle.svn_edit.proofs.LeftPools.{baton_taken_back}
use Rattle.svn_edit.proofs.pending.Pending.add_node.Goals as goal

pub returns-in-Err-clause-unchanged : goal.returns-in-Err-clause-unchanged
returns-in-Err-clause-unchanged c = λ none.
    baton_taken_back c.args.self.now c.open_baton.new.self c.close_baton.new.self c.args.beneath.0 c.args.new.opened c.args.token
    c.in_ok-open_baton.ensures.opened c.close_baton.ensures.gone none
