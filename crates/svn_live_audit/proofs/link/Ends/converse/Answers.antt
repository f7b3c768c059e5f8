use Rattle.std.proofs.Common.{refl, sym, ◌∙◌}
use Rattle.svn_live_audit.proofs.Conversing.{all_came, more_came, not_refused}
use Rattle.svn_live_audit.proofs.link.Ends.converse.Goals as goal

pub returns-then-is_done : goal.returns-then-is_done
returns-then-is_done g c =
    all_came g.R.Read.remaining g.H.Hearer.hears _ _ _ _ c.args.left _ c.answers.left _ _ c.requires refl c.answers.invariant
    (sym c.is_done.ensures.done ∙ c.if-is_done.true) (not_refused _ c.in_ok-end.ensures)

pub answers-preserved : goal.answers-preserved
answers-preserved g c =
    more_came g.R.Read.remaining g.H.Hearer.hears _ _ _ _ _ _ _ _ _ _ _ _ c.answers.invariant c.in_ok-hear_more.ensures
