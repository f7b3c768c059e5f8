use Rattle.std.proofs.Common.{subst}
use Rattle.std.proofs.lemmas.Result.{MatchResult-weaker}
use Rattle.svn_wcrows.specs.Work.{IsItemOf}
use Rattle.svn_wcrows.proofs.WorkLists.{item_is}
use Rattle.svn_wcrows.proofs.work.item_of.Goals as goal

pub returns-in-Some : goal.returns-in-Some
returns-in-Some c =
    MatchResult-weaker c.item_in.result c.item_in.ensures
    (λ found e. subst (λ l. IsItemOf l found) c.in-Some.ensures (item_is c.in-Some.list.now found e))
    (λ e h. h)
