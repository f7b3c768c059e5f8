use Rattle.std.proofs.Common.{ℕ, ◌<◌, get_or}
use Rattle.law_dump.specs.Laws.{IsPath}
use Rattle.svn_wcrows.specs.declared.work.Work.{Work}
use Rattle.svn_wcrows.specs.Work.{place_of}
use Rattle.svn_wcrows.proofs.work.work_is_lawful.Given as goal

abbrev pub invariant-loop-work : goal.invariant-loop-work
invariant-loop-work l = (k : ℕ) (d : Work) → k < l.work-index → IsPath (place_of (get_or l.items k d))
