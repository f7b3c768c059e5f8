use Rattle.std.proofs.Common.{◌≡◌, true}
use Rattle.svn_model.specs.Nodes.{get_in}
use Rattle.svn_wc.specs.Unswitched.{IsUnswitched}
use Rattle.svn_wc.proofs.Ancestors.{IsCrawled}
use Rattle.svn_wc.proofs.working_copy.WorkingCopy.crawl.Given as goal

abbrev pub invariant-loop-path : goal.invariant-loop-path
invariant-loop-path l = IsCrawled l.crawl.unswitched l.self l.ancestors.items l.crawl.reporter l.path-iterator
    × (l.crawl.unswitched ≡ true → IsUnswitched (get_in l.self))
