use Rattle.std.proofs.Common.{◌≡◌, true, Bool, sym, subst}
use Rattle.svn_model.specs.Nodes.{get_in}
use Rattle.svn_wc.specs.Unswitched.{IsUnswitched}
use Rattle.svn_wc.proofs.Ancestors.{IsCrawled, crawled_on}
use Rattle.svn_wc.proofs.working_copy.WorkingCopy.crawl.Goals as goal

pub loop-path-preserved : goal.loop-path-preserved
loop-path-preserved c =
    let known = c.loop-path.crawl.unswitched in
    let same : known ≡ c.report_next.new.crawl.unswitched = sym c.report_next.ensures.known in (
      subst
          (λ (k : Bool). IsCrawled k c.args.self.now c.report_next.new.ancestors.items c.report_next.new.crawl.reporter c.next.new.self) same
          (crawled_on known c.args.self.now c.law.ensures.order c.law.ensures.shape c.loop-path.invariant.1 c.loop-path.ancestors.items
          c.loop-path.crawl.reporter (c.in-Some-2.path.now, c.in-Some-2.node.now) c.loop-path.path-iterator c.next.new.self
          c.in-Some-2.ensures.steps c.loop-path.invariant.0 c.report_next.new.crawl.reporter c.in_ok-report_next.ensures.reported
          c.report_next.new.ancestors.items c.in_ok-report_next.ensures.ancestors),
      subst (λ (k : Bool). k ≡ true → IsUnswitched (get_in c.args.self.now)) same c.loop-path.invariant.1,
    )
