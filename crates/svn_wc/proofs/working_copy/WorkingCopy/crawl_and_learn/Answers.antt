use Rattle.std.proofs.Common.{◌≡◌, true, false, List, sym, subst}
use Rattle.std.specs.List.{list_any}
use Rattle.svn_types.specs.Names.{Path}
use Rattle.svn_report.specs.declared.entry.ReportEntry.{ReportEntry}
use Rattle.svn_report.specs.Reports.{ReportView}
use Rattle.svn_model.specs.declared.base_node.BaseNode.{BaseNode}
use Rattle.svn_model.specs.Nodes.{get_in}
use Rattle.svn_wc.specs.Crawling.{is_link, is_root_alone}
use Rattle.svn_wc.specs.Unswitched.{IsUnswitched, IsLevel}
use Rattle.svn_wc.proofs.Learning.{no_link_unswitched, root_alone_level, learned}
use Rattle.svn_wc.proofs.working_copy.WorkingCopy.crawl_and_learn.Goals as goal

pub invariant_of-self : goal.invariant_of-self
invariant_of-self c =
    let nodes : List (Path × BaseNode) = c.args.self.now in (
      c.self.invariant.0,
      learned c.self.inside.known.unswitched c.with_report-self-inside.result.unswitched _ c.self.invariant.1 (λ yes was.
          subst (λ (l : List (Path × BaseNode)). IsUnswitched (get_in l)) (sym c.self.view_is)
          (no_link_unswitched nodes c.law.ensures.order c.law.ensures.shape
          (subst (λ (r : ReportView). list_any (λ (e : Path × ReportEntry). is_link e.1) r.entries ≡ false) c.in_ok-report.ensures.report
          (c.with_report-self-inside.ensures.unswitched yes was)))),
      learned c.self.inside.known.level c.with_report-self-inside.result.level _ c.self.invariant.2 (λ yes was.
          subst (λ (l : List (Path × BaseNode)). IsLevel (get_in l)) (sym c.self.view_is)
          (root_alone_level nodes c.law.ensures.order c.law.ensures.shape
          (subst (λ (r : ReportView). is_root_alone r.entries ≡ true) c.in_ok-report.ensures.report (c.with_report-self-inside.ensures.level yes was)))),
    )
