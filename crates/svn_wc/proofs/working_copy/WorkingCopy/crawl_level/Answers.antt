use Rattle.std.proofs.Common.{◌≡◌, true, [], List, Some, None, sym, ap, subst, ◌∙◌}
use Rattle.svn_types.specs.Names.{Path}
use Rattle.svn_model.specs.declared.base_node.BaseNode.{BaseNode}
use Rattle.svn_model.specs.Nodes.{get_in, node_revision}
use Rattle.std.specs.List.{list_all}
use Rattle.svn_types.specs.Paths.{is_root}
use Rattle.svn_model.specs.Crawl.{entry_for}
use Rattle.svn_wc.specs.Crawling.{with_reported}
use Rattle.svn_wc.specs.Unswitched.{IsUnswitched, is_level}
use Rattle.svn_wc.proofs.LevelCrawl.{level_report}
use Rattle.svn_wc.proofs.working_copy.WorkingCopy.crawl_level.Goals as goal

pub returns-clause-report : goal.returns-clause-report
returns-clause-report c =
    let nodes = c.args.self.now in
    let n = c.in-Some.node.now in
    let stands : get_in nodes [] ≡ Some n =
    sym (c.in-Some.ensures.value ∙ ap (λ (p : Path). get_in c.self.inside.nodes.entries p) c.root-root.ensures
    ∙ ap (λ (l : List (Path × BaseNode)). get_in l []) c.self.view_is) in
    let unswitched : IsUnswitched (get_in nodes) =
    subst (λ (l : List (Path × BaseNode)). IsUnswitched (get_in l)) c.self.view_is (c.self.invariant.1 c.if-not-self.false) in
    let level : list_all (λ e. is_level c.revision.result e.1) nodes ≡ true = c.is_all_level.ensures.level c.if-not-is_all_level.false in
    let root = c.root-root.ensures in
    level_report nodes c.law.ensures.order c.law.ensures.shape unswitched c.revision.result level n stands (sym c.revision.ensures)
    c.new_at.result c.finish_report.result (c.new_at.ensures.root ∙ c.in_ok-root_path.ensures) c.new_at.ensures.entries
    (c.finish_report.ensures ∙ c.in_ok-report_node.ensures.reported (ap is_root root) tt
    ∙ (λ i. with_reported c.new_at.result (root i) (entry_for (root i) None (Some n))))

pub is_all_level-requires : goal.is_all_level-requires
is_all_level-requires c = record {
  root = ap node_revision
      (ap (λ (l : List (Path × BaseNode)). get_in l []) (sym c.self.view_is)
      ∙ ap (λ (p : Path). get_in c.self.inside.nodes.entries p) (sym c.root-root.ensures) ∙ sym c.in-Some.ensures.value)
      ∙ sym c.revision.ensures;
}
