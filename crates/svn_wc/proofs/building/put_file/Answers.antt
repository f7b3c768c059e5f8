use Rattle.std.proofs.Common.{List, cond, ap, ◌∙◌, Some}
use Rattle.svn_lists.proofs.Results.{IfOk_from_both}
use Rattle.svn_types.specs.Names.{Path}
use Rattle.svn_types.specs.Paths.{path_eq}
use Rattle.svn_repo.specs.History.{History}
use Rattle.svn_model.specs.declared.base_node.BaseNode.{BaseNode}
use Rattle.svn_model.specs.Nodes.{get_in, base_node}
use Rattle.svn_wc.proofs.Placing.{file_placed}
use Rattle.svn_wc.proofs.building.put_file.Goals as goal

pub returns-clause-done : goal.returns-clause-done
returns-clause-done c =
    let h : History = c.args.from.now.repo.now in
    let at : Path = c.args.path.now in
    let old : List (Path × BaseNode) = c.args.nodes.now.entries in
    IfOk_from_both _ _ _ c.replace_alone.result c.replace_alone.ensures.done c.replace_alone.ensures.replaced (λ done other put yes p.
    put yes p
    ∙ ap (λ (n : BaseNode). cond (path_eq at p) (Some n) (get_in old p))
    (c.in_ok-node.ensures ∙ ap (λ (q : Path). base_node h c.args.from.now.rev q c.args.id) c.in_ok-own.ensures.cases)
    ∙ file_placed h c.requires.history (get_in old) c.requires.copy at c.args.repos_path.now
    c.args.from.now.rev c.args.id c.requires.stands c.requires.file (other yes) p)
