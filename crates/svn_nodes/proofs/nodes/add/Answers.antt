use Rattle.std.proofs.Common.{List, Some, ap, ◌∙◌, rules}
use Rattle.std.specs.BTreeMap.Entry.{map_with_value}
use Rattle.svn_types.specs.Names.{Path}
use Rattle.svn_model.specs.declared.base_node.BaseNode.{BaseNode}
use Rattle.svn_model.specs.Nodes.{get_in}
use Rattle.law_copy.proofs.Lookups.{get_in-updated}
use Rattle.svn_nodes.proofs.nodes.add.Goals as goal

pub returns-clause-added : goal.returns-clause-added
returns-clause-added c = λ p.
    ap (λ (l : List (Path × BaseNode)). get_in l p) (search rules)
    ∙ get_in-updated c.args.nodes.now.entries (map_with_value c.in-Ok.entry c.args.node).entries c.args.at (Some c.args.node)
    (c.in-Ok.ensures.update.0 c.args.node).0 p
