use Rattle.std.proofs.Common.{◌≡◌, Option, cond, subst, sym, ap, ◌∙◌, None}
use Rattle.std.specs.Prelude.{OnOk}
use Rattle.svn_types.specs.Names.{Path}
use Rattle.svn_types.specs.Paths.{path_eq}
use Rattle.svn_model.specs.declared.base_node.BaseNode.{BaseNode}
use Rattle.svn_model.specs.Nodes.{get_in}
use Rattle.law_copy.proofs.Lookups.{get_in-updated}
use Rattle.svn_nodes.proofs.append.set.Goals as goal

pub returns-in-Some-clause-set : goal.returns-in-Some-clause-set
returns-in-Some-clause-set c =
    subst
    (λ (o : Option BaseNode). OnOk c.put.result ((p : Path) → get_in c.put.new.nodes.entries p
    ≡ cond (path_eq c.args.at.now p) o (get_in c.args.nodes.now.entries p)))
    (sym c.in-Some.is) c.put.ensures.put

pub returns-in-None-clause-set : goal.returns-in-None-clause-set
returns-in-None-clause-set c = λ p.
    get_in-updated c.args.nodes.now.entries c.remove.new.self.entries c.args.at.now None c.remove.ensures.updates.0 p
    ∙ ap (λ (o : Option BaseNode). cond (path_eq c.args.at.now p) o (get_in c.args.nodes.now.entries p)) (sym c.in-None.is)
