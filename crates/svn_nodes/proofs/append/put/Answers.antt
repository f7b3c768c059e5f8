use Rattle.std.proofs.Common.{Some, ◌∙◌, ap, cond}
use Rattle.svn_types.specs.Names.{Path}
use Rattle.svn_types.specs.Paths.{path_eq}
use Rattle.svn_model.specs.Nodes.{get_in}
use Rattle.law_copy.proofs.Lookups.{get_in-updated}
use Rattle.svn_nodes.proofs.append.put.Goals as goal

pub returns-clause-put : goal.returns-clause-put
returns-clause-put c = λ p.
    get_in-updated c.args.nodes.now.entries c.insert.new.self.entries c.in_ok-clone.field-0 (Some c.args.node) c.in_ok-insert.ensures.updates.0 p
    ∙ ap (λ (q : Path). cond (path_eq q p) (Some c.args.node) (get_in c.args.nodes.now.entries p)) c.in_ok-clone.ensures.cases
