use Rattle.std.proofs.Common.{List, None, ap, ◌∙◌, cond}
use Rattle.svn_types.specs.Names.{Path}
use Rattle.svn_model.specs.declared.base_node.BaseNode.{BaseNode}
use Rattle.svn_model.specs.Nodes.{get_in}
use Rattle.law_copy.proofs.Lookups.{get_in-updated}
use Rattle.svn_nodes.proofs.Appending.{rest_below, all_there, back_again}
use Rattle.svn_nodes.proofs.append.append_within.Goals as goal

pub append_below-requires-clause-below : goal.append_below-requires-clause-below
append_below-requires-clause-below c =
    rest_below c.args.at.now c.args.nodes.now.entries c.args.part.entries c.requires.within c.remove-own.new.self.entries
    (λ p. get_in-updated c.args.part.entries c.remove-own.new.self.entries c.args.at.now None c.remove-own.ensures.updates.0 p)

pub returns-in-Ok-clause-replaced : goal.returns-in-Ok-clause-replaced
returns-in-Ok-clause-replaced c = λ p.
    all_there c.args.at.now c.args.nodes.now.entries c.args.part.entries c.requires.within c.remove-own.new.self.entries
    (λ p. get_in-updated c.args.part.entries c.remove-own.new.self.entries c.args.at.now None c.remove-own.ensures.updates.0 p)
    c.append_below.new.nodes.entries c.set.new.nodes.entries c.remove-own.result c.remove-own.ensures.value
    c.in_ok-append_below.ensures.moved c.in-Ok.ensures.set p

pub returns-in-Err-clause-unchanged : goal.returns-in-Err-clause-unchanged
returns-in-Err-clause-unchanged c =
    back_again c.args.at.now c.args.nodes.now.entries c.requires.free c.set.new.nodes.entries c.remove_below.new.nodes.entries
    c.len-before.ensures.ordered c.len-after.ensures.ordered
    (λ p out. ap (λ (l : List (Path × BaseNode)). get_in l p) c.in-Err.ensures.unchanged ∙ c.in_ok-append_below.ensures.moved p
    ∙ ap (λ b. cond b (get_in c.remove-own.new.self.entries p) (get_in c.args.nodes.now.entries p)) out)
    c.remove_below.ensures
