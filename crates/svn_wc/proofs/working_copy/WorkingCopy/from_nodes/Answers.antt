use Rattle.std.proofs.Common.{◌≡◌, None, sym, subst, ◌∙◌, rules, true≢false}
use Rattle.svn_lists.proofs.Options.{cond_none}
use Rattle.svn_model.specs.declared.wc_fault.WcFault.TheVariants.{Twice}
use Rattle.svn_model.specs.Nodes.{IsWorkingCopy}
use Rattle.svn_model.specs.Refusals.{has_twice, nodes_fault}
use Rattle.law_copy.specs.CopyLaws.{AllEndNamed}
use Rattle.svn_wc.proofs.EachOnce.{gathered_once}
use Rattle.svn_wc.proofs.working_copy.WorkingCopy.from_nodes.Goals as goal

pub returns-clause-nodes : goal.returns-clause-nodes
returns-clause-nodes c = λ p.
    let nodes = c.sorted-nodes.result.items in
    let none : nodes_fault nodes ≡ None = search rules in
    c.in_ok-map.ensures.0 p ∙ gathered_once nodes (cond_none (has_twice nodes) Twice _ none).0 p
    ∙ c.sorted-nodes.ensures.nodes (sym c.sorted-nodes.ensures.fault ∙ none) p

pub invariant_of-result : goal.invariant_of-result
invariant_of-result c =
    let none : nodes_fault c.sorted-nodes.result.items ≡ None = search rules in
    let named : AllEndNamed c.args.nodes.items = search rules in (
      subst IsWorkingCopy (λ i p. sym (returns-clause-nodes c p) i)
          (c.nodes_make_a_copy.ensures c.args.nodes.items named (sym c.sorted-nodes.ensures.fault ∙ none)),
      λ known. absurd (true≢false (sym known ∙ c.nothing.ensures.unswitched)),
      λ known. absurd (true≢false (sym known ∙ c.nothing.ensures.level)),
    )
