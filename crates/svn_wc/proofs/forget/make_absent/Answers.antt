use Rattle.std.proofs.Common.{cond, ap, ◌∙◌, Some, refl, rules}
use Rattle.std.specs.Option.{option_map}
use Rattle.svn_types.specs.Paths.{path_eq}
use Rattle.svn_model.specs.declared.base_node.BaseNode.{BaseNode}
use Rattle.svn_model.specs.declared.base_node.BaseNode.TheVariants.{NotPresent}
use Rattle.svn_model.specs.Nodes.{get_in}
use Rattle.law_copy.proofs.Lookups.{get_in-updated}
use Rattle.law_copy.proofs.PathParts.{none_changed}
use Rattle.svn_wc.proofs.forget.make_absent.Goals as goal

pub returns-in-Some : goal.returns-in-Some
returns-in-Some c =
    let written = c.get_mut.follows.holds NotPresent in
    λ p. get_in-updated c.args.nodes.now.entries _ c.args.at.now (Some NotPresent)
    (written.3 (rw (← c.in-Some.ensures.value) (search rules))).0 p
    ∙ ap (λ v. cond (path_eq c.args.at.now p) v (get_in c.args.nodes.now.entries p))
    (ap (option_map (λ (n : BaseNode). NotPresent)) c.in-Some.ensures.value)

pub returns-in_default : goal.returns-in_default
returns-in_default c = λ p.
    ap (λ n. get_in n.entries p) c.get_mut.follows.holds-at-none
    ∙ none_changed (get_in c.args.nodes.now.entries) c.args.at.now (option_map (λ (n : BaseNode). NotPresent)) (search rules) refl p
