use Rattle.std.proofs.Common.{◌≡◌, ◌<◌, ◌||◌, cond, length, sym, ap, ◌∙◌, Some, Bool, List, arith, take}
use Rattle.std.proofs.lemmas.List.{take_more}
use Rattle.svn_lists.proofs.Options.{set_twice}
use Rattle.svn_lists.proofs.Somewhere.{any_push, any_take}
use Rattle.svn_types.specs.Names.{Path}
use Rattle.svn_types.specs.Paths.{path_eq}
use Rattle.svn_model.specs.declared.base_node.BaseNode.{BaseNode}
use Rattle.svn_model.specs.declared.base_node.BaseNode.TheVariants.{NotPresent}
use Rattle.svn_model.specs.Nodes.{get_in}
use Rattle.law_copy.proofs.Lookups.{get_in-updated}
use Rattle.svn_nodes.proofs.Replacing.{is_one}
use Rattle.svn_nodes.proofs.replace.make_places.Goals as goal

pub loop-path-preserved : goal.loop-path-preserved
loop-path-preserved c = λ p.
    let within : c.loop-path.path-index < length c.args.paths.now = omega arith in
    let more = take_more c.args.paths.now c.loop-path.path-index c.path-item.result within in
    let key : c.in_ok-clone.field-0 ≡ c.path-item.result = c.in_ok-clone.ensures.cases in
    get_in-updated c.loop-path.nodes.entries c.insert.new.self.entries c.in_ok-clone.field-0
    (Some NotPresent) c.in_ok-insert.ensures.updates.0 p
    ∙ ap (cond (path_eq c.in_ok-clone.field-0 p) (Some NotPresent)) (c.loop-path.invariant p)
    ∙ set_twice (is_one (take c.loop-path.path-index c.args.paths.now) p) (path_eq c.in_ok-clone.field-0 p) (Some NotPresent)
    (get_in c.args.nodes.now.entries p)
    ∙ ap (λ (b : Bool). cond b (Some NotPresent) (get_in c.args.nodes.now.entries p))
    (ap (λ (q : Path). is_one (take c.loop-path.path-index c.args.paths.now) p || path_eq q p) (key ∙ c.path-item.is)
    ∙ sym (ap (λ l. is_one l p) more ∙ any_push (λ q. path_eq q p) (take c.loop-path.path-index c.args.paths.now) _))

pub returns-in_err-clone-clause-others : goal.returns-in_err-clone-clause-others
returns-in_err-clone-clause-others c = λ p none.
    c.loop-path.invariant p
    ∙ ap (λ (b : Bool). cond b (Some NotPresent) (get_in c.args.nodes.now.entries p))
    (any_take (λ q. path_eq q p) c.args.paths.now c.loop-path.path-index none)

pub returns-in_err-insert-clause-others : goal.returns-in_err-insert-clause-others
returns-in_err-insert-clause-others c = λ p none.
    ap (λ (l : List (Path × BaseNode)). get_in l p) c.in_err-insert.ensures.err
    ∙ c.loop-path.invariant p
    ∙ ap (λ (b : Bool). cond b (Some NotPresent) (get_in c.args.nodes.now.entries p))
    (any_take (λ q. path_eq q p) c.args.paths.now c.loop-path.path-index none)
