use Rattle.std.proofs.Common.{sym, ap, ◌∙◌, subst, List, []}
use Rattle.std.specs.BTreeMap.{BTreeMap}
use Rattle.md5.specs.Md5.{md5}
use Rattle.svn_lists.proofs.Results.{OnErr_then, OnOk_then}
use Rattle.svn_types.specs.Names.{Path}
use Rattle.svn_model.specs.declared.base_node.BaseNode.{BaseNode}
use Rattle.svn_model.specs.Effects.{refusal}
use Rattle.svn_edit.specs.Applying.{StandsAfter}
use Rattle.svn_edit.specs.Leaving.{PoolsAfter}
use Rattle.svn_model.specs.Answering.{AnswersCall}
use Rattle.svn_edit.proofs.ShapedCalls.{shaped_call}
use Rattle.std.proofs.Math.Logic.{∥∥₁_elim, ∥∥₁_map}
use Rattle.svn_wc.specs.Taking.{IsInShape}
use Rattle.svn_model.specs.Nodes.{IsWorkingCopy, get_in, node_revision}
use Rattle.svn_wc.proofs.ShapeKept.{IsWorkingCopy-prop, taken, kept}
use Rattle.svn_wc.proofs.Level.{IsLevelByRoot, IsLevelByRoot-prop, by_root}
use Rattle.svn_wc.proofs.UnswitchedCalls.{IsUnswitched-prop, still_unswitched, level_again}
use Rattle.svn_wc.proofs.applier.Applier.apply.Goals as goal

pub returns-clause-answers : goal.returns-clause-answers
returns-clause-answers c = λ w0 calls s.
    subst (λ (n : List (Path × BaseNode)). AnswersCall (refusal md5 c.args.self.now.mode calls c.args.call.now n) c.call-answer.result) c.copy.view_is
    (c.call-answer.ensures.answers w0 calls (subst (λ (n : List (Path × BaseNode)). StandsAfter c.args.self.now.mode w0 c.args.self.now.edit n calls)
    (sym c.copy.view_is) s))

pub returns-clause-in_order : goal.returns-clause-in_order
returns-clause-in_order c = λ w0 calls s.
    c.call-answer.ensures.in_order w0 calls (subst (λ (n : List (Path × BaseNode)). StandsAfter c.args.self.now.mode w0 c.args.self.now.edit n calls)
    (sym c.copy.view_is) s)

pub returns-clause-accepted : goal.returns-clause-accepted
returns-clause-accepted c = OnOk_then c.call-answer.result c.call-answer.ensures.accepted (λ f w0 calls s.
    f w0 calls (subst (λ (n : List (Path × BaseNode)). StandsAfter c.args.self.now.mode w0 c.args.self.now.edit n calls) (sym c.copy.view_is) s))

pub returns-clause-refused : goal.returns-clause-refused
returns-clause-refused c = OnErr_then c.call-answer.result c.call-answer.ensures.refused (λ f w0 calls s.
    f w0 calls (subst (λ (n : List (Path × BaseNode)). StandsAfter c.args.self.now.mode w0 c.args.self.now.edit n calls) (sym c.copy.view_is) s)
    ∙ c.copy.view_is)

pub returns-clause-shape : goal.returns-clause-shape
returns-clause-shape c =
    shaped_call c.args.self.now.mode c.call-answer.result c.args.self.now.edit _ _ _ c.args.call.now c.opens_allowed.ensures (returns-clause-accepted c)
    (returns-clause-answers c)

pub returns-clause-was_refused : goal.returns-clause-was_refused
returns-clause-was_refused c = λ h. let r = c.call-answer.ensures.was_refused h in (
  r.0,
  ap (λ (m : BTreeMap Path BaseNode). m.entries) r.1
      ∙ c.copy.view_is,
)

pub returns-clause-ended : goal.returns-clause-ended
returns-clause-ended c = λ h. let r = c.call-answer.ensures.ended h in (r.0, ap (λ (m : BTreeMap Path BaseNode). m.entries) r.1 ∙ c.copy.view_is)

pub returns-clause-pools : goal.returns-clause-pools
returns-clause-pools c =
    subst (λ (n : List (Path × BaseNode)). PoolsAfter c.args.self.now.mode c.args.self.now.edit n c.args.call.now c.call-answer.result c.call-answer.new.self) c.copy.view_is
    c.call-answer.ensures.pools

pub invariant_of-copy : goal.invariant_of-copy
invariant_of-copy c =
    let before =
    subst (λ (n : List (Path × BaseNode)). ∥ IsInShape c.args.self.now.mode c.args.self.now.was_level c.args.self.now.edit n ∥₁) (sym c.copy.view_is) c.args.self.now.in_shape in
    let new = c.call-answer.new.copy in
    let takes = taken c.args.self.now.mode c.call-answer.result c.args.self.now.edit c.call-answer.new.self c.copy.inside.nodes new c.args.call.now
    c.opens_allowed.ensures c.call-answer.ensures.answers c.call-answer.ensures.in_order c.call-answer.ensures.accepted c.call-answer.ensures.refused
    c.call-answer.ensures.dead c.call-answer.ensures.was_refused c.call-answer.ensures.ended c.call-answer.ensures.pools
    c.call-answer.ensures.last c.call-answer.ensures.abort in
    let shape : IsWorkingCopy (get_in new.entries) = ∥∥₁_elim before (IsWorkingCopy-prop _) (λ shape.
    (kept c.args.self.now.mode c.args.self.now.was_level c.args.self.now.edit c.call-answer.new.self _ _ c.args.call.now c.opens_allowed.ensures c.call-answer.result takes shape
    c.copy.invariant.0).1) in (
      shape,
      λ known. ∥∥₁_elim before (IsUnswitched-prop (get_in new.entries)) (λ in_shape.
          still_unswitched c.args.self.now.mode c.args.self.now.was_level c.args.self.now.edit c.call-answer.new.self _ _ c.args.call.now c.call-answer.result takes in_shape
          shape c.is_update-is_update.result c.is_update-is_update.ensures _ _ c.knows_unswitched.ensures.update
          (λ switch yes. c.has_ended-has_ended.ensures (sym (c.knows_unswitched.ensures.switch switch) ∙ yes)) known c.copy.invariant.1),
      λ known.
          let parts = c.is_level_again.ensures known in
          let ended = c.has_ended-has_ended.ensures parts.1 in
          let level : IsLevelByRoot (get_in new.entries) =
          ∥∥₁_elim before (IsLevelByRoot-prop (get_in new.entries)) (λ in_shape.
          by_root (get_in new.entries) shape
          (level_again c.args.self.now.mode c.args.self.now.was_level c.args.self.now.edit c.call-answer.new.self _ _ c.args.call.now c.call-answer.result takes in_shape
          parts.0 ended.0 ended.1)) in
          (node_revision (get_in new.entries []), level),
    )

pub invariant_of-self : goal.invariant_of-self
invariant_of-self c =
    let before =
    subst (λ (n : List (Path × BaseNode)). ∥ IsInShape c.args.self.now.mode c.args.self.now.was_level c.args.self.now.edit n ∥₁) (sym c.copy.view_is) c.args.self.now.in_shape in
    let after = ∥∥₁_map before (λ shape.
    (kept c.args.self.now.mode c.args.self.now.was_level c.args.self.now.edit c.call-answer.new.self _ _ c.args.call.now c.opens_allowed.ensures c.call-answer.result
    (taken c.args.self.now.mode c.call-answer.result c.args.self.now.edit c.call-answer.new.self c.copy.inside.nodes c.call-answer.new.copy c.args.call.now c.opens_allowed.ensures
    c.call-answer.ensures.answers c.call-answer.ensures.in_order
    c.call-answer.ensures.accepted c.call-answer.ensures.refused c.call-answer.ensures.dead c.call-answer.ensures.was_refused c.call-answer.ensures.ended
    c.call-answer.ensures.pools c.call-answer.ensures.last c.call-answer.ensures.abort)
    shape c.copy.invariant.0).0) in
    record { in_shape = after }
