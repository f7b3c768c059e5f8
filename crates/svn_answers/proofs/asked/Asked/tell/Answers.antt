use Rattle.std.proofs.Common.{◌≡◌, ap, refl, sym, subst, ◌∙◌, Ok, Err}
use Rattle.std.proofs.KnownBytes.{Appends-nil}
use Rattle.svn_lists.proofs.Results.{IfErr_returned}
use Rattle.svn_answers.specs.declared.fault.TellFault.TheVariants as faults
use Rattle.svn_answers.specs.Topics.{IsToldText, IsToldFault}
use Rattle.svn_answers.specs.Answers.{IsTellFault, compared}
use Rattle.svn_answers.proofs.asked.Asked.tell.Goals as goal

pub returns-in-Err-clause-fault : goal.returns-in-Err-clause-fault
returns-in-Err-clause-fault g c = λ _. (Err c.in-Err.fault, c.in-Err.ensures.refused, refl, Appends-nil _, refl)

pub returns-in_err-refuse_untrue-clause-fault : goal.returns-in_err-refuse_untrue-clause-fault
returns-in_err-refuse_untrue-clause-fault g c =
    let found = c.in-Ok.found in
    let e = c.in_err-refuse_untrue.field-0.0 in
    let u = c.in_err-refuse_untrue.ensures.fault in
    IfErr_returned (λ x. x ≡ e) _ c.from_residual.result c.from_residual.ensures
    (λ x is _. (
      Ok found,
      c.in-Ok.ensures.audited,
      subst (IsTellFault (compared c.args.self.now.history) c.args.inquiry (Ok found)) (sym (is ∙ u.2))
          (record { not_allowed = u.3; rest = u.1; first = u.4 }),
      Appends-nil _,
      c.hear_notes.ensures,
    ))

pub returns-in-Ok-write_topic-clause-told : goal.returns-in-Ok-write_topic-clause-told
returns-in-Ok-write_topic-clause-told g c =
    let told = c.in-Ok-write_topic.ensures.told in (
      told.0,
      Ok c.in-Ok.found,
      c.in-Ok.ensures.audited,
      record {
        allowed = c.in_ok-refuse_untrue.ensures.none;
        answer = subst (λ e. IsToldText (compared c.args.self.now.history).history c.in-Ok.found.audited.copy e c.args.inquiry.topic told.0) c.as_ref.ensures.value told.1;
      },
      told.2,
      c.hear_notes.ensures,
    )

pub returns-clause-fault : goal.returns-clause-fault
returns-clause-fault g c = λ written. (
  Ok c.in-Ok.found,
  c.in-Ok.ensures.audited,
  record {
    allowed = c.in_ok-refuse_untrue.ensures.none;
    why =
        subst (λ e. IsToldFault (compared c.args.self.now.history).history c.in-Ok.found.audited.copy e c.args.inquiry.topic c.in-Err-write_topic.fault)
        c.as_ref.ensures.value (c.in-Err-write_topic.ensures.fault (λ is. written (ap faults.Topic is)));
  },
  c.in-Err-write_topic.ensures.unwritten (λ is. written (ap faults.Topic is)),
  c.hear_notes.ensures,
)
