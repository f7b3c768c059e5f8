use Rattle.svn_replies.specs.declared.fault.Refused.TheVariants.{Memory}
use Rattle.std.proofs.Common.{None}
use Rattle.svn_served.specs.Wanting.{wanted_of}
use Rattle.svn_served.specs.Asking.{asked_as}
use Rattle.svn_served.proofs.Refusing.{exits}
use Rattle.svn_served.proofs.Wantings.{none_free, rev_fails}
use Rattle.svn_served.proofs.wanted.wanted_by.Goals as goal

pub returns-in_err-target : goal.returns-in_err-target
returns-in_err-target c =
    let s = c.args.view.served.now in
    let session = c.args.view.session.now in
    let asked = asked_as c.args.asked.now in (
      None,
      none_free s session asked,
      exits (λ w. w) c.from_residual.result c.in_err-target.field-0.0 (wanted_of s session None asked) c.from_residual.ensures
          (rev_fails s session asked None c.in_err-target.field-0.0 c.in_err-target.ensures),
    )

pub returns-in_err-free : goal.returns-in_err-free
returns-in_err-free c =
    let s = c.args.view.served.now in
    let session = c.args.view.session.now in
    let asked = asked_as c.args.asked.now in (
      None,
      none_free s session asked,
      exits (λ w. w) c.from_residual-in_err-free.result Memory (wanted_of s session None asked) c.from_residual-in_err-free.ensures tt,
    )
