use Rattle.std.proofs.Common.{rules, ◌≡◌, false, refl, subst, inl, inr}
use Rattle.std.specs.Prelude.{None}
use Rattle.svn_editor.specs.Calls.{is_abort}
use Rattle.svn_edit.specs.Carrying.{Carries}
use Rattle.svn_run.proofs.taking.take_one.Goals as goal

pub returns-in-Ok-clause-step : goal.returns-in-Ok-clause-step
returns-in-Ok-clause-step g c =
    let inner : is_abort c.take-call.result ≡ false = search rules in
    let untold : c.args.taken.now.teller.number ≡ None = search rules in
    let old = c.args.carrier.now in
    let new = c.carry.new.self in
    let carried = subst (λ r. Carries old.mode.now old.pending old.copy.nodes.entries c.take-call.result r new.pending new.copy.nodes.entries) c.in-Ok.is c.carry.ensures.carries in
    record {
      call = c.take-call.result;
      calls = c.take-call.ensures.taken;
      link = c.take-call.ensures.link;
      notice = refl;
      offered = inr (inl (record { inner = inner; untold = untold; none_told = untold; one_more = refl; carried = carried }));
    }
