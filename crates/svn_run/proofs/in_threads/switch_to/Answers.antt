use Rattle.std.proofs.Common.{refl, sym, ap, subst, inl}
use Rattle.svn_editor.specs.declared.mode.Mode.{Mode}
use Rattle.svn_editor.specs.declared.mode.Mode.TheVariants.{SwitchTo}
use Rattle.svn_drive.specs.declared.request.Request.{Request}
use Rattle.svn_drive.specs.declared.request.DriveOptions.{DriveOptions}
use Rattle.svn_drive.specs.Requests.{requested}
use Rattle.svn_run.specs.Beginning.{switched_to}
use Rattle.svn_run.specs.UpdateTheorem.{asked, ThreadsTheorem}
use Rattle.svn_run.proofs.Theorems.{refused_in_threads, wanting}
use Rattle.svn_run.proofs.in_threads.switch_to.Goals as goal

pub returns-in-Some : goal.returns-in-Some
returns-in-Some g c =
    let o = c.args.options in
    let w = requested c.args.target (SwitchTo c.args.to.now) o.late_texts o.cancel_after in
    refused_in_threads c.laws.ensures (asked c.args.repo.now c.args.copy.now w) c.true_copy.ensures o.capacity c.in-Some.fault
    (sym (c.in-Some.ensures w refl refl))

pub returns-in_default-switch_mode : goal.returns-in_default-switch_mode
returns-in_default-switch_mode g c =
    let o = c.args.options in
    let w = requested c.args.target (SwitchTo c.args.to.now) o.late_texts o.cancel_after in
    wanting c.laws.ensures (asked c.args.repo.now c.args.copy.now w) c.true_copy.ensures o.capacity
    (sym (c.in_default.ensures w refl refl)) c.args.copy.now _ refl (inl refl)

pub run_tested-requires-clause-begins : goal.run_tested-requires-clause-begins
run_tested-requires-clause-begins g c κs within =
    let w : Request = record { target = c.args.target; mode = c.in-Ok.mode; options = c.of_drive.result } in
    sym (c.in_default.ensures w refl (ap switched_to c.in-Ok.ensures.mode))

pub returns : goal.returns
returns g c =
    let theorem = λ (m : Mode) (o : DriveOptions). ThreadsTheorem
    (asked c.args.repo.now c.args.copy.now (record { target = c.args.target; mode = m; options = o })) c.args.options.capacity
    c.run_tested.new.copy c.run_tested.result in
    subst (theorem (SwitchTo c.args.to.now)) c.of_drive.ensures
    (subst (λ (m : Mode). theorem m c.of_drive.result) c.in-Ok.ensures.mode c.run_tested.ensures)
