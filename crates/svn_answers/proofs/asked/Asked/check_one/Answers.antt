use Rattle.std.proofs.Common.{refl, ap, ◌∙◌}
use Rattle.std.specs.Prelude.{Ok, Err}
use Rattle.std.proofs.KnownBytes.{Appends-nil}
use Rattle.svn_answers.specs.Answers.{verdict_on}
use Rattle.svn_answers.proofs.asked.Asked.check_one.Goals as goal

pub returns-in_ok-write_checked-in-Ok : goal.returns-in_ok-write_checked-in-Ok
returns-in_ok-write_checked-in-Ok g c = (
  Ok c.in-Ok.found,
  c.in-Ok.ensures.audited,
  c.on.ensures ∙ ap verdict_on c.deref.ensures.value,
  c.in_ok-write_checked-in-Ok.ensures,
  c.hear_notes.ensures,
)

pub returns-in-Err : goal.returns-in-Err
returns-in-Err g c = (Err c.in-Err.fault, c.in-Err.ensures.refused, refl, Appends-nil _, c.hear_fault.ensures)
