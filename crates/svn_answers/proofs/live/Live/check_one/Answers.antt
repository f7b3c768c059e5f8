use Rattle.std.proofs.Common.{refl, ap, ◌∙◌}
use Rattle.std.specs.Prelude.{Ok, Err}
use Rattle.std.proofs.KnownBytes.{Appends-nil}
use Rattle.svn_answers.specs.Answers.{verdict_on}
use Rattle.svn_answers.proofs.live.Live.check_one.Goals as goal

pub returns-in-Ok-write_checked-clause-answers : goal.returns-in-Ok-write_checked-clause-answers
returns-in-Ok-write_checked-clause-answers g c = (
  Ok c.in_ok-found-in-Ok.found,
  record { read = c.in-Ok.read; copy = c.in-Ok.ensures.copy; asked = c.in_ok-found-in-Ok.ensures.asked },
  c.on.ensures ∙ ap verdict_on c.deref.ensures.value,
  c.in-Ok-write_checked.ensures,
  c.hear_notes.ensures,
)

pub returns-clause-answers : goal.returns-clause-answers
returns-clause-answers g c = (Err c.in-Err.fault, (refl, c.in-Err.ensures.fault), refl, Appends-nil _, c.hear_fault.ensures)
