use Rattle.std.proofs.Common.{refl, sym, ◌∙◌}
use Rattle.svn_answers.proofs.asked.Asked.audit_copy.Goals as goal

pub returns-then-has_early-clause-refused : goal.returns-then-has_early-clause-refused
returns-then-has_early-clause-refused g c = (
  c.in_ok-found.found,
  c.in_ok-found.ensures.audited,
  refl,
  sym c.has_early.ensures ∙ c.if-has_early.true,
)

pub returns-then-has_untold-clause-refused : goal.returns-then-has_untold-clause-refused
returns-then-has_untold-clause-refused g c = (
  c.in_ok-found.found,
  c.in_ok-found.ensures.audited,
  refl,
  sym c.has_untold.ensures ∙ c.if-has_untold.true,
)
