use Rattle.svn_ask.proofs.AnswerLemmas.{answers_are_said}
use Rattle.svn_ask.proofs.laws.answers_are_said.Goals as goal

pub returns : goal.returns
returns c = answers_are_said
