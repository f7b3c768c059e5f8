use Rattle.std.proofs.Common.{sym, ap, ◌∙◌}
use Rattle.svn_ask.specs.Windows.{Queue, first_of}
use Rattle.svn_ask.proofs.WindowLemmas.{one_less}
use Rattle.svn_ask.proofs.questions.Questions.pass_first.Goals as goal

pub invariant_of-self : goal.invariant_of-self
invariant_of-self c =
    one_less _ c.self.inside.unanswered.now _ _ _ _ c.in-Some.question c.self.invariant
    (sym c.in-Some.is ∙ c.first.ensures ∙ ap (λ (w : Queue). first_of w.sent) (sym c.self.view_is)) c.question_len.ensures
    c.after_first-self-inside.ensures
