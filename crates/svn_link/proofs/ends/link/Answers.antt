use Rattle.std.proofs.Common.{◌∙◌, sym, ap, subst, rules}
use Rattle.svn_link.specs.Calls.{EndsAtLast}
use Rattle.svn_link.proofs.CallLists.{ends-nil}
use Rattle.svn_link.proofs.Moves.{begins, splits}
use Rattle.svn_link.proofs.ends.link.Goals as goal

pub bounded_with-requires-clause-rule : goal.bounded_with-requires-clause-rule
bounded_with-requires-clause-rule c = begins

pub another-takes-requires-clause-rule : goal.another-takes-requires-clause-rule
another-takes-requires-clause-rule c = splits _ _ (search rules) (search rules)

pub invariant_of-outbox : goal.invariant_of-outbox
invariant_of-outbox c =
    let none = ap (λ h. h.sent) c.another-takes.ensures.rule.0 ∙ ap (λ h. h.sent) c.in_ok-sender.ensures.3 in
    record {
      seat = search rules;
      sends = search rules;
      counted = search rules;
      over = search rules;
      last = subst EndsAtLast (sym none) ends-nil;
    }
