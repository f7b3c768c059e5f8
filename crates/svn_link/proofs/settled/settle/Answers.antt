use Rattle.std.proofs.Common.{◌∙◌, ◌++◌, sym, ap, subst, rules}
use Rattle.svn_link.specs.Calls.{EndsAtLast}
use Rattle.svn_link.proofs.Moves.{joins, remains}
use Rattle.svn_link.proofs.CallLists.{taken_whole}
use Rattle.svn_link.proofs.settled.settle.Goals as goal

pub absorb-requires-clause-rule : goal.absorb-requires-clause-rule
absorb-requires-clause-rule c = joins _ _ _ _ (ap (λ h. h.sends) c.outbox.invariant.sends) (ap (λ h. h.takes) c.inbox.invariant.takes)

pub learn_as-requires-clause-rule : goal.learn_as-requires-clause-rule
learn_as-requires-clause-rule c = remains _ _ (search rules) (search rules)

pub returns-clause-whole : goal.returns-clause-whole
returns-clause-whole c over =
    let learned = c.learn_as.ensures.rule in
    let sent = ap (λ h. h.sent) c.absorb.ensures.rule ∙ ap (λ e. e.calls) c.outbox.view_is in
    let taken = ap (λ h. h.taken) c.absorb.ensures.rule ∙ ap (λ e. e.calls) c.inbox.view_is in
    let order = sym sent ∙ learned.1 ∙ ap (λ l. l ++ learned.0) taken in
    let last = subst EndsAtLast (ap (λ e. e.calls) c.outbox.view_is) c.outbox.invariant.last in
    let all = taken_whole c.args.outbox.calls c.args.inbox.calls learned.0 order last over in
    ap (λ h. h.taken) c.learn_as.ensures.channel.2 ∙ taken ∙ all ∙ sym sent ∙ ap (λ h. h.sent) (sym c.learn_as.ensures.channel.2)

pub returns-clause-last : goal.returns-clause-last
returns-clause-last c =
    let sent = ap (λ h. h.sent) c.learn_as.ensures.channel.2 ∙ ap (λ h. h.sent) c.absorb.ensures.rule in
    subst EndsAtLast (sym sent) c.outbox.invariant.last
