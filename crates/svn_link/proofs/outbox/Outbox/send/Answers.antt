use Rattle.std.proofs.Common.{◌≡◌, ◌+◌, ◌∙◌, ◌∷◌, [], length, true, false, sym, ap, subst, length-append}
use Rattle.crossbeam_channel.specs.Claims.{view as hand_of}
use Rattle.svn_link.specs.declared.queue.Hand.{Hand}
use Rattle.svn_link.specs.Calls.{is_over, EndsAtLast}
use Rattle.svn_link.specs.Queue.{hand, sent_more}
use Rattle.svn_link.proofs.CallLists.{is_over-snoc, ends-snoc}
use Rattle.svn_link.proofs.outbox.Outbox.send.Goals as goal

pub invariant_of-self : goal.invariant_of-self
invariant_of-self g c =
    let was = c.self.invariant in
    let before = (hand_of c.self.inside.pass).sent in
    let calls = ap (λ h. h.sent) c.push.ensures.sent in
    let not_over = subst (λ l. is_over l ≡ false) (sym (ap (λ e. e.calls) c.self.view_is)) c.requires.open in
    record {
      seat = c.push.ensures.seat;
      sends = c.push.ensures.sent ∙ ap (λ (h : Hand). sent_more h c.args.call) was.sends ∙ ap (λ l. hand true false l []) (sym calls);
      counted = ap (λ n. n + 1) was.counted ∙ sym (length-append before (c.args.call ∷ [])) ∙ ap length (sym calls);
      over = c.is_last-over.ensures ∙ sym (is_over-snoc before c.args.call) ∙ ap is_over (sym calls);
      last = subst EndsAtLast (sym calls) (ends-snoc before c.args.call was.last not_over);
    }
