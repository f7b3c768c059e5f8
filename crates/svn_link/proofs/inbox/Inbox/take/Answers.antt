use Rattle.std.proofs.Common.{◌+◌, ◌∙◌, ◌∷◌, [], length, true, false, sym, ap, length-append}
use Rattle.crossbeam_channel.specs.Claims.{view as hand_of}
use Rattle.svn_link.specs.declared.queue.Hand.{Hand}
use Rattle.svn_link.specs.Calls.{is_over}
use Rattle.svn_link.specs.Queue.{hand, taken_more}
use Rattle.svn_link.proofs.CallLists.{is_over-snoc}
use Rattle.svn_link.proofs.inbox.Inbox.take.Goals as goal

pub invariant_of-self : goal.invariant_of-self
invariant_of-self g c =
    let was = c.self.invariant in
    let before = (hand_of c.self.inside.pass).taken in
    let call = c.pop-call.result in
    let taken = c.pop-call.ensures.taken.0 in
    let calls = ap (λ h. h.taken) taken in
    record {
      seat = c.pop-call.ensures.seat;
      takes = taken ∙ ap (λ (h : Hand). taken_more h call) was.takes ∙ ap (λ l. hand false true [] l) (sym calls);
      counted = ap (λ n. n + 1) was.counted ∙ sym (length-append before (call ∷ [])) ∙ ap length (sym calls);
      over = c.is_last-over.ensures ∙ sym (is_over-snoc before call) ∙ ap is_over (sym calls);
    }
