use Rattle.std.proofs.Common.{rules, ◌≡◌, ℕ, List, ◌∷◌, ◌∙◌, ◌+◌, [], length, ap, subst, arith, length-append, refl, sym}
use Rattle.std.specs.Prelude.{Option}
use Rattle.md5.specs.Md5.{md5}
use Rattle.svn_editor.specs.declared.call.Call.{Call}
use Rattle.svn_model.specs.Effects.{AllAccepted}
use Rattle.svn_run.specs.Takes.{unaborted, Offered}
use Rattle.svn_run.proofs.Applied.{Holding, begins, holds_next, within_next}
use Rattle.svn_run.proofs.taking.take_all.Goals as goal

pub loop-init : goal.loop-init
loop-init g c =
    let first = c.args.carrier.now in
    record {
      link = refl;
      notice = refl;
      same_mode = refl;
      counted = omega arith;
      holds = λ w0 carried accept.
          let mode = first.mode.now in
          subst
          (λ (y : List Call × Option ℕ). Holding mode w0 first.pending first.copy.nodes.entries (unaborted y.0) y.1 0)
          (λ i. (sym c.requires.calls i, sym c.requires.told i)) (begins mode w0 first.pending first.copy.nodes.entries carried);
    }

pub loop-preserved : goal.loop-preserved
loop-preserved g c =
    let i = c.loop.invariant in
    let s = c.take_one.ensures.step in
    let mode = c.args.carrier.now.mode.now in
    let was = c.loop.taken in
    let now = c.take_one.new.taken in
    let old = c.loop.carrier in
    let new = c.take_one.new.carrier in
    let longer : length now.inbox.calls ≡ length was.inbox.calls + 1 = ap length s.calls ∙ length-append was.inbox.calls (s.call ∷ []) in
    let one = within_next old.mode.now s.call was.teller.number was.accepted old.pending old.copy.nodes.entries now.teller.number now.accepted
    new.pending new.copy.nodes.entries s.offered in
    let before = i.counted in
    record {
      link = s.link ∙ i.link;
      notice = s.notice ∙ i.notice;
      same_mode = c.take_one.ensures.same_mode ∙ i.same_mode;
      counted = omega arith;
      holds = λ w0 carried accept.
          subst (λ l. Holding mode w0 new.pending new.copy.nodes.entries (unaborted l) now.teller.number now.accepted) (sym s.calls)
          (holds_next mode w0 c.laws.ensures.more was.inbox.calls s.call was.teller.number was.accepted old.pending old.copy.nodes.entries
          now.teller.number now.accepted new.pending new.copy.nodes.entries
          (subst (λ m. Offered m s.call was.teller.number was.accepted old.pending old.copy.nodes.entries now.teller.number now.accepted new.pending
          new.copy.nodes.entries) (ap (λ m. m.now) i.same_mode) s.offered)
          (subst (λ l. AllAccepted md5 mode w0 (unaborted l)) s.calls accept) (i.holds w0 carried));
    }

pub returns : goal.returns
returns g c = λ w0 carried.
    let i = c.loop.invariant in
    record {
      link = i.link;
      notice = i.notice;
      over = search rules;
      counted = λ accept. let h = i.holds w0 carried accept in h.counted;
      copy = λ accept. let h = i.holds w0 carried accept in h.copy;
    }
