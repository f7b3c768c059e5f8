use Rattle.std.proofs.Common.{◌≡◌, ap, ◌∙◌}
use Rattle.svn_disk.proofs.EachChange.{planned_along, stay_along, covers_more}
use Rattle.svn_disk.proofs.plan.Plan.note_all.Goals as goal

pub loop-path-preserved : goal.loop-path-preserved
loop-path-preserved c =
    let old = c.args.self.now.was.now in
    let new = c.args.self.now.wanted.now in
    let before = c.loop-path.self in
    let entries = before.changes.entries in
    let more = c.note.new.self.changes.entries in
    let o : before.was.now ≡ old = ap (λ r. r.now) c.loop-path.invariant.copies.0 in
    let n : before.wanted.now ≡ new = ap (λ r. r.now) c.loop-path.invariant.copies.1 in
    let here = planned_along old new before.was.now before.wanted.now o n more c.in-Some.path.now c.in_ok-note.ensures.planned in
    let stay = stay_along old new before.was.now before.wanted.now o n entries more c.in_ok-note.ensures.stay in
    record {
      copies = (c.in_ok-note.ensures.copies.0 ∙ c.loop-path.invariant.copies.0, c.in_ok-note.ensures.copies.1 ∙ c.loop-path.invariant.copies.1);
      covers = covers_more old new c.args.copy.now entries more c.in-Some.path.now c.in-Some.field-0-1.now c.loop-path.path-iterator c.next.new.self
          c.in-Some.ensures.steps here stay c.loop-path.invariant.covers;
      stay = λ p is. stay p (c.loop-path.invariant.stay p is);
    }
