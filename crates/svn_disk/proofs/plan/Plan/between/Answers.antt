use Rattle.std.proofs.Common.{◌≡◌, ap}
use Rattle.svn_disk.proofs.EachChange.{planned_along, stay_along, both_planned}
use Rattle.svn_disk.proofs.plan.Plan.between.Goals as goal

pub returns-clause-each : goal.returns-clause-each
returns-clause-each c =
    let old = c.args.old.now in
    let new = c.args.new.now in
    let first = c.note_all.new.self in
    let last = c.note_all-2.new.self.changes.entries in
    let o : first.was.now ≡ old = ap (λ r. r.now) c.in_ok-note_all.ensures.copies.0 in
    let n : first.wanted.now ≡ new = ap (λ r. r.now) c.in_ok-note_all.ensures.copies.1 in
    both_planned old new first.changes.entries last c.in_ok-note_all.ensures.each
    (stay_along old new first.was.now first.wanted.now o n first.changes.entries last c.in_ok-note_all-2.ensures.stay)
    (λ p has. planned_along old new first.was.now first.wanted.now o n last p (c.in_ok-note_all-2.ensures.each p has))
