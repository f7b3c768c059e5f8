use Rattle.std.proofs.Common.{◌≡◌, ap, ◌∙◌}
use Rattle.svn_disk.proofs.EachChange.{stay_along}
use Rattle.svn_disk.proofs.plan.Plan.restore_nodes.Goals as goal

pub loop-path-preserved : goal.loop-path-preserved
loop-path-preserved c =
    let old = c.args.self.now.was.now in
    let new = c.args.self.now.wanted.now in
    let before = c.loop-path.self in
    let o : before.was.now ≡ old = ap (λ r. r.now) c.loop-path.invariant.copies.0 in
    let n : before.wanted.now ≡ new = ap (λ r. r.now) c.loop-path.invariant.copies.1 in
    let stay = stay_along old new before.was.now before.wanted.now o n before.changes.entries c.restore_if_it_stays.new.self.changes.entries
    c.in_ok-restore_if_it_stays.ensures.stay in
    record {
      copies = (c.in_ok-restore_if_it_stays.ensures.copies.0 ∙ c.loop-path.invariant.copies.0, c.in_ok-restore_if_it_stays.ensures.copies.1 ∙ c.loop-path.invariant.copies.1);
      stay = λ p is. stay p (c.loop-path.invariant.stay p is);
    }
