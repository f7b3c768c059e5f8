use Rattle.std.proofs.Common.{◌≡◌, ap, ◌∙◌}
use Rattle.svn_disk.proofs.EachChange.{stay_along}
use Rattle.svn_disk.proofs.bringing.plan_of.Goals as goal

pub returns-clause-each : goal.returns-clause-each
returns-clause-each g c =
    let old = c.args.existing.now.copy in
    let new = c.args.wanted.now.copy in
    let first = c.in_ok-plan.plan in
    let next = c.restore_nodes.new.self in
    let last = c.restore.new.self in
    let o : next.was.now ≡ old = ap (λ r. r.now) c.in_ok-restore_nodes.ensures.copies.0 ∙ c.in_ok-plan.ensures.copies.0 in
    let n : next.wanted.now ≡ new = ap (λ r. r.now) c.in_ok-restore_nodes.ensures.copies.1 ∙ c.in_ok-plan.ensures.copies.1 in
    let one = stay_along old new first.was.now first.wanted.now c.in_ok-plan.ensures.copies.0 c.in_ok-plan.ensures.copies.1 first.changes.entries
    next.changes.entries c.in_ok-restore_nodes.ensures.stay in
    let two = stay_along old new next.was.now next.wanted.now o n next.changes.entries last.changes.entries c.in_ok-restore.ensures.stay in
    λ p. two p (one p (c.in_ok-plan.ensures.each p))
