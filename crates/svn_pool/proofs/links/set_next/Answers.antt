use Rattle.std.proofs.Common.{nat_eq, is_some, refl, sym, ap, ◌∙◌}
use Rattle.std.specs.Map.{set_value}
use Rattle.svn_serials.proofs.Pairs.{updates_written}
use Rattle.svn_pool.specs.Linked.{first_of, next_of, place_in}
use Rattle.svn_pool.specs.Pools.{Entry}
use Rattle.svn_pool.specs.declared.links.Linked.{Linked}
use Rattle.svn_pool.proofs.Bare.{relinked-bare}
use Rattle.svn_pool.proofs.links.set_next.Goals as goal

pub returns-clause-next : goal.returns-clause-next
returns-clause-next g c = λ live.
    let l = c.in-Some.linked.now in
    let w : Linked Entry = record { pool = l.pool; first = l.first; next = c.args.next; before = l.before } in
    ap next_of (updates_written c.args.pools.now c.args.serial w live).here

pub returns-clause-first : goal.returns-clause-first
returns-clause-first g c =
    let l = c.in-Some.linked.now in
    let w : Linked Entry = record { pool = l.pool; first = l.first; next = c.args.next; before = l.before } in
    ap first_of (updates_written c.args.pools.now c.args.serial w (ap is_some (sym c.in-Some.ensures.value))).here
    ∙ ap first_of c.in-Some.ensures.value

pub returns-clause-place : goal.returns-clause-place
returns-clause-place g c =
    let l = c.in-Some.linked.now in
    let w : Linked Entry = record { pool = l.pool; first = l.first; next = c.args.next; before = l.before } in
    ap place_in (updates_written c.args.pools.now c.args.serial w (ap is_some (sym c.in-Some.ensures.value))).here
    ∙ ap place_in c.in-Some.ensures.value

pub returns-clause-others : goal.returns-clause-others
returns-clause-others g c =
    let l = c.in-Some.linked.now in
    let w : Linked Entry = record { pool = l.pool; first = l.first; next = c.args.next; before = l.before } in
    (updates_written c.args.pools.now c.args.serial w (ap is_some (sym c.in-Some.ensures.value))).away

pub returns-clause-pools : goal.returns-clause-pools
returns-clause-pools g c =
    let l = c.in-Some.linked.now in
    let w : Linked Entry = record { pool = l.pool; first = l.first; next = c.args.next; before = l.before } in
    relinked-bare c.args.pools.now (set_value (nat_eq c.args.serial) c.args.pools.now w) c.args.serial l w (sym c.in-Some.ensures.value)
    refl refl
