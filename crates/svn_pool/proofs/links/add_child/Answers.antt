use Rattle.std.proofs.Common.{◌≡◌, ◌<◌, ℕ, false, true, Option, None, Some, Ok, Err, IsSome, refl, sym, ap, subst, ◌∙◌, arith}
use Rattle.std.proofs.Math.Path.{transport}
use Rattle.svn_lists.proofs.Options.{none_from_test, none_from_not_some}
use Rattle.svn_serials.specs.Serials.{get}
use Rattle.svn_serials.proofs.Pairs.{updates_put}
use Rattle.std.specs.BTreeMap.{insert_entry}
use Rattle.std.specs.List.{sum_by}
use Rattle.std.specs.Map.{values_of}
use Rattle.std.specs.Ordering.{nat_cmp}
use Rattle.svn_pool.specs.Faults.{Answers}
use Rattle.svn_pool.specs.Linked.{Changes, LinkedMap, LivePools, bare, live_at}
use Rattle.svn_pool.specs.Pools.{Entry, blocks_of, fixed_of}
use Rattle.svn_pool.specs.declared.fault.PoolFault.{PoolFault}
use Rattle.svn_pool.specs.declared.fault.PoolFault.TheVariants.{Gone, Memory}
use Rattle.svn_pool.specs.declared.links.Linked.{Linked}
use Rattle.svn_pool.specs.declared.links.Anchor.TheVariants.{Next}
use Rattle.svn_pool.proofs.Bare.{changes-bare, is_some-bare, put-bare}
use Rattle.svn_pool.proofs.Counts.{sum_with}
use Rattle.svn_pool.proofs.Kinship.{IsMoved, led_again, linked-add, linked-led, live_after}
use Rattle.svn_pool.proofs.Outcomes.{fault_if_gone, fault_if_some}
use Rattle.svn_pool.proofs.links.add_child.Goals as goal

-- a new pool without strings adds nothing to what is counted
held_still : (f : Entry → ℕ) (old led mid new : LinkedMap) (s : ℕ) (child : Linked Entry)
    → ((c : ℕ) → IsSome (live_at (bare old) c) → c < s) → mid ≡ insert_entry nat_cmp led s child
    → bare led ≡ bare old → bare new ≡ bare mid → f child.pool ≡ 0 → sum_by f (values_of (bare new)) ≡ sum_by f (values_of (bare old))
held_still f old led mid new s child fresh put before after zero =
    let none : get led s ≡ None =
    none_from_not_some (get led s) (λ h.
    let lt = fresh s (is_some-bare old s ∙ live_after led old (sym before) s h) in
    omega (arith, lt)) in
    let sum = sum_with f (bare led) (bare mid) s child.pool (put-bare led mid s child none put) in
    let same : sum_by f (values_of (bare mid)) ≡ sum_by f (values_of (bare led)) = omega (arith, sum, zero) in
    ap (λ (ps : LivePools). sum_by f (values_of ps)) after ∙ same ∙ ap (λ (ps : LivePools). sum_by f (values_of ps)) before

pub returns-in_default-clause-answers : goal.returns-in_default-clause-answers
returns-in_default-clause-answers g c =
    let o = live_at (bare c.args.pools.now) c.args.parent in
    let none : o ≡ None = none_from_test o (is_some-bare c.args.pools.now c.args.parent ∙ sym c.in_default.ensures.live) in
    subst (λ (f : Option PoolFault). Answers {T = Unit {0}} f (Err Gone)) (sym (fault_if_gone o _ none)) refl

pub returns-in_default-clause-linked : goal.returns-in_default-clause-linked
returns-in_default-clause-linked g c =
    let e = c.set_first.ensures in
    linked-led c.args.pools.now c.set_first.new.pools c.args.parent (Some c.args.serial)
    (record { first = e.first; next = e.next; place = e.place; others = e.others; pools = e.pools }) c.requires.linked
    (λ live. let no : false ≡ true = c.in_default.ensures.live ∙ live in absurd (let none : ⊥ = cc in none))

pub returns-in_default-insert-clause-answers : goal.returns-in_default-insert-clause-answers
returns-in_default-insert-clause-answers g c =
    let o = live_at (bare c.args.pools.now) c.args.parent in
    let live : IsSome o = is_some-bare c.args.pools.now c.args.parent ∙ sym c.in-Some.ensures.live in
    subst (λ (f : Option PoolFault). Answers {T = Unit {0}} f (Err Memory)) (sym (fault_if_some o None live)) refl

pub returns-in_default-insert-clause-linked : goal.returns-in_default-insert-clause-linked
returns-in_default-insert-clause-linked g c =
    let e = c.set_first.ensures in
    let back = c.set_first-in_default-insert.ensures in
    linked-led c.args.pools.now c.set_first-in_default-insert.new.pools c.args.parent c.in-Some.older
    (led_again c.args.pools.now c.set_first.new.pools c.insert.new.self c.set_first-in_default-insert.new.pools c.args.parent
    (Some c.args.serial) c.in-Some.older
    (record { first = e.first; next = e.next; place = e.place; others = e.others; pools = e.pools })
    c.in_default-insert.ensures.refused
    (record { first = back.first; next = back.next; place = back.place; others = back.others; pools = back.pools }))
    c.requires.linked (λ _. sym c.in-Some.ensures.was)

pub returns-clause-answers : goal.returns-clause-answers
returns-clause-answers g c =
    let o = live_at (bare c.args.pools.now) c.args.parent in
    let live : IsSome o = is_some-bare c.args.pools.now c.args.parent ∙ sym c.in-Some.ensures.live in
    subst (λ (f : Option PoolFault). Answers {T = Unit {0}} f (Ok tt)) (sym (fault_if_some o None live)) tt

pub returns-clause-linked : goal.returns-clause-linked
returns-clause-linked g c =
    let child : Linked Entry = record { pool = c.new.result; first = None; next = c.in-Some.older; before = None } in
    let e = c.set_first.ensures in
    let moved = c.move_to.ensures in
    linked-add c.args.pools.now c.set_first.new.pools c.insert.new.self c.requires.linked c.args.serial c.args.parent child
    (sym c.in-Some.ensures.live) c.requires.fresh (omega arith)
    (λ i. record { pool = c.new.ensures i; first = None; next = c.in-Some.ensures.was i; before = None })
    (record { first = e.first; next = e.next; place = e.place; others = e.others; pools = e.pools })
    (updates_put c.set_first.new.pools c.insert.new.self c.args.serial _ c.in-Ok.ensures.put) c.insert.ensures.rising c.move_to.new.pools
    (subst (λ (z : Option ℕ). IsMoved c.insert.new.self c.move_to.new.pools z (Next c.args.serial)) c.in-Some.ensures.was
    (record { moved = moved.moved; others = moved.others; standing = moved.standing; pools = moved.pools }))

pub returns-clause-added : goal.returns-clause-added
returns-clause-added g c =
    transport
    (λ i. Changes (c.set_first.ensures.pools i) (sym c.move_to.ensures.pools i) c.args.serial (Some (c.new.ensures i)))
    (changes-bare c.set_first.new.pools c.insert.new.self c.args.serial _
    (updates_put c.set_first.new.pools c.insert.new.self c.args.serial _ c.in-Ok.ensures.put))

pub returns-clause-blocks : goal.returns-clause-blocks
returns-clause-blocks g c =
    held_still blocks_of c.args.pools.now c.set_first.new.pools c.insert.new.self c.move_to.new.pools c.args.serial _ c.requires.fresh
    c.in-Ok.ensures.put c.set_first.ensures.pools c.move_to.ensures.pools (ap blocks_of c.new.ensures)

pub returns-clause-fixed : goal.returns-clause-fixed
returns-clause-fixed g c =
    held_still fixed_of c.args.pools.now c.set_first.new.pools c.insert.new.self c.move_to.new.pools c.args.serial _ c.requires.fresh
    c.in-Ok.ensures.put c.set_first.ensures.pools c.move_to.ensures.pools (ap fixed_of c.new.ensures)
