use Rattle.std.proofs.Common.{nat_eq, ◌≡◌, ◌+◌, ◌-◌, [], Option, Some, is_some, refl, sym, ap, subst, ◌∙◌, arith}
use Rattle.svn_serials.specs.Serials.{get}
use Rattle.std.specs.Map.{set_value}
use Rattle.svn_serials.proofs.Pairs.{rising_written, updates_written}
use Rattle.svn_pool.specs.Linked.{Changes, bare, first_of}
use Rattle.svn_pool.specs.Pools.{Entry, blocks_of, fixed_of, parent_of}
use Rattle.svn_pool.specs.Stores.{Store}
use Rattle.svn_pool.specs.declared.links.Linked.{Linked}
use Rattle.svn_pool.proofs.Bare.{changes-bare, holding, live-bare, live-found, pool_in}
use Rattle.svn_pool.proofs.Counts.{sum_within, sum_written}
use Rattle.svn_pool.proofs.Kinship.{linked-written}
use Rattle.svn_pool.proofs.live.empty.Goals as goal

pub returns-in_default-clause-live : goal.returns-in_default-clause-live
returns-in_default-clause-live g c =
    ap (λ (o : Option (Linked Entry)). is_some (pool_in o)) c.in_default.ensures.value
    ∙ sym (ap is_some (live-bare c.args.pools.now c.args.serial))

pub clear-requires : goal.clear-requires
clear-requires g c =
    let within = sum_within blocks_of c.args.pools.now c.args.serial c.in-Some.ensures.value in
    let counted = c.requires.counted in
    omega (arith, within, counted)

pub returns-clause-live : goal.returns-clause-live
returns-clause-live g c =
    ap (λ (o : Option (Linked Entry)). is_some (pool_in o)) c.in-Some.ensures.value
    ∙ sym (ap is_some (live-bare c.args.pools.now c.args.serial))

pub returns-clause-first : goal.returns-clause-first
returns-clause-first g c =
    let w : Linked Entry = holding c.in-Some.linked.now c.clear.new.self in
    sym (ap first_of (updates_written c.args.pools.now c.args.serial w (ap is_some (sym c.in-Some.ensures.value))).here)

pub returns-clause-linked : goal.returns-clause-linked
returns-clause-linked g c =
    let l = c.in-Some.linked.now in
    let w : Linked Entry = holding l c.clear.new.self in
    let found : get c.args.pools.now c.args.serial ≡ Some l = sym c.in-Some.ensures.value in
    linked-written c.args.pools.now
    (set_value (nat_eq c.args.serial) c.args.pools.now w) c.requires.linked c.args.serial l c.clear.new.self found
    (ap (λ (e : Entry). e.parent) c.clear.ensures.emptied) (updates_written c.args.pools.now c.args.serial w (ap is_some found))
    (rising_written c.args.pools.now c.args.serial w c.get_mut.ensures.rising)

pub returns-clause-counted : goal.returns-clause-counted
returns-clause-counted g c =
    let l = c.in-Some.linked.now in
    let w : Linked Entry = holding l c.clear.new.self in
    let sum =
    sum_written blocks_of c.args.pools.now c.args.serial c.in-Some.ensures.value
    (set_value (nat_eq c.args.serial) c.args.pools.now w) c.clear.new.self
    refl in
    let none : blocks_of c.clear.new.self ≡ 0 = ap blocks_of c.clear.ensures.emptied in
    let used : c.clear.new.stock.used ≡ c.args.stock.now.used - blocks_of l.pool = ap (λ (b : Store). b.used) c.clear.ensures.counts in
    let counted = c.requires.counted in
    omega (arith, sum, none, used, counted)

pub returns-clause-fixed : goal.returns-clause-fixed
returns-clause-fixed g c =
    let l = c.in-Some.linked.now in
    let w : Linked Entry = holding l c.clear.new.self in
    let sum =
    sum_written fixed_of c.args.pools.now c.args.serial c.in-Some.ensures.value
    (set_value (nat_eq c.args.serial) c.args.pools.now w) c.clear.new.self
    refl in
    let none : fixed_of c.clear.new.self ≡ 0 = ap fixed_of c.clear.ensures.emptied in
    let spare : c.clear.new.stock.spare ≡ c.args.stock.now.spare + fixed_of l.pool = ap (λ (b : Store). b.spare) c.clear.ensures.counts in
    omega (arith, sum, none, spare)

pub returns-clause-emptied : goal.returns-clause-emptied
returns-clause-emptied g c =
    let l = c.in-Some.linked.now in
    let w : Linked Entry = holding l c.clear.new.self in
    let end = set_value (nat_eq c.args.serial) c.args.pools.now w in
    let change =
    changes-bare c.args.pools.now end c.args.serial (Some w)
    (updates_written c.args.pools.now c.args.serial w (ap is_some (sym c.in-Some.ensures.value))) in
    let parent = ap parent_of (live-found c.args.pools.now c.args.serial c.in-Some.ensures.value) in
    subst (λ (o : Option Entry). Changes (bare c.args.pools.now) (bare end) c.args.serial o)
    (ap Some (c.clear.ensures.emptied ∙ (λ i. record { parent = sym parent i; strings = [] }))) change
