use Rattle.std.proofs.Common.{nat_eq, ◌≡◌, ℕ, ◌++◌, [], ◌∷◌, true, length, Option, None, Some, is_some, Err, IfOk}
use Rattle.std.proofs.Common.{IsOk, refl, sym, ap, subst}
use Rattle.std.proofs.Common.{◌∙◌, arith}
use Rattle.std.proofs.lemmas.Result.{on_err_weaker, on_ok_weaker}
use Rattle.svn_serials.specs.Serials.{get}
use Rattle.std.specs.Map.{set_value}
use Rattle.svn_serials.proofs.Pairs.{rising_written, updates_written}
use Rattle.svn_pool.specs.Faults.{Answers}
use Rattle.svn_pool.specs.Linked.{Changes, bare, live_at}
use Rattle.svn_pool.specs.Pools.{Entry, blocks_of, parent_of, strings_of_pool}
use Rattle.svn_pool.specs.Refusals.{fault_if_live}
use Rattle.svn_pool.specs.Stores.{Store, needs_none, stored, string_fault}
use Rattle.svn_pool.specs.declared.fault.PoolFault.TheVariants.{Gone}
use Rattle.svn_pool.specs.declared.links.Linked.{Linked}
use Rattle.svn_pool.proofs.Bare.{changes-bare, holding, live-bare, live-found, pool_in, relinked-bare}
use Rattle.svn_pool.proofs.Counts.{sum_within, sum_written}
use Rattle.svn_pool.proofs.Kinship.{linked-written}
use Rattle.svn_pool.proofs.live.push_onto.Goals as goal

pub returns-in_default-clause-answers : goal.returns-in_default-clause-answers
returns-in_default-clause-answers g c =
    let none : live_at (bare c.args.pools.now) c.args.serial ≡ None =
    live-bare c.args.pools.now c.args.serial ∙ ap pool_in (sym c.in_default.ensures.value) in
    subst
    (λ (o : Option Entry). Answers {T = ℕ} (fault_if_live o (λ e. string_fault c.args.stock.now e.strings (length c.args.bytes.now)))
    (Err Gone))
    (sym none) refl

pub returns-in_default-clause-served : goal.returns-in_default-clause-served
returns-in_default-clause-served g c = λ fault _.
    let none : live_at (bare c.args.pools.now) c.args.serial ≡ None =
    live-bare c.args.pools.now c.args.serial ∙ ap pool_in (sym c.in_default.ensures.value) in
    absurd (let clash : Some Gone ≡ None =
    sym (ap (λ (o : Option Entry). fault_if_live o (λ e. string_fault c.args.stock.now e.strings (length c.args.bytes.now))) none)
    ∙ fault in
    let no : ⊥ = cc in no)

pub push-requires : goal.push-requires
push-requires g c =
    let within = sum_within blocks_of c.args.pools.now c.args.serial c.in-Some.ensures.value in
    let counted = c.requires.counted in
    omega (arith, within, counted)

pub returns-clause-linked : goal.returns-clause-linked
returns-clause-linked g c =
    let l = c.in-Some.linked.now in
    let w : Linked Entry = holding l c.push.new.self in
    let found : get c.args.pools.now c.args.serial ≡ Some l = sym c.in-Some.ensures.value in
    linked-written c.args.pools.now
    (set_value (nat_eq c.args.serial) c.args.pools.now w) c.requires.linked c.args.serial l c.push.new.self found
    c.push.ensures.parent (updates_written c.args.pools.now c.args.serial w (ap is_some found))
    (rising_written c.args.pools.now c.args.serial w c.get_mut.ensures.rising)

pub returns-clause-counted : goal.returns-clause-counted
returns-clause-counted g c =
    let l = c.in-Some.linked.now in
    let w : Linked Entry = holding l c.push.new.self in
    let sum =
    sum_written blocks_of c.args.pools.now c.args.serial c.in-Some.ensures.value
    (set_value (nat_eq c.args.serial) c.args.pools.now w) c.push.new.self
    refl in
    let counted = c.requires.counted in
    let blocks = c.push.ensures.blocks in
    omega (arith, sum, counted, blocks)

pub returns-clause-answers : goal.returns-clause-answers
returns-clause-answers g c =
    let found = live-found c.args.pools.now c.args.serial c.in-Some.ensures.value in
    subst
    (λ (o : Option Entry). Answers (fault_if_live o (λ e. string_fault c.args.stock.now e.strings (length c.args.bytes.now))) c.push.result)
    (sym found) c.push.ensures.answers

pub returns-clause-served : goal.returns-clause-served
returns-clause-served g c =
    let found = live-found c.args.pools.now c.args.serial c.in-Some.ensures.value in
    subst (λ (o : Option Entry). fault_if_live o (λ e. string_fault c.args.stock.now e.strings (length c.args.bytes.now)) ≡ None
    → needs_none c.args.stock.now (strings_of_pool o) (length c.args.bytes.now) ≡ true → IsOk c.push.result)
    (sym found) (λ fault none. c.push.ensures.served none fault)

pub returns-clause-place : goal.returns-clause-place
returns-clause-place g c =
    let found = live-found c.args.pools.now c.args.serial c.in-Some.ensures.value in
    subst (λ (o : Option Entry). IfOk c.push.result (λ place. place ≡ length (strings_of_pool o))) (sym found) c.push.ensures.place

pub returns-clause-pushed : goal.returns-clause-pushed
returns-clause-pushed g c =
    let l = c.in-Some.linked.now in
    let w : Linked Entry = holding l c.push.new.self in
    let end = set_value (nat_eq c.args.serial) c.args.pools.now w in
    let found = live-found c.args.pools.now c.args.serial c.in-Some.ensures.value in
    let change =
    changes-bare c.args.pools.now end c.args.serial (Some w)
    (updates_written c.args.pools.now c.args.serial w (ap is_some (sym c.in-Some.ensures.value))) in
    on_ok_weaker c.push.result
    (λ pushed. subst (λ (o : Option Entry). Changes (bare c.args.pools.now) (bare end) c.args.serial
    (Some (record { parent = parent_of o; strings = strings_of_pool o ++ c.args.bytes.now ∷ [] })))
    (sym found) (subst (λ (e : Entry). Changes (bare c.args.pools.now) (bare end) c.args.serial (Some e)) pushed change))
    c.push.ensures.pushed

pub returns-clause-spare : goal.returns-clause-spare
returns-clause-spare g c =
    let found = live-found c.args.pools.now c.args.serial c.in-Some.ensures.value in
    on_ok_weaker c.push.result
    (λ counts. subst (λ (o : Option Entry).
    c.push.new.stock.spare ≡ (stored c.args.stock.now (strings_of_pool o) (length c.args.bytes.now)).spare) (sym found)
    (ap (λ (b : Store). b.spare) counts))
    c.push.ensures.counts

pub returns-clause-refused : goal.returns-clause-refused
returns-clause-refused g c =
    let l = c.in-Some.linked.now in
    let w : Linked Entry = holding l c.push.new.self in
    on_err_weaker c.push.result
    (λ same. relinked-bare c.args.pools.now (set_value (nat_eq c.args.serial) c.args.pools.now w) c.args.serial l w
    (sym c.in-Some.ensures.value) same
    refl)
    c.push.ensures.refused
