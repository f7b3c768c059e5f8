use Rattle.std.proofs.Common.{nat_eq, ◌≡◌, ◌+◌, ℕ, [], Option, None, Some, IfSome, is_some, length, refl, sym, ap, subst, ◌∙◌, arith}
use Rattle.svn_lists.proofs.Options.{not_some_from_none}
use Rattle.svn_serials.specs.Serials.{get}
use Rattle.svn_serials.proofs.Pairs.{length_removed, remove_none, updates_removed}
use Rattle.std.specs.Map.{remove_entry}
use Rattle.std.specs.Option.{unwrap_or}
use Rattle.svn_pool.specs.Linked.{Changes, IsBeside, LinkedMap, LivePools, bare, blocks_held, first_of, fixed_held, holder}
use Rattle.svn_pool.specs.Linked.{next_of, place_by, place_in}
use Rattle.svn_pool.specs.Pools.{Entry}
use Rattle.svn_pool.specs.declared.links.Beside.{Beside}
use Rattle.svn_pool.specs.declared.links.Linked.{Linked}
use Rattle.svn_pool.specs.declared.links.Anchor.{Anchor}
use Rattle.svn_pool.specs.declared.links.Anchor.TheVariants.{First}
use Rattle.svn_pool.proofs.Bare.{changes-bare, is_some-bare, length-bare}
use Rattle.svn_pool.proofs.Counts.{blocks_left, blocks_within, fixed_left}
use Rattle.svn_pool.proofs.Kinship.{holder_beside, holder_stays, linked-again, linked-remove, linked-unplaced, next_beside}
use Rattle.svn_pool.proofs.links.remove_leaf.Goals as goal

-- where the pool was, as its links say, is where the walk finds it to be, once its strings are given up
place_found : (told before : Option ℕ) (w e : Entry) (x : Option Anchor) → told ≡ w.parent → w ≡ record { parent = e.parent; strings = [] }
    → x ≡ place_by told before → place_by e.parent before ≡ x
place_found told before w e x parent emptied is =
    ap (λ (o : Option ℕ). place_by o before) (sym (parent ∙ ap (λ (f : Entry). f.parent) emptied)) ∙ sym is

-- what holds of a pool that took a place, and of the one whose link the place is, holds of what is returned
told_of : (P Q : Beside → Type 0) (taken : Option Beside) (held : Beside) → IfSome taken Q → ((b : Beside) → Q b → P b) → P held
    → P (unwrap_or taken held)
told_of P Q None held its some none = none
told_of P Q (Some b) held its some none = some b its

pub returns-in_default-clause-linked : goal.returns-in_default-clause-linked
returns-in_default-clause-linked g c =
    linked-again c.args.pools.now c.remove.new.self c.requires.linked
    (λ q. ap (λ (es : LinkedMap). get es q)
    (c.remove.ensures.removed ∙ remove_none c.args.serial c.args.pools.now (sym c.in_default.ensures.value)))
    c.remove.ensures.rising

pub returns-in_default-clause-counted : goal.returns-in_default-clause-counted
returns-in_default-clause-counted g c =
    c.requires.counted
    ∙ ap (λ (es : LinkedMap). blocks_held (bare es))
    (sym (c.remove.ensures.removed ∙ remove_none c.args.serial c.args.pools.now (sym c.in_default.ensures.value)))

pub returns-in_default-clause-fixed : goal.returns-in_default-clause-fixed
returns-in_default-clause-fixed g c =
    ap (λ (es : LinkedMap). c.args.stock.now.spare + fixed_held (bare es))
    (c.remove.ensures.removed ∙ remove_none c.args.serial c.args.pools.now (sym c.in_default.ensures.value))

pub returns-in_default-clause-gone : goal.returns-in_default-clause-gone
returns-in_default-clause-gone g c =
    changes-bare c.args.pools.now c.remove.new.self c.args.serial None
    (updates_removed c.args.pools.now c.remove.new.self c.args.serial c.remove.ensures.was_rising c.remove.ensures.removed)

pub returns-in_default-clause-fewer : goal.returns-in_default-clause-fewer
returns-in_default-clause-fewer g c = λ live.
    absurd (not_some_from_none (get c.args.pools.now c.args.serial) (sym c.in_default.ensures.value)
    (sym (is_some-bare c.args.pools.now c.args.serial) ∙ live))

-- there is one pool fewer
one_fewer : (old mid new : LinkedMap) (s : ℕ) (l : Linked Entry) → get old s ≡ Some l → mid ≡ remove_entry (nat_eq s) old
    → bare new ≡ bare mid
    → length (bare new) + 1 ≡ length (bare old)
one_fewer old mid new s l found removed same =
    let fewer = length_removed old s (ap is_some found) in
    let after = ap length same ∙ length-bare mid ∙ ap length removed in
    let before = length-bare old in
    omega (arith, fewer, after, before)

pub clear-requires : goal.clear-requires
clear-requires g c =
    blocks_within c.args.pools.now c.remove.new.self c.args.serial c.in-Some.linked (sym c.in-Some.ensures.value) c.remove.ensures.removed
    c.args.stock.now c.requires.counted

pub returns-in_default-place_by-clause-linked : goal.returns-in_default-place_by-clause-linked
returns-in_default-place_by-clause-linked g c =
    linked-unplaced c.args.pools.now c.remove.new.self c.requires.linked c.args.serial c.requires.leaf c.in-Some.linked
    (sym c.in-Some.ensures.value)
    (updates_removed c.args.pools.now c.remove.new.self c.args.serial c.remove.ensures.was_rising c.remove.ensures.removed)
    c.remove.ensures.rising
    (place_found _ _ _ c.in-Some.linked.pool _ c.parent.ensures c.clear.ensures.emptied c.place_by.ensures ∙ c.in_default-place_by.is)

pub returns-in_default-place_by-clause-counted : goal.returns-in_default-place_by-clause-counted
returns-in_default-place_by-clause-counted g c =
    blocks_left c.args.pools.now c.remove.new.self c.args.serial c.in-Some.linked (sym c.in-Some.ensures.value) c.remove.ensures.removed
    c.args.stock.now c.requires.counted c.clear.new.stock c.clear.ensures.counts

pub returns-in_default-place_by-clause-fixed : goal.returns-in_default-place_by-clause-fixed
returns-in_default-place_by-clause-fixed g c =
    fixed_left c.args.pools.now c.remove.new.self c.args.serial c.in-Some.linked (sym c.in-Some.ensures.value) c.remove.ensures.removed
    c.args.stock.now c.requires.counted c.clear.new.stock c.clear.ensures.counts

pub returns-in_default-place_by-clause-gone : goal.returns-in_default-place_by-clause-gone
returns-in_default-place_by-clause-gone g c =
    changes-bare c.args.pools.now c.remove.new.self c.args.serial None
    (updates_removed c.args.pools.now c.remove.new.self c.args.serial c.remove.ensures.was_rising c.remove.ensures.removed)

pub returns-clause-beside : goal.returns-clause-beside
returns-clause-beside g c =
    let m = c.args.pools.now in
    let linked = c.requires.linked in
    let s = c.args.serial in
    let found = sym c.in-Some.ensures.value in
    let at =
    place_found _ _ _ c.in-Some.linked.pool _ c.parent.ensures c.clear.ensures.emptied c.place_by.ensures ∙ c.in-Some-place_by.is in
    subst (λ (b : Beside). IsBeside (bare m) s b.serial) (sym c.unwrap_or.ensures)
    (told_of (λ b. IsBeside (bare m) s b.serial) _ c.move_to-taken.result c.set_standing-holder.result c.move_to-taken.ensures.told
    (λ b told. next_beside m linked s b.serial (ap next_of found ∙ told.0))
    (subst (IsBeside (bare m) s) (sym c.set_standing-holder.ensures.holder)
    (holder_beside m linked s c.in-Some-place_by.place (ap place_in found ∙ at))))

pub returns-clause-first : goal.returns-clause-first
returns-clause-first g c =
    let new = c.move_to-taken.new.pools in
    let held = c.set_standing-holder in
    let x = c.in-Some-place_by.place in
    let at =
    place_found _ _ _ c.in-Some.linked.pool _ c.parent.ensures c.clear.ensures.emptied c.place_by.ensures ∙ c.in-Some-place_by.is in
    let stays =
    holder_stays c.args.pools.now c.remove.new.self c.requires.linked c.args.serial c.requires.leaf c.in-Some.linked
    (sym c.in-Some.ensures.value)
    (updates_removed c.args.pools.now c.remove.new.self c.args.serial c.remove.ensures.was_rising c.remove.ensures.removed)
    c.remove.ensures.rising x at in
    subst (λ (b : Beside). b.first ≡ first_of (get new b.serial)) (sym c.unwrap_or.ensures)
    (told_of (λ b. b.first ≡ first_of (get new b.serial)) _ c.move_to-taken.result held.result c.move_to-taken.ensures.told
    (λ b told. told.1)
    (held.ensures.first stays ∙ sym (c.move_to-taken.ensures.standing (First (holder x)))
    ∙ ap (λ (k : ℕ). first_of (get new k)) (sym held.ensures.holder)))

pub returns-clause-linked : goal.returns-clause-linked
returns-clause-linked g c =
    let put = c.set_standing-holder.ensures in
    let moved = c.move_to-taken.ensures in
    linked-remove c.args.pools.now c.remove.new.self c.requires.linked c.args.serial c.requires.leaf c.in-Some.linked
    (sym c.in-Some.ensures.value)
    (updates_removed c.args.pools.now c.remove.new.self c.args.serial c.remove.ensures.was_rising c.remove.ensures.removed)
    c.remove.ensures.rising c.in-Some-place_by.place
    (place_found _ _ _ c.in-Some.linked.pool _ c.parent.ensures c.clear.ensures.emptied c.place_by.ensures ∙ c.in-Some-place_by.is)
    c.set_standing-holder.new.pools c.move_to-taken.new.pools
    (record { here = put.here; others = put.standing; places = put.places; pools = put.pools })
    (record { moved = moved.moved; others = moved.others; standing = moved.standing; pools = moved.pools })

pub returns-clause-counted : goal.returns-clause-counted
returns-clause-counted g c =
    blocks_left c.args.pools.now c.remove.new.self c.args.serial c.in-Some.linked (sym c.in-Some.ensures.value) c.remove.ensures.removed
    c.args.stock.now c.requires.counted c.clear.new.stock c.clear.ensures.counts
    ∙ sym (ap blocks_held (c.move_to-taken.ensures.pools ∙ c.set_standing-holder.ensures.pools))

pub returns-clause-fixed : goal.returns-clause-fixed
returns-clause-fixed g c =
    ap (λ (ps : LivePools). c.clear.new.stock.spare + fixed_held ps) (c.move_to-taken.ensures.pools ∙ c.set_standing-holder.ensures.pools)
    ∙ fixed_left c.args.pools.now c.remove.new.self c.args.serial c.in-Some.linked (sym c.in-Some.ensures.value) c.remove.ensures.removed
    c.args.stock.now c.requires.counted c.clear.new.stock c.clear.ensures.counts

pub returns-clause-gone : goal.returns-clause-gone
returns-clause-gone g c =
    subst (λ (ps : LivePools). Changes (bare c.args.pools.now) ps c.args.serial None)
    (sym (c.move_to-taken.ensures.pools ∙ c.set_standing-holder.ensures.pools))
    (changes-bare c.args.pools.now c.remove.new.self c.args.serial None
    (updates_removed c.args.pools.now c.remove.new.self c.args.serial c.remove.ensures.was_rising c.remove.ensures.removed))

pub returns-in_default-place_by-clause-fewer : goal.returns-in_default-place_by-clause-fewer
returns-in_default-place_by-clause-fewer g c = λ _.
    one_fewer c.args.pools.now c.remove.new.self c.remove.new.self c.args.serial c.in-Some.linked (sym c.in-Some.ensures.value)
    c.remove.ensures.removed refl

pub returns-clause-fewer : goal.returns-clause-fewer
returns-clause-fewer g c = λ _.
    one_fewer c.args.pools.now c.remove.new.self c.move_to-taken.new.pools c.args.serial c.in-Some.linked (sym c.in-Some.ensures.value)
    c.remove.ensures.removed (c.move_to-taken.ensures.pools ∙ c.set_standing-holder.ensures.pools)
