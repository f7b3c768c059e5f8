use Rattle.std.proofs.Common.{nat_eq, ◌≡◌, ℕ, Option, Some, inl, inr, is_some, refl, sym, ap, ◌∙◌}
use Rattle.std.proofs.lemmas.Bool.{cases_eq}
use Rattle.std.proofs.lemmas.Option.{same_Some}
use Rattle.svn_serials.specs.Serials.{get}
use Rattle.std.specs.Map.{set_value}
use Rattle.svn_serials.proofs.Pairs.{Updates, updates_written}
use Rattle.svn_pool.specs.Linked.{LinkedMap, first_of, next_of, parent_in, place_by, place_in, place_of, sibling_before, standing}
use Rattle.svn_pool.specs.Pools.{Entry, parent_of}
use Rattle.svn_pool.specs.declared.links.Linked.{Linked}
use Rattle.svn_pool.specs.declared.links.Anchor.{Anchor}
use Rattle.svn_pool.specs.declared.links.Anchor.TheVariants.{First, Next}
use Rattle.svn_pool.proofs.Bare.{live-bare, pool_in, relinked-bare}
use Rattle.svn_pool.proofs.links.move_to.Goals as goal

-- a pool that follows the sibling of a place is there, where it is a child of the right pool
seated : (x : Anchor) (parent : Option ℕ) → ((p : ℕ) → x ≡ First p → parent ≡ Some p) → place_by parent (sibling_before x) ≡ Some x
seated (First p) parent h = ap (λ (o : Option ℕ). place_by o (sibling_before (First p))) (h p refl)
seated (Next q) parent h = refl

moved_to : (m n : LinkedMap) (s : ℕ) (l w : Linked Entry) (x : Anchor) → get m s ≡ Some l → get n s ≡ Some w → w.pool ≡ l.pool
    → w.before ≡ sibling_before x → (c : ℕ) → s ≡ c → ((p : ℕ) → x ≡ First p → parent_in m c ≡ Some p) → place_of n c ≡ Some x
moved_to m n s l w x found now pool before c is parent =
    let mine : (p : ℕ) → x ≡ First p → w.pool.parent ≡ Some p =
    λ p e. ap (λ (e : Entry). e.parent) pool ∙ sym (ap parent_of (live-bare m s ∙ ap pool_in found)) ∙ ap (parent_in m) is ∙ parent p e in
    ap (place_of n) (sym is) ∙ ap place_in now ∙ ap (place_by w.pool.parent) before ∙ seated x w.pool.parent mine

-- a pool whose links alone are others: what is at a place stays, where first child and next sibling do
standing_stays : (m n : LinkedMap) (s : ℕ) (l w : Linked Entry) → get m s ≡ Some l → Updates m n s (Some w) → w.first ≡ l.first
    → w.next ≡ l.next
    → (x : Anchor) → standing n x ≡ standing m x
standing_stays m n s l w found up first next (First p) = elim (cases_eq p s) [
  | inl is ↦
      ap (λ (k : ℕ). first_of (get n k)) is ∙ ap first_of up.here ∙ first ∙ sym (ap (λ (k : ℕ). first_of (get m k)) is ∙ ap first_of found)
  | inr apart ↦ ap first_of (up.away p apart)
]
standing_stays m n s l w found up first next (Next q) = elim (cases_eq q s) [
  | inl is ↦
      ap (λ (k : ℕ). next_of (get n k)) is ∙ ap next_of up.here ∙ next ∙ sym (ap (λ (k : ℕ). next_of (get m k)) is ∙ ap next_of found)
  | inr apart ↦ ap next_of (up.away q apart)
]

pub returns-clause-told : goal.returns-clause-told
returns-clause-told g c =
    let l = c.in-Some-get_mut.linked.now in
    let w : Linked Entry = record { pool = l.pool; first = l.first; next = l.next; before = c.sibling_before-linked.result } in
    let found : get c.args.pools.now c.in-Some.serial ≡ Some l = sym c.in-Some-get_mut.ensures.value in
    (c.in-Some.is, sym (ap first_of (updates_written c.args.pools.now c.in-Some.serial w (ap is_some found)).here))

pub returns-clause-others : goal.returns-clause-others
returns-clause-others g c = λ k other.
    let l = c.in-Some-get_mut.linked.now in
    let w : Linked Entry = record { pool = l.pool; first = l.first; next = l.next; before = c.sibling_before-linked.result } in
    let found : get c.args.pools.now c.in-Some.serial ≡ Some l = sym c.in-Some-get_mut.ensures.value in
    ap place_in
    ((updates_written c.args.pools.now c.in-Some.serial w (ap is_some found)).away k (λ same. other (c.in-Some.is ∙ ap Some (sym same))))

pub returns-clause-standing : goal.returns-clause-standing
returns-clause-standing g c =
    let l = c.in-Some-get_mut.linked.now in
    let w : Linked Entry = record { pool = l.pool; first = l.first; next = l.next; before = c.sibling_before-linked.result } in
    let found : get c.args.pools.now c.in-Some.serial ≡ Some l = sym c.in-Some-get_mut.ensures.value in
    standing_stays c.args.pools.now (set_value (nat_eq c.in-Some.serial) c.args.pools.now w) c.in-Some.serial l w found
    (updates_written c.args.pools.now c.in-Some.serial w (ap is_some found)) refl refl

pub returns-clause-moved : goal.returns-clause-moved
returns-clause-moved g c = λ k is _ parent.
    let l = c.in-Some-get_mut.linked.now in
    let w : Linked Entry = record { pool = l.pool; first = l.first; next = l.next; before = c.sibling_before-linked.result } in
    let found : get c.args.pools.now c.in-Some.serial ≡ Some l = sym c.in-Some-get_mut.ensures.value in
    moved_to c.args.pools.now (set_value (nat_eq c.in-Some.serial) c.args.pools.now w) c.in-Some.serial l w c.args.place found
    (updates_written c.args.pools.now c.in-Some.serial w (ap is_some found)).here refl c.sibling_before-linked.ensures k
    (same_Some c.in-Some.serial k (sym c.in-Some.is ∙ is)) parent

pub returns-clause-pools : goal.returns-clause-pools
returns-clause-pools g c =
    let l = c.in-Some-get_mut.linked.now in
    let w : Linked Entry = record { pool = l.pool; first = l.first; next = l.next; before = c.sibling_before-linked.result } in
    relinked-bare c.args.pools.now (set_value (nat_eq c.in-Some.serial) c.args.pools.now w) c.in-Some.serial l w
    (sym c.in-Some-get_mut.ensures.value) refl
    refl
