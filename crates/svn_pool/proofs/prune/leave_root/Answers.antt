use Rattle.std.proofs.Common.{nat_eq, ◌≡◌, ◌≢◌, ℕ, ◌+◌, ◌-◌, ◌<◌, ◌≤◌, [], ◌∷◌, None, Some, IsSome, refl, sym, ap, ◌∙◌, inl, inr, arith}
use Rattle.std.proofs.lemmas.Bool.{cases_lt, cond-true, eq-eqb}
use Rattle.std.proofs.lemmas.List.Sums.{sum_by-cons}
use Rattle.std.specs.Map.{set_value}
use Rattle.svn_lists.proofs.Options.{none_from_not_some}
use Rattle.svn_serials.specs.Serials.{IsRising, get}
use Rattle.svn_serials.proofs.Pairs.{only_pair}
use Rattle.svn_pool.specs.Linked.{LinkedMap, bare, blocks_held, fixed_held}
use Rattle.svn_pool.specs.Pools.{Entry, blocks_of, fixed_of}
use Rattle.svn_pool.specs.Stores.{Store}
use Rattle.svn_pool.specs.declared.links.Linked.{Linked}
use Rattle.svn_pool.proofs.Alone.{is_alone, rootlet}
use Rattle.svn_pool.proofs.Counts.{sum_within}
use Rattle.svn_pool.proofs.prune.leave_root.Goals as goal

-- where all newer pools are gone, the root is there alone
alone : (old es : LinkedMap) (root : ℕ) (l : Linked Entry) → ((q : ℕ) → IsSome (get old q) → root ≤ q)
    → ((q : ℕ) → q ≤ root → get es q ≡ get old q) → ((q : ℕ) → root < q → get es q ≡ None) → IsRising es → get es root ≡ Some l
    → es ≡ (root, l) ∷ []
alone old es root l lowest older newer rising found = only_pair es root l rising found others
  where
    others : (q : ℕ) → q ≢ root → get es q ≡ None
    others q apart = elim (cases_lt root q) [
      | inl above ↦ newer q above
      | inr below ↦ older q below ∙ none_from_not_some (get old q) (λ live. let least = lowest q live in apart (omega arith))
    ]

pub clear-requires : goal.clear-requires
clear-requires g c =
    let within = sum_within blocks_of c.remove_newer.new.pools c.args.root c.in-Some.ensures.value in
    let counted = c.remove_newer.ensures.counted in
    omega (arith, within, counted)

pub returns-clause-alone : goal.returns-clause-alone
returns-clause-alone g c =
    let root = c.args.root in
    let es = c.remove_newer.new.pools in
    let l = c.in-Some.linked.now in
    let w = c.unlinked.result in
    let only =
    alone c.args.pools.now es root l c.requires.lowest c.remove_newer.ensures.older c.remove_newer.ensures.newer c.get_mut.ensures.rising
    (sym c.in-Some.ensures.value) in
    let is : w ≡ rootlet =
    c.unlinked.ensures ∙ (λ i. record { pool = c.new.ensures i; first = None; next = None; before = None }) in
    is_alone (set_value (nat_eq root) es w) root
    (ap (λ (fs : LinkedMap). set_value (nat_eq root) fs w) only
    ∙ cond-true (nat_eq root root) ((root, w) ∷ []) ((root, l) ∷ []) (eq-eqb root root refl)
    ∙ ap (λ (k : Linked Entry). (root, k) ∷ []) is)

pub returns-clause-used : goal.returns-clause-used
returns-clause-used g c =
    let l = c.in-Some.linked.now in
    let only =
    alone c.args.pools.now c.remove_newer.new.pools c.args.root l c.requires.lowest c.remove_newer.ensures.older
    c.remove_newer.ensures.newer c.get_mut.ensures.rising (sym c.in-Some.ensures.value) in
    let held = ap (λ (fs : LinkedMap). blocks_held (bare fs)) only ∙ sum_by-cons blocks_of l.pool [] in
    let counted = c.remove_newer.ensures.counted in
    let used : c.clear.new.stock.used ≡ c.remove_newer.new.stock.used - blocks_of l.pool =
    ap (λ (b : Store). b.used) c.clear.ensures.counts in
    omega (arith, held, counted, used)

pub returns-clause-spare : goal.returns-clause-spare
returns-clause-spare g c =
    let l = c.in-Some.linked.now in
    let only =
    alone c.args.pools.now c.remove_newer.new.pools c.args.root l c.requires.lowest c.remove_newer.ensures.older
    c.remove_newer.ensures.newer c.get_mut.ensures.rising (sym c.in-Some.ensures.value) in
    let held = ap (λ (fs : LinkedMap). fixed_held (bare fs)) only ∙ sum_by-cons fixed_of l.pool [] in
    let fixed = c.remove_newer.ensures.fixed in
    let spare : c.clear.new.stock.spare ≡ c.remove_newer.new.stock.spare + fixed_of l.pool =
    ap (λ (b : Store). b.spare) c.clear.ensures.counts in
    omega (arith, held, fixed, spare)
