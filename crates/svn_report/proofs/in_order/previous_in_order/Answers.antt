use Rattle.std.proofs.Common.{◌≡◌, ◌<◌, ◌≤◌, ◌⊎◌, rules, of_calls, sym, ◌∙◌, arith, inl, inr}
use Rattle.std.proofs.lemmas.Bool.{cases_lt}
use Rattle.std.proofs.lemmas.Fn.{always_returns_same}
use Rattle.std.specs.Ordering.{is_lt}
use Rattle.svn_types.specs.Names.{path_cmp}
use Rattle.svn_report.proofs.InOrder.{parted, lt_parts, previous_at, previous_none_at, previous_last}
use Rattle.svn_report.proofs.in_order.previous_in_order.Goals as goal

pub returns-then-lt : goal.returns-then-lt
returns-then-lt c =
    previous_last c.args.entries.now.entries c.args.path.now _ c.requires.ordered c.requires.lawful (sym c.in_ok-last.ensures.entry)
    (sym c.lt.ensures ∙ c.if-lt.true)

pub returns-in-Some : goal.returns-in-Some
returns-in-Some c =
    let above = c.in-Some.ensures in
    let es = c.args.entries.now.entries in
    let p = c.args.path.now in
    let parts = parted es (λ q. is_lt (path_cmp q p)) c.requires.ordered (lt_parts p) in
    previous_at es p c.partition_point-before.result c.in-Some.i _ c.requires.ordered c.requires.lawful
    (c.partition_point-before.ensures.partitioned (λ e. is_lt (path_cmp e.0 p))
    (always_returns_same _ _ _ (λ a r f k. search (rules, of_calls))) parts)
    c.partition_point-before.ensures.bound (omega (arith, above.0, above.1)) c.path_at.ensures

pub returns-in-None : goal.returns-in-None
returns-in-None c =
    let es = c.args.entries.now.entries in
    let p = c.args.path.now in
    let parts = parted es (λ q. is_lt (path_cmp q p)) c.requires.ordered (lt_parts p) in
    previous_none_at es p c.partition_point-before.result c.requires.ordered c.requires.lawful
    (c.partition_point-before.ensures.partitioned (λ e. is_lt (path_cmp e.0 p))
    (always_returns_same _ _ _ (λ a r f k. search (rules, of_calls))) parts)
    (by (cases_lt 0 c.partition_point-before.result))
  where
    by : (0 < c.partition_point-before.result) ⊎ (c.partition_point-before.result ≤ 0) → c.partition_point-before.result ≡ 0
    by (inl l) = absurd (c.in-None.ensures (omega (arith, l)))
    by (inr l) = omega (arith, l)
