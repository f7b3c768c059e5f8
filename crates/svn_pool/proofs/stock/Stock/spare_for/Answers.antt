use Rattle.std.proofs.Common.{◌≡◌, ◌+◌, ◌<◌, Bool, true, cond, nat_le, [], sym, ap, ◌∙◌, arith}
use Rattle.std.proofs.lemmas.Bool.{le-leb}
use Rattle.svn_pool.proofs.Blocks.{blanks-pop, blanks_some}
use Rattle.svn_pool.proofs.stock.Stock.spare_for.Goals as goal

pub invariant_of-self-2 : goal.invariant_of-self-2
invariant_of-self-2 g c =
    let s = c.self.inside in
    let is = sym c.self.invariant.0 ∙ c.in_ok-leaf.ensures in
    let some : 0 < s.spare = blanks_some s.spare c.in_ok-leaf.leaf.node.value.page c.pop.new.self is in
    ((blanks-pop s.spare c.in_ok-leaf.leaf.node.value.page c.pop.new.self is).1, omega (arith, some, c.self.invariant.1))

pub returns-clause-block : goal.returns-clause-block
returns-clause-block g c =
    let short : nat_le c.args.len 8188 ≡ true = le-leb c.args.len 8188 (omega arith) in
    let is = sym c.self.invariant.0 ∙ c.in_ok-leaf.ensures in
    (blanks-pop c.self.inside.spare c.in_ok-leaf.leaf.node.value.page c.pop.new.self is).0
    ∙ ap (λ (b : Bool). record { cap = cond b 8192 (c.args.len + 4); strings = [] }) (sym short)
