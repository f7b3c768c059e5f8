use Rattle.std.proofs.Common.{true, arith}
use Rattle.svn_order.proofs.Changes.{changed_set, changed_past}
use Rattle.svn_order.proofs.tokens.add_text.Goals as goal

pub returns-then-place-len : goal.returns-then-place-len
returns-then-place-len c =
    changed_set (λ n. record n { has_text = true }) c.args.tokens.now.items c.args.token c.token.inside.0 c.index_mut.result.now
    c.token.view_is (omega arith) c.index_mut.ensures.value

pub returns-else-place-len : goal.returns-else-place-len
returns-else-place-len c = changed_past (λ n. record n { has_text = true }) c.args.tokens.now.items c.args.token (omega arith)
