use Rattle.std.proofs.Common.{arith}
use Rattle.svn_audit.proofs.Noting.{props-set, props-past}
use Rattle.svn_audit.proofs.lines.set_props.Goals as goal

pub returns-then-place-len : goal.returns-then-place-len
returns-then-place-len c =
    props-set c.args.nodes.now.items c.args.token c.token.inside.0 c.index_mut.result.now c.token.view_is (omega arith)
    c.index_mut.ensures.value

pub returns-else-place-len : goal.returns-else-place-len
returns-else-place-len c = props-past c.args.nodes.now.items c.args.token (omega arith)
