use Rattle.std.proofs.Common.{◌+◌, drop, arith}
use Rattle.svn_commands.proofs.Logged.{at_front, path_read}
use Rattle.svn_commands.proofs.log.paths_there.Goals as goal

pub loop-token-preserved : goal.loop-token-preserved
loop-token-preserved c =
    let tokens = c.args.tokens.now in
    let i = c.loop-token.token-index in
    path_read c.args.view.served.now.repo c.args.view.session.now.at c.args.rev tokens (drop i tokens) (drop (i + 1) tokens) c.token-item.result
    c.in_ok-path.path c.loop-token.paths.items c.push.new.self.items c.loop-token.invariant
    (at_front tokens i c.token-item.result (omega arith) c.token-item.is) c.in_ok-path.ensures c.in_ok-push.ensures.items
