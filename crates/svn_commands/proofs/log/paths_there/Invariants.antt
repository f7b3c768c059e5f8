use Rattle.std.proofs.Common.{◌≡◌, drop}
use Rattle.svn_commands.specs.Log.{paths_there}
use Rattle.svn_commands.proofs.Logged.{put_before}
use Rattle.svn_commands.proofs.log.paths_there.Given as goal

-- the paths so far come before those of the tokens that are left
abbrev pub invariant-loop-token : goal.invariant-loop-token
invariant-loop-token l =
    paths_there l.view.served.now.repo l.view.session.now.at l.rev l.tokens
    ≡ put_before l.paths.items (paths_there l.view.served.now.repo l.view.session.now.at l.rev (drop l.token-index l.tokens))
