use Rattle.std.proofs.Common.{◌≡◌, drop}
use Rattle.svn_repo.specs.History.{node_at, walk}
use Rattle.svn_drive.proofs.check.node_below.Given as goal

-- what is left of the path leads on from here to where the whole path leads
abbrev pub invariant-loop-name : goal.invariant-loop-name
invariant-loop-name l = walk (node_at l.repo) l.node (drop l.name-index l.names) ≡ walk (node_at l.repo) l.fn.from l.names
