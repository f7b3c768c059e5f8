use Rattle.std.proofs.Common.{◌≡◌, ◌-◌, length, None}
use Rattle.svn_types.specs.Pairs.{value_of}
use Rattle.svn_repo.specs.Readings.{entries_of}
use Rattle.svn_nodes.specs.Gathered.{gathered}
use Rattle.svn_nodes.specs.Standing.{IsSwept, AreAmong, standing_at}
use Rattle.svn_nodes.proofs.gather.+gather.Given as goal

-- a path has at most 128 names
abbrev pub decreases-gather : goal.decreases-gather
decreases-gather l = 129 - length l.at.now

-- nothing is yet where the entries that are left go
abbrev pub invariant-loop-name : goal.invariant-loop-name
invariant-loop-name l =
    IsSwept l.at l.name-iterator (λ name r found. found ≡ None)
    (λ name r found. found
    ≡ standing_at l.from.repo.now l.from.rev l.repos_path name (value_of (entries_of l.from.repo.now l.fn.id) name) r)
    (gathered l.initial.pairs.items) (gathered l.pairs.items)
    × AreAmong l.name-iterator (entries_of l.from.repo.now l.fn.id)
