use Rattle.std.proofs.Common.{◌≡◌, ◌++◌, List, ℕ}
use Rattle.svn_repo.specs.Readings.{entries_of}
use Rattle.svn_replies.proofs.Entries.{AreBegun}
use Rattle.svn_replies.proofs.session.View.push_entries.Given as goal

-- the entries before those that are left are written
abbrev pub invariant-loop-name : goal.invariant-loop-name
invariant-loop-name l =
    (done : List ℕ)
    × AreBegun l.self.served.now l.place.rev l.place.path l.name-iterator (entries_of l.self.served.now.repo l.fn.node) done
    × (l.out.items ≡ l.initial.out.items ++ done)
