use Rattle.std.proofs.Common.{◌≡◌, ◌++◌, [], drop}
use Rattle.svn_replies.specs.Commands.{inherited_from}
use Rattle.svn_replies.proofs.session.View.push_all_inherited.Given as goal

-- what is written, and what is of the directories on the way down from here
abbrev pub invariant-loop-name : goal.invariant-loop-name
invariant-loop-name l =
    l.out.items ++ inherited_from l.self.served.now.repo l.place.rev l.above (drop l.name-index l.name-items)
    ≡ l.initial.out.items ++ inherited_from l.self.served.now.repo l.place.rev [] l.place.path
