use Rattle.std.proofs.Common.{◌≡◌, drop}
use Rattle.svn_model.specs.Follow.{follow_from, follow}
use Rattle.svn_drive.specs.Requests.{input_of}
use Rattle.svn_served.specs.Following.{followed_as}
use Rattle.svn_served.proofs.follow.Following.followed.Given as goal

-- what is left of the names leads on from what is followed to what becomes of all
abbrev pub invariant-loop-name : goal.invariant-loop-name
invariant-loop-name l =
    follow_from (input_of l.self.repo.now l.self.report.now l.self.request.now) (followed_as l.followed) (drop l.name-index l.names)
    ≡ follow (input_of l.self.repo.now l.self.report.now l.self.request.now) l.names
