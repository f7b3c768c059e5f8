use Rattle.std.proofs.Common.{◌≡◌, true, length}
use Rattle.std.specs.List.{list_all}
use Rattle.svn_disk.specs.Places.{is_either}
use Rattle.svn_disk.specs.Plans.{path_of}
use Rattle.svn_disk.proofs.bringing.Bringing.refuse_elsewhere.Given as goal

abbrev pub decreases-work : goal.decreases-work
decreases-work l = length l.rest

abbrev pub invariant-work : goal.invariant-work
invariant-work l =
    list_all (λ item. is_either l.self.existing.now.copy l.self.wanted.now.copy (path_of item)) l.rest ≡ true
    → list_all (λ item. is_either l.self.existing.now.copy l.self.wanted.now.copy (path_of item)) l.work ≡ true
