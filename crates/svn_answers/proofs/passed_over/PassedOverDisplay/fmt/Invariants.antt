use Rattle.std.proofs.Common.{take}
use Rattle.std.specs.List.{flat_map}
use Rattle.svn_answers.specs.PassedOver.{count_texts}
use Rattle.svn_answers.proofs.Listing.{AreWritten}
use Rattle.svn_answers.proofs.passed_over.PassedOverDisplay.fmt.Given as goal

-- the texts so far are written
abbrev pub invariant-loop-count : goal.invariant-loop-count
invariant-loop-count g l =
    AreWritten g.W.Write.write_str_gives l.initial.f (flat_map count_texts (take l.count-index l.count-items)) l.f l.more
