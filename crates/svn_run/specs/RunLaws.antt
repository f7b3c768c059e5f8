-- The laws that a run rests on: of its report, of its drive, and of what the drive's calls do to the copy.
use Rattle.law_drive.specs.Laws.{the_calls_are_a_drive}
use Rattle.law_copy.specs.Laws.{calls_are_applied_in_turn}
use Rattle.law_update.specs.Laws.{crawl_says_what_stands, drive_composes, prefixes_stay_true, stopped_run_resumes}

pub record RunLaws : Type 0 where
  -- what a true copy reports can be served, and says what the copy has
  pub reports : crawl_says_what_stands
  -- the driver's calls are a drive
  pub drives : the_calls_are_a_drive
  -- none of them is refused, and they end in the result
  pub composes : drive_composes
  -- each stop leaves a true copy
  pub stays_true : prefixes_stay_true
  -- which is driven on to the same result
  pub resumes : stopped_run_resumes
  -- one more call does what its effect says
  pub more : calls_are_applied_in_turn
