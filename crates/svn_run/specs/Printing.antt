-- How the end of a run is printed.
use Rattle.std.specs.Prelude.{ℕ, List, [], ◌∷◌, codes}
use Rattle.std.specs.Fmt.{decimal}
use Rattle.svn_editor.specs.Words.{spaced}
use Rattle.svn_run.specs.declared.outcome.Cause.{Cause}
use Rattle.svn_run.specs.declared.outcome.Cause.TheVariants.{Cancelled, Memory}
use Rattle.svn_run.specs.declared.outcome.Outcome.{Outcome}
use Rattle.svn_run.specs.declared.outcome.Outcome.TheVariants.{Closed, Aborted}

abbrev pub cause_name : Cause → List ℕ
cause_name Cancelled = codes "Cancelled"
cause_name Memory = codes "Memory"

abbrev pub outcome_words : Outcome → List (List ℕ)
outcome_words (Closed calls) = codes "closed" ∷ decimal calls ∷ []
outcome_words (Aborted made accepted late cause) = codes "aborted" ∷ decimal made ∷ decimal accepted ∷ cause_name cause ∷ []

abbrev pub outcome_text : Outcome → List ℕ
outcome_text outcome = spaced (outcome_words outcome)
