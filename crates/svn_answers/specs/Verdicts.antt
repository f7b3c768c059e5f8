-- How questions are answered, and the status of that.
--     worse v w      the greater of two verdicts: True, then Untrue, then Refused
--     worst verdicts      the greatest of several, True where there is none
--     status v      the exit status of a program
use Rattle.std.specs.Prelude.{ℕ, List, [], ◌∷◌}
use Rattle.svn_answers.specs.declared.verdict.Verdict.{Verdict}
use Rattle.svn_answers.specs.declared.verdict.Verdict.TheVariants.{True, Untrue, Refused}

abbrev pub worse : Verdict → Verdict → Verdict
worse True w = w
worse Untrue True = Untrue
worse Untrue Untrue = Untrue
worse Untrue Refused = Refused
worse Refused w = Refused

abbrev pub worst : List Verdict → Verdict
worst [] = True
worst (v ∷ vs) = worse v (worst vs)

abbrev pub status : Verdict → ℕ
status True = 0
status Untrue = 1
status Refused = 2
