-- What is known of a copy after a run.
--     is_closed outcome      whether the last call was accepted
--     known_after was mode outcome      by what was known before, whether it was updated or switched, and how the run ended
--     IsEnding left known      the nodes are those of a copy, and that is known of it
use Rattle.std.specs.Prelude.{◌≡◌, Bool, true, false}
use Rattle.svn_editor.specs.declared.mode.Mode.{Mode}
use Rattle.svn_editor.specs.declared.mode.Mode.TheVariants.{Update, SwitchTo}
use Rattle.svn_model.specs.Nodes.{get_in, IsWorkingCopy}
use Rattle.svn_wc.specs.declared.known.Known.{Known}
use Rattle.svn_wc.specs.Unswitched.{IsUnswitched, IsLevel}
use Rattle.svn_run.specs.declared.outcome.Outcome.{Outcome}
use Rattle.svn_run.specs.declared.outcome.Outcome.TheVariants.{Closed, Aborted}
use Rattle.svn_run.specs.UpdateTheorem.{Nodes}

abbrev pub is_closed : Outcome → Bool
is_closed (Closed calls) = true
is_closed (Aborted made accepted late cause) = false

-- an update switches no path, and a switch of the whole copy, once it is done, leaves none that is
abbrev pub unswitched_after : Bool → Mode → Outcome → Bool
unswitched_after was Update outcome = was
unswitched_after was (SwitchTo root) outcome = is_closed outcome

-- all nodes are of the target revision once the run is done
abbrev pub known_after : Known → Mode → Outcome → Known
known_after was mode outcome = record { unswitched = unswitched_after was.unswitched mode outcome; level = is_closed outcome }

pub record IsEnding (left : Nodes) (known : Known) : Type 0 where
  pub shape : IsWorkingCopy (get_in left)
  pub unswitched : known.unswitched ≡ true → IsUnswitched (get_in left)
  pub level : known.level ≡ true → IsLevel (get_in left)
