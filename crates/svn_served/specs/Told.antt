-- What is said of the nodes of a drive.
--     Tells s d entry p told      what is said of a path of the client, where a drive is of one entry, or of none
use Rattle.std.specs.Prelude.{◌≡◌, Bool, true, false, [], ◌∷◌, Option, Some, None, MatchBool}
use Rattle.svn_types.specs.Names.{Path}
use Rattle.svn_model.specs.Follow.{DriveInput, target_path}
use Rattle.svn_wire_calls.specs.declared.entered.Entered.{Entered}
use Rattle.svn_replies.specs.declared.served.Served.{Served}
use Rattle.svn_replies.specs.LastChanges.{IsChangeOrNone}
use Rattle.svn_served.specs.declared.wanted.Entry.{Entry}

-- the path in the report of a path of the client: the one entry has another name there
abbrev pub reported_path : Option Entry → Path → Path
reported_path None p = p
reported_path (Some entry) [] = []
reported_path (Some entry) (name ∷ p) = entry.reported ∷ p

-- of the directory of one entry nothing is said
abbrev pub says_nothing : Option Entry → Path → Bool
says_nothing (Some entry) [] = true
says_nothing _ p = false

abbrev pub Tells : Served → DriveInput → Option Entry → Path → Option Entered → Type 0
Tells s d entry p told =
    MatchBool (says_nothing entry p) (told ≡ None) (IsChangeOrNone s d.target (target_path d (reported_path entry p)) told)
