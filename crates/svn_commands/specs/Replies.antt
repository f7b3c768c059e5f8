-- The commands of which no report follows: which these are by their names, and what comes of each.
--     Replies s session name fields result old new      what comes of the command of that name, and what is written
use Rattle.std.specs.Prelude.{◌≡◌, ℕ, List, [], ◌++◌, codes, bytes_eq, Option, Some, None, Result, Ok, Err, MatchBool, if◌then◌else◌}
use Rattle.std.specs.Option.{option_or}
use Rattle.svn_types.specs.Names.{Path}
use Rattle.svn_types.specs.declared.kind.Kind.TheVariants.{File, Directory}
use Rattle.svn_wire.specs.declared.token.Token.{Token}
use Rattle.svn_wire.specs.Fields.{text_field}
use Rattle.svn_commands.specs.declared.commands.Command.{Command}
use Rattle.svn_commands.specs.declared.commands.Command.TheVariants.{CheckPath, GetDatedRev, GetDir, GetInherited, GetLatestRev, GetLocations, GetSegments, Log, RevProp, RevProps, Stat}
use Rattle.svn_commands.specs.declared.commands.Replied.{Replied}
use Rattle.svn_commands.specs.declared.commands.Replied.TheVariants as replied
use Rattle.svn_replies.specs.declared.fault.Refused.{Refused}
use Rattle.svn_replies.specs.declared.fault.Refused.TheVariants as refused
use Rattle.svn_replies.specs.declared.served.Served.{Served}
use Rattle.svn_replies.specs.declared.session.Session.{Session}
use Rattle.svn_replies.specs.Answers.{success, no_mechanism}
use Rattle.svn_replies.specs.Commands.{latest_answer, kind_answer, place_of, IsStat, found_of, Tells, IsDirectory, inherited_answer, dated_answer, rev_prop_answer, rev_props_answer}
use Rattle.svn_commands.specs.Lists.{Lists}
use Rattle.svn_commands.specs.Log.{log_of, IsLog}
use Rattle.svn_commands.specs.Locations.{locations_of, AreLocations, segments_of, AreSegmentsOf}
use Rattle.svn_replies.specs.Named.{url_named}
use Rattle.svn_replies.specs.Refusals.{Reason, needed, refusal_code, Fails, Answers, Says, ◌>>=◌}

-- ---- names

abbrev pub node_command : List ℕ → Option Command
node_command name =
    if bytes_eq name (codes "check-path") then Some CheckPath
    else if bytes_eq name (codes "get-dir") then Some GetDir
    else if bytes_eq name (codes "get-iprops") then Some GetInherited
    else if bytes_eq name (codes "stat") then Some Stat
    else None

abbrev pub revision_command : List ℕ → Option Command
revision_command name =
    if bytes_eq name (codes "get-dated-rev") then Some GetDatedRev
    else if bytes_eq name (codes "get-latest-rev") then Some GetLatestRev
    else if bytes_eq name (codes "rev-prop") then Some RevProp
    else if bytes_eq name (codes "rev-proplist") then Some RevProps
    else None

abbrev pub history_command : List ℕ → Option Command
history_command name =
    if bytes_eq name (codes "get-locations") then Some GetLocations
    else if bytes_eq name (codes "get-location-segments") then Some GetSegments
    else if bytes_eq name (codes "log") then Some Log
    else None

abbrev pub command_of : List ℕ → Option Command
command_of name = option_or (node_command name) (option_or (revision_command name) (history_command name))

-- ---- answers

-- what is written of a command that is served, or why nothing is
abbrev pub IsAnswer : Served → Session → Command → List Token → List ℕ → Result (Unit {0}) Refused → List ℕ → Type 0
IsAnswer s session CheckPath fields old result new = Answers old result new (kind_answer s.repo session.at fields)
IsAnswer s session GetDatedRev fields old result new = Answers old result new (dated_answer s.repo s.revisions fields)
IsAnswer s session GetDir fields old result new = Says (IsDirectory s) old result new (found_of s.repo session.at Directory fields)
IsAnswer s session GetInherited fields old result new = Answers old result new (inherited_answer s.repo session.at fields)
IsAnswer s session GetLatestRev fields old result new = Answers old result new (latest_answer s.repo)
IsAnswer s session GetLocations fields old result new = Lists (AreLocations s) old result new (locations_of s.repo session.at fields)
IsAnswer s session GetSegments fields old result new = Lists (AreSegmentsOf s) old result new (segments_of s.repo session.at fields)
IsAnswer s session Log fields old result new = Lists (IsLog s) old result new (log_of s.repo session.at fields)
IsAnswer s session RevProp fields old result new = Answers old result new (rev_prop_answer s.repo s.revisions fields)
IsAnswer s session RevProps fields old result new = Answers old result new (rev_props_answer s.repo s.revisions fields)
IsAnswer s session Stat fields old result new = Says (IsStat s) old result new (place_of s.repo session.at fields)

-- whether it is answered by success, or why it isn't
abbrev pub answered : Result Replied Refused → Result (Unit {0}) Refused
answered (Ok reply) = Ok tt
answered (Err e) = Err e

abbrev pub IsHere : Result Replied Refused → Type 0
IsHere (Ok (replied.Goes path)) = ⊥
IsHere (Ok (replied.Sends held)) = ⊥
IsHere _ = Unit {0}

-- the client stays where it is
abbrev pub Stays : Served → Session → Command → List Token → Result Replied Refused → List ℕ → List ℕ → Type 0
Stays s session command fields result old new =
    IsHere result × IsAnswer s session command fields (old ++ no_mechanism) (answered result) new

-- ---- to another directory

unfoldable pub new_place : Session → List Token → Result Path Reason
new_place session fields = do
  url ← needed (text_field fields)
  url_named session.url url.0

abbrev pub Moves : Session → List Token → Result Replied Refused → List ℕ → List ℕ → Type 0
Moves session fields (Ok replied.Stays) old new = ⊥
Moves session fields (Ok (replied.Sends held)) old new = ⊥
Moves session fields (Ok (replied.Goes path)) old new = (new_place session fields ≡ Ok path) × (new ≡ old ++ (no_mechanism ++ success []))
Moves session fields (Err e) old new = Fails e (new_place session fields)

-- ---- a file, whose text is sent after the answer

-- the text that is sent
abbrev pub sent_text : Result Replied Refused → Result (Option (List ℕ)) Refused
sent_text (Ok (replied.Sends held)) = Ok (Some held)
sent_text (Ok reply) = Ok None
sent_text (Err e) = Err e

abbrev pub IsStill : Result Replied Refused → Type 0
IsStill (Ok (replied.Goes path)) = ⊥
IsStill _ = Unit {0}

abbrev pub SendsFile : Served → Session → List Token → Result Replied Refused → List ℕ → List ℕ → Type 0
SendsFile s session fields result old new =
    IsStill result × Tells s (old ++ no_mechanism) (sent_text result) new (found_of s.repo session.at File fields)

-- ---- by name

abbrev pub IsUnknown : Result Replied Refused → List ℕ → List ℕ → Type 0
IsUnknown (Ok reply) old new = ⊥
IsUnknown (Err refused.Memory) old new = Unit {0}
IsUnknown (Err e) old new = (refusal_code e ≡ Some 210001) × (new ≡ old)

abbrev pub RepliesBy : Served → Session → Option Command → List Token → Result Replied Refused → List ℕ → List ℕ → Type 0
RepliesBy s session None fields result old new = IsUnknown result old new
RepliesBy s session (Some command) fields result old new = Stays s session command fields result old new

abbrev pub Replies : Served → Session → List ℕ → List Token → Result Replied Refused → List ℕ → List ℕ → Type 0
Replies s session name fields result old new =
    MatchBool (bytes_eq name (codes "reparent")) (Moves session fields result old new)
    (MatchBool (bytes_eq name (codes "get-file")) (SendsFile s session fields result old new)
    (RepliesBy s session (command_of name) fields result old new))
