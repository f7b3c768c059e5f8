-- What a drive is asked for.
--     driving_of name      the command of that name, if it is one that a report follows
--     wanted_of s session free asked      what is wanted, or why it isn't served; `free` is a name that the root of the target doesn't have
use Rattle.std.specs.Prelude.{ℕ, ◌+◌, Bool, true, false, List, [], ◌∷◌, ◌++◌, codes, bytes_eq, length, Option, Some, None, Result, Ok, Err, if◌then◌else◌}
use Rattle.svn_types.specs.Names.{Path}
use Rattle.svn_types.specs.NameFaults.{count_fault}
use Rattle.svn_types.specs.Paths.{parent, last_name}
use Rattle.svn_repo.specs.History.{look}
use Rattle.svn_repo.specs.Readings.{is_directory_at}
use Rattle.svn_editor.specs.declared.mode.Mode.{Mode}
use Rattle.svn_editor.specs.declared.mode.Mode.TheVariants as modes
use Rattle.svn_replies.specs.declared.served.Served.{Served}
use Rattle.svn_replies.specs.declared.session.Session.{Session}
use Rattle.svn_served.specs.declared.wanted.Aim.{Aim}
use Rattle.svn_served.specs.declared.wanted.Driving.{Driving}
use Rattle.svn_served.specs.declared.wanted.Driving.TheVariants as drivings
use Rattle.svn_served.specs.declared.wanted.Entry.{Entry}
use Rattle.svn_served.specs.declared.wanted.Wanted.{Wanted}
use Rattle.svn_served.specs.AskedFields.{Asked}
use Rattle.svn_replies.specs.Named.{named_rev, path_named, url_named}
use Rattle.svn_served.specs.Reporting.{short_enough}
use Rattle.svn_replies.specs.Refusals.{Reason, fails, ◌>>=◌}

abbrev pub driving_of : List ℕ → Option Driving
driving_of name =
    if bytes_eq name (codes "update") then Some drivings.Update
    else if bytes_eq name (codes "switch") then Some drivings.Switch
    else if bytes_eq name (codes "status") then Some drivings.Status
    else if bytes_eq name (codes "diff") then Some drivings.Diff
    else None

-- ---- paths

-- a path with a name more; one that is too long is none of a command
abbrev pub short_child : Path → List ℕ → Result Path Reason
short_child at name = short_enough (count_fault (length at + 1)) (at ++ name ∷ [])

abbrev pub entry_name : Path → Result (List ℕ) Reason
entry_name (name ∷ []) = Ok name
entry_name _ = Err (fails 160005)

-- ---- what is wanted

abbrev pub wanted_with : Served → Aim → Mode → Path → Option Entry → Wanted
wanted_with s aim mode root entry =
    record { request = record { target = aim.target; mode = mode; options = s.options }; root = root; entry = entry; with_texts = aim.with_texts }

-- all of the client's directory
abbrev pub whole_mode : Option Path → Mode
whole_mode None = modes.Update
whole_mode (Some to) = modes.SwitchTo to

-- an update of one entry whose directory is gone in the target: it is said of a name that the root doesn't have, so the entry is deleted
abbrev pub updates_gone : Served → Aim → Option (List ℕ) → List ℕ → Path → Result Wanted Reason
updates_gone s aim None name at = Err (fails 200007)
updates_gone s aim (Some reported) name at =
    Ok (wanted_with s aim modes.Update [] (Some (record { name = name; reported = reported; at = at })))

-- an update of one entry
abbrev pub updates : Served → Session → Aim → List ℕ → Path → Result Wanted Reason
updates s session aim name at =
    if is_directory_at s.repo (look s.repo aim.target session.at) then
    Ok (wanted_with s aim modes.Update session.at (Some (record { name = name; reported = name; at = at })))
    else updates_gone s aim aim.free name at

-- a switch of one entry: the client's directory is as the one that the new path is in
abbrev pub switches : Served → Aim → List ℕ → Path → Path → Path → Result Wanted Reason
switches s aim name at to [] = Err (fails 200007)
switches s aim name at to (last ∷ more) =
    if is_directory_at s.repo (look s.repo aim.target (parent to)) then
    Ok (wanted_with s aim (modes.SwitchTo (parent to)) (parent to) (Some (record { name = name; reported = last; at = at })))
    else Err (fails 160005)

abbrev pub entry_wanted : Served → Session → Aim → List ℕ → Option Path → Result Wanted Reason
entry_wanted s session aim name None = short_child session.at name >>= λ at. updates s session aim name at
entry_wanted s session aim name (Some to) = short_child session.at name >>= λ at. switches s aim name at to (last_name to)

abbrev pub url_wanted : Session → Option (List ℕ) → Result (Option Path) Reason
url_wanted session None = Ok None
url_wanted session (Some url) = url_named session.url url >>= λ path. Ok (Some path)

abbrev pub part_wanted : Served → Session → Aim → List ℕ → Option Path → Result Wanted Reason
part_wanted s session aim [] to = Ok (wanted_with s aim (whole_mode to) session.at None)
part_wanted s session aim (b ∷ bytes) to = do
  path ← path_named (b ∷ bytes)
  name ← entry_name path
  entry_wanted s session aim name to

-- a depth without directories isn't served
abbrev pub deep : Bool → Result (Unit {0}) Reason
deep true = Ok tt
deep false = Err (fails 200007)

unfoldable pub wanted_of : Served → Session → Option (List ℕ) → Asked → Result Wanted Reason
wanted_of s session free asked = do
  target ← named_rev s.repo asked.rev
  recursive ← deep asked.recurse
  to ← url_wanted session asked.url
  part_wanted s session (record { target = target; free = free; with_texts = asked.with_texts }) asked.entry to
