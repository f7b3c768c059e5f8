-- The calls of a drive as a client is sent them.
--     client_name entry      the name of the one entry at the client, where a drive is of one
--     client_path name path      a path with the client's name of the one entry, where a drive is of one
--     client_call name texts call      a call with such paths, and where texts aren't sent without theirs
--     client_calls name texts calls      the calls that a client is sent of these: all but AbortEdit
--     Shows answers name texts before call answer after      a call is passed on so to an editor
use Rattle.std.specs.Prelude.{◌≡◌, ◌⊎◌, Bool, true, false, List, [], ◌∷◌, drop, Option, Some, None, option_map, Result, Ok, Err, ℕ, if◌then◌else◌, MatchBool}
use Rattle.std.specs.List.{flat_map}
use Rattle.svn_types.specs.Names.{Path}
use Rattle.svn_editor.specs.declared.call.Call.{Call}
use Rattle.svn_editor.specs.declared.call.Call.TheVariants.{SetTargetRevision, OpenRoot, DeleteEntry, AddDirectory, OpenDirectory, ChangeDirProp, CloseDirectory, AddFile, OpenFile, ChangeFileProp, ApplyText, CloseFile, CloseEdit, AbortEdit}
use Rattle.svn_editor.specs.declared.fault.EditFault.{EditFault}
use Rattle.svn_editor.specs.declared.fault.EditFault.TheVariants.{Memory}
use Rattle.svn_editor.specs.Calls.{is_abort}
use Rattle.svn_served.specs.declared.wanted.Entry.{Entry}

-- the name of the one entry at the client
abbrev pub client_name : Option Entry → Option (List ℕ)
client_name entry = option_map (λ e. e.name) entry

abbrev pub client_path : Option (List ℕ) → Path → Path
client_path None path = path
client_path (Some name) path = name ∷ drop 1 path

abbrev pub client_text : Bool → List ℕ → List ℕ
client_text true text = text
client_text false text = []

abbrev pub client_call : Option (List ℕ) → Bool → Call → Call
client_call name texts (SetTargetRevision rev) = SetTargetRevision rev
client_call name texts (OpenRoot base token) = OpenRoot base token
client_call name texts (DeleteEntry path rev parent) = DeleteEntry (client_path name path) rev parent
client_call name texts (AddDirectory path parent token) = AddDirectory (client_path name path) parent token
client_call name texts (OpenDirectory path parent base token) = OpenDirectory (client_path name path) parent base token
client_call name texts (ChangeDirProp token prop value) = ChangeDirProp token prop value
client_call name texts (CloseDirectory token) = CloseDirectory token
client_call name texts (AddFile path parent token) = AddFile (client_path name path) parent token
client_call name texts (OpenFile path parent base token) = OpenFile (client_path name path) parent base token
client_call name texts (ChangeFileProp token prop value) = ChangeFileProp token prop value
client_call name texts (ApplyText token base text) = ApplyText token base (client_text texts text)
client_call name texts (CloseFile token sum) = CloseFile token sum
client_call name texts CloseEdit = CloseEdit
client_call name texts AbortEdit = AbortEdit

abbrev pub sent_of : Option (List ℕ) → Bool → Call → List Call
sent_of name texts call = if is_abort call then [] else client_call name texts call ∷ []

abbrev pub client_calls : Option (List ℕ) → Bool → List Call → List Call
client_calls name texts calls = flat_map (sent_of name texts) calls

-- ---- an editor that passes them on

-- the client isn't told of it
abbrev pub Skips : {E : Type 0} → E → Result (Unit {0}) EditFault → E → Type 0
Skips before answer after = (answer ≡ Ok tt) × (after ≡ before)

module _ {E : Type 0} (answers : E → Call → Result (Unit {0}) EditFault → E → Type 0) where
  abbrev pub PassesOn : E → Call → Result (Unit {0}) EditFault → E → Type 0
  PassesOn before call answer after = answers before call answer after ⊎ ((answer ≡ Err Memory) × (after ≡ before))

  abbrev pub Shows : Option (List ℕ) → Bool → E → Call → Result (Unit {0}) EditFault → E → Type 0
  Shows name texts before call answer after =
      MatchBool (is_abort call) (Skips before answer after) (PassesOn before (client_call name texts call) answer after)
