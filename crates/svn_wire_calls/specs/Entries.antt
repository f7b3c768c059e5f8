-- The image of a drive with the entry properties that a client keeps of each node: in which revision it was last changed, when and by whom.
--     entry_props change token entered      what is said of a node: by change-dir-prop or change-file-prop, of that token
--     AreWritten tells stands_for sums calls bytes      calls as they are shown, and after each that opens or adds a node something that may be said of it
--     wire_with told calls      the same where that is one thing
use Rattle.std.specs.Prelude.{◌≡◌, ℕ, List, [], ◌∷◌, ◌++◌, codes, Option, Some, None}
use Rattle.std.specs.List.{flat_map}
use Rattle.std.specs.Fmt.{decimal}
use Rattle.svn_types.specs.Names.{Path}
use Rattle.svn_editor.specs.declared.call.Call.{Call}
use Rattle.svn_editor.specs.declared.call.Call.TheVariants.{OpenRoot, AddDirectory, OpenDirectory, AddFile, OpenFile}
use Rattle.svn_wire.specs.Writing.{text_bytes}
use Rattle.svn_wire_calls.specs.declared.entered.Entered.{Entered}
use Rattle.svn_wire_calls.specs.Commands.{command, baton}
use Rattle.svn_wire_calls.specs.Calls.{optional, call_bytes}
use Rattle.svn_wire_calls.specs.Shown.{IsShown}

-- a property that is known
abbrev pub entry_prop : List ℕ → ℕ → List ℕ → Option (List ℕ) → List ℕ
entry_prop change token name None = []
entry_prop change token name (Some value) = command change (baton token ++ text_bytes name ++ optional (Some value))

abbrev pub entered_props : List ℕ → ℕ → Entered → List ℕ
entered_props change token e =
    entry_prop change token (codes "svn:entry:committed-rev") (Some (decimal e.rev))
    ++ entry_prop change token (codes "svn:entry:committed-date") e.date
    ++ entry_prop change token (codes "svn:entry:last-author") e.author

abbrev pub entry_props : List ℕ → ℕ → Option Entered → List ℕ
entry_props change token None = []
entry_props change token (Some e) = entered_props change token e

-- ---- what may be said

module _ (tells : Path → Option Entered → Type 0) where
  -- what is said of the node at a path
  abbrev pub IsSaid : List ℕ → ℕ → Path → List ℕ → Type 0
  IsSaid change token path said = (told : Option Entered) × tells path told × (said ≡ entry_props change token told)

  -- after a call that opens or adds a node, what is said of it
  abbrev pub IsSaidAfter : Call → List ℕ → Type 0
  IsSaidAfter (OpenRoot base token) said = IsSaid (codes "change-dir-prop") token [] said
  IsSaidAfter (AddDirectory path parent token) said = IsSaid (codes "change-dir-prop") token path said
  IsSaidAfter (OpenDirectory path parent base token) said = IsSaid (codes "change-dir-prop") token path said
  IsSaidAfter (AddFile path parent token) said = IsSaid (codes "change-file-prop") token path said
  IsSaidAfter (OpenFile path parent base token) said = IsSaid (codes "change-file-prop") token path said
  IsSaidAfter _ said = said ≡ []

  -- a call as it is shown, and what is said after it
  abbrev pub IsWrittenAs : Call → List ℕ → Type 0
  IsWrittenAs shown bytes = (said : List ℕ) × IsSaidAfter shown said × (bytes ≡ call_bytes shown ++ said)

  module _ (stands_for sums : List ℕ → List ℕ → Type 0) where
    abbrev pub IsWrittenCall : Call → List ℕ → Type 0
    IsWrittenCall call bytes = (shown : Call) × IsShown stands_for sums call shown × IsWrittenAs shown bytes

    abbrev pub AreWritten : List Call → List ℕ → Type 0
    AreWritten [] bytes = bytes ≡ []
    AreWritten (c ∷ calls) bytes = (first : List ℕ) × (rest : List ℕ) × IsWrittenCall c first × AreWritten calls rest × (bytes ≡ first ++ rest)

-- ---- the image, where one thing is said of each path, and texts stand for themselves

abbrev pub entries_after : (Path → Option Entered) → Call → List ℕ
entries_after told (OpenRoot base token) = entry_props (codes "change-dir-prop") token (told [])
entries_after told (AddDirectory path parent token) = entry_props (codes "change-dir-prop") token (told path)
entries_after told (OpenDirectory path parent base token) = entry_props (codes "change-dir-prop") token (told path)
entries_after told (AddFile path parent token) = entry_props (codes "change-file-prop") token (told path)
entries_after told (OpenFile path parent base token) = entry_props (codes "change-file-prop") token (told path)
entries_after told _ = []

abbrev pub wire_with : (Path → Option Entered) → List Call → List ℕ
wire_with told calls = flat_map (λ c. call_bytes c ++ entries_after told c) calls
