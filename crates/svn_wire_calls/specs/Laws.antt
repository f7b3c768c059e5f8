-- What an editor has written that took a list of calls.
--     Writes writer contents teller tells stands_for sums e call answer f      a call takes an editor from e to f: an accepted one is written as it is shown
--     ChunksAreOneDelta      the chunks of a text are one delta
use Rattle.std.specs.Prelude.{◌≡◌, ◌⊎◌, ℕ, List, Option, Result, MatchResult}
use Rattle.std.specs.Io.KnownBytes.{Appends, Keeps}
use Rattle.std.specs.List.{flat_map}
use Rattle.svndiff.specs.Writing.{delta_of}
use Rattle.svn_types.specs.Names.{Path}
use Rattle.svn_editor.specs.declared.call.Call.{Call}
use Rattle.svn_editor.specs.declared.fault.EditFault.{EditFault}
use Rattle.svn_editor.specs.declared.fault.EditFault.TheVariants.{Memory, Stopped}
use Rattle.svn_editor.specs.Editing.{Leads}
use Rattle.svn_wire_calls.specs.declared.entered.Entered.{Entered}
use Rattle.svn_wire_calls.specs.declared.pieces.Form.TheVariants.{Chunks}
use Rattle.svn_wire_calls.specs.Entries.{IsWrittenCall, AreWritten, wire_with}
use Rattle.svn_wire_calls.specs.Pieces.{chunk, sent_bytes}

module _ {E N X : Type 0} (writer : E → N) (contents : E → Option (List ℕ)) (teller : E → X) (tells : X → Path → Option Entered → Type 0)
    (stands_for sums : X → List ℕ → List ℕ → Type 0) where
  -- the writer stays the same; of a call that is refused with Memory nothing is written
  abbrev pub Writes : E → Call → Result (Unit {0}) EditFault → E → Type 0
  Writes before call answer after =
      (writer after ≡ writer before) × (teller after ≡ teller before)
      × MatchResult answer
      (λ _. (bytes : List ℕ) × IsWrittenCall (tells (teller before)) (stands_for (teller before)) (sums (teller before)) call bytes × Appends (contents before) (contents after) bytes)
      (λ fault. (fault ≡ Stopped) ⊎ ((fault ≡ Memory) × Keeps (contents before) (contents after)))

  -- what was written of calls that were all accepted, from an editor on, is their image on the wire
  abbrev pub CallsAreWritten : E → Type 0
  CallsAreWritten before = (calls : List Call) (after : E) → Leads Writes calls before after
      → (writer after ≡ writer before)
      × ((bytes : List ℕ) × AreWritten (tells (teller before)) (stands_for (teller before)) (sums (teller before)) calls bytes × Appends (contents before) (contents after) bytes)

-- where one thing is said of each path, and each text stands for itself, there is one image
abbrev pub ImagesAreOne : Type 0
ImagesAreOne = (told : Path → Option Entered) (calls : List Call) (bytes : List ℕ)
    → AreWritten (λ path said. said ≡ told path) (λ held text. text ≡ held) (λ sum known. known ≡ sum) calls bytes → bytes ≡ wire_with told calls

-- the chunks of a text have, one after another, the bytes of one delta: that of new data alone
abbrev pub ChunksAreOneDelta : Type 0
ChunksAreOneDelta = (token : ℕ) (text : List ℕ)
    → (parts : List (List ℕ)) × (sent_bytes (Chunks token) text ≡ flat_map (chunk token) parts) × (flat_map (λ (part : List ℕ). part) parts ≡ delta_of text)
