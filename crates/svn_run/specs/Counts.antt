-- A carrier that counts its calls.
--     CountsCall ..      the mode, the edit, the nodes and the two counts before, the call, its result, and all of them after
use Rattle.std.specs.Prelude.{◌≡◌, ℕ, ◌+◌, ◌⊎◌, true, false, Result, Ok, Err}
use Rattle.svn_editor.specs.declared.call.Call.{Call}
use Rattle.svn_editor.specs.Calls.{is_abort}
use Rattle.svn_editor.specs.declared.mode.Mode.{Mode}
use Rattle.svn_editor.specs.declared.fault.EditFault.{EditFault}
use Rattle.svn_edit.specs.declared.pending.Pending.{Pending}
use Rattle.svn_edit.specs.Carrying.{Carries}
use Rattle.svn_run.specs.UpdateTheorem.{Nodes}

-- nothing is done
abbrev pub Stays : Pending → Nodes → ℕ → ℕ → Pending → Nodes → ℕ → ℕ → Type 0
Stays edit nodes made accepted new left made' accepted' = (new ≡ edit) × (left ≡ nodes) × (made' ≡ made) × (accepted' ≡ accepted)

-- an `AbortEdit` is neither applied nor counted
abbrev pub CountsCall : Mode → Pending → Nodes → ℕ → ℕ → Call → Result (Unit {0}) EditFault → Pending → Nodes → ℕ → ℕ → Type 0
CountsCall mode edit nodes made accepted call (Ok done) new left made' accepted' =
    ((is_abort call ≡ true) × Stays edit nodes made accepted new left made' accepted')
    ⊎ ((is_abort call ≡ false) × Carries mode edit nodes call (Ok tt) new left × (made' ≡ made + 1) × (accepted' ≡ accepted + 1))
CountsCall mode edit nodes made accepted call (Err fault) new left made' accepted' =
    -- no number is left for another call
    Stays edit nodes made accepted new left made' accepted'
    ⊎ ((is_abort call ≡ false) × Carries mode edit nodes call (Err fault) new left × (made' ≡ made + 1) × (accepted' ≡ accepted))
