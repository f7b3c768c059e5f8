-- Which steps a call takes, of a folder of which all is known.
--     IsAlways P now      what is known of a folder has P
--     Stands P s steps now      all is known, and each step that was taken after these has P
--     Ends P s steps now      the same, but the system may have failed at the last one
--     Goes P old result new      a call takes only steps that have P, and the system failed at none if it returns Ok
--     Does taken old result new      a call takes only some of these steps
--     TakesOne step old result new      a call takes just this step
use Rattle.std.specs.Prelude.{◌≡◌, ◌⊎◌, Bool, true, false, List, [], ◌∷◌, ◌++◌, Result, OnOk, OnErr}
use Rattle.std.specs.List.{list_all}
use Rattle.svn_folder.specs.declared.step.Step.{Step}
use Rattle.svn_folder.specs.States.{State}
use Rattle.svn_folder.specs.Steps.{run}
use Rattle.svn_folder.specs.Pasts.{Past, Known, Broken}

abbrev pub IsAlways : (State → Type 0) → Past → Type 0
IsAlways P now = (s : State) (steps : List Step) → now ≡ Known s steps → P (run s steps)

pub record Stands (P : Step → Bool) (s : State) (steps : List Step) (now : Past) : Type 0 where
  pub more : List Step
  pub each : list_all P more ≡ true
  pub past : now ≡ Known s (steps ++ more)

pub record Ends (P : Step → Bool) (s : State) (steps : List Step) (now : Past) : Type 0 where
  pub more : List Step
  pub each : list_all P more ≡ true
  pub past : (now ≡ Known s (steps ++ more)) ⊎ (now ≡ Broken s (steps ++ more))

-- a part of a call that has gone well, and one that has failed
pub record Keeps (P : Step → Bool) (old new : Past) : Type 0 where
  pub each : (s : State) (steps : List Step) → Stands P s steps old → Stands P s steps new

pub record Stops (P : Step → Bool) (old new : Past) : Type 0 where
  pub each : (s : State) (steps : List Step) → Stands P s steps old → Ends P s steps new

abbrev pub Goes : {T : Type 0} → {E : Type 0} → (Step → Bool) → Past → Result T E → Past → Type 0
Goes P old result new = OnOk result (Keeps P old new) × OnErr result (Stops P old new)

-- a call takes none but these steps: what they all have, all that it takes have
abbrev pub Does : {T : Type 0} → {E : Type 0} → List Step → Past → Result T E → Past → Type 0
Does taken old result new =
    OnOk result ((P : Step → Bool) → list_all P taken ≡ true → Keeps P old new)
    × OnErr result ((P : Step → Bool) → list_all P taken ≡ true → Stops P old new)

-- it takes none at all
abbrev pub no_step : Step → Bool
no_step step = false

-- ---- one step

-- it was taken
pub record Took (step : Step) (old new : Past) : Type 0 where
  pub each : (s : State) (steps : List Step) → old ≡ Known s steps → new ≡ Known s (steps ++ step ∷ [])

-- it wasn't, or the system failed at it
pub record Missed (step : Step) (old new : Past) : Type 0 where
  pub each : (s : State) (steps : List Step) → old ≡ Known s steps → (new ≡ Known s steps) ⊎ (new ≡ Broken s (steps ++ step ∷ []))

abbrev pub TakesOne : {T : Type 0} → {E : Type 0} → Step → Past → Result T E → Past → Type 0
TakesOne step old result new = OnOk result (Took step old new) × OnErr result (Missed step old new)
