-- The calls that go to the wire for calls whose texts stand for others.
--     IsPlain call      the call has no text
--     IsShown stands_for sums call shown      the text of a call is one that it stands for, and its checksums are those of such texts
use Rattle.std.specs.Prelude.{◌≡◌, ℕ, List, Option, Some, None}
use Rattle.svn_editor.specs.declared.call.Call.{Call}
use Rattle.svn_editor.specs.declared.call.Call.TheVariants.{ApplyText, CloseFile}

-- a call without a text
abbrev pub IsPlain : Call → Type 0
IsPlain (ApplyText token base held) = ⊥
IsPlain call = Unit {0}

module _ (stands_for sums : List ℕ → List ℕ → Type 0) where
  -- a checksum, where there is one
  abbrev pub IsShownSum : Option (List ℕ) → Option (List ℕ) → Type 0
  IsShownSum None shown = shown ≡ None
  IsShownSum (Some sum) shown = (known : List ℕ) × sums sum known × (shown ≡ Some known)

  abbrev pub IsShown : Call → Call → Type 0
  IsShown (ApplyText token base held) shown =
      (sum : Option (List ℕ)) × (text : List ℕ) × IsShownSum base sum × stands_for held text × (shown ≡ ApplyText token sum text)
  IsShown (CloseFile token sum) shown = (known : Option (List ℕ)) × IsShownSum sum known × (shown ≡ CloseFile token known)
  IsShown call shown = shown ≡ call
