-- What a listener hears of a dump that is loaded, where `hears` says what it does when it hears of a revision and a number of bytes.
--     Hears limits texts hears old l new l'      revisions were loaded, and it heard of each
--     HearsAll limits texts hears result old l new l'      so it was up to the last revision, or up to the one that is refused
use Rattle.std.specs.Prelude.{◌≡◌, ℕ, ◌+◌, length, Option, Result, Ok, Err}
use Rattle.svn_dump.specs.declared.sections.Limits.{Limits}
use Rattle.svn_dump.specs.declared.sections.Texts.{Texts}
use Rattle.svn_history.specs.declared.fault.LoadFault.{LoadFault}
use Rattle.svn_history.specs.Places.{anywhere}
use Rattle.svn_history.specs.Parts.{Loading, LoadsOne, RefusesOne}

module _ {L : Type 0} (limits : Limits) (texts : Texts) (hears : L → ℕ → ℕ → L → Type 0) where
  -- one revision after another, and after each it hears of the newest one that the repository has
  pub data Hears (old : Loading) (l : L) : Loading → L → Type 0 where
    nothing_yet : Hears old l old l
    one_more : {new : Loading} {l' : L} (mid : Loading) (k : L) (done : Option ℕ) (newest bytes : ℕ) → Hears old l mid k
        → LoadsOne limits texts mid new done → newest + 1 ≡ length new.draft.history.roots → hears k newest bytes l' → Hears old l new l'

  abbrev pub HearsAll : {X : Type 0} → Result X LoadFault → Loading → L → Loading → L → Type 0
  HearsAll (Ok x) old l new l' = Hears old l new l'
  HearsAll (Err e) old l new l' = (last : Loading) × Hears old l last l' × RefusesOne limits texts anywhere last e new.draft.history
