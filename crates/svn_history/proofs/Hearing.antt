-- What a listener hears.
use Rattle.std.proofs.Common.{◌≡◌, ◌+◌, ℕ, length, Option, Result, subst, sym}
use Rattle.std.specs.Prelude.{IsErr, IsErrAnd}
use Rattle.std.proofs.lemmas.Result.{err_from_is_err_and}
use Rattle.svn_dump.specs.declared.sections.Limits.{Limits}
use Rattle.svn_dump.specs.declared.sections.Texts.{Texts}
use Rattle.svn_history.specs.declared.fault.LoadFault.{LoadFault}
use Rattle.svn_history.specs.Places.{anywhere}
use Rattle.svn_history.specs.Parts.{Loading, LoadsOne, RefusesOne}
use Rattle.svn_history.specs.Hearing.{Hears, one_more, HearsAll}

module _ {L : Type 0} (limits : Limits) (texts : Texts) (hears : L → ℕ → ℕ → L → Type 0) (old : Loading) (l : L) where
  -- what `?` returns
  pub heard_before : {X : Type 0} (mid new : Loading) (l' : L) (e : LoadFault) (r : Result X LoadFault) → IsErr r × IsErrAnd r (λ x. x ≡ e)
      → Hears limits texts hears old l mid l' → RefusesOne limits texts anywhere mid e new.draft.history
      → HearsAll limits texts hears r old l new l'
  heard_before {X} mid new l' e r returned heard why =
      let x = err_from_is_err_and r returned.1 in
      subst (λ (o : Result X LoadFault). HearsAll limits texts hears o old l new l') (sym x.1)
      (mid, heard, subst (λ (f : LoadFault). RefusesOne limits texts anywhere mid f new.draft.history) (sym x.2) why)

  pub heard_more : (limits' : Limits) (texts' : Texts) (mid new : Loading) (k l' : L) (done : Option ℕ) (newest bytes : ℕ) → limits' ≡ limits
      → texts' ≡ texts → Hears limits texts hears old l mid k → LoadsOne limits' texts' mid new done
      → newest + 1 ≡ length new.draft.history.roots → hears k newest bytes l' → Hears limits texts hears old l new l'
  heard_more limits' texts' mid new k l' done newest bytes same same' heard one is hear =
      one_more mid k done newest bytes heard
      (subst (λ (t : Texts). LoadsOne limits t mid new done) same' (subst (λ (x : Limits). LoadsOne x texts' mid new done) same one)) is hear
