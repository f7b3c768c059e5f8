-- Why a run stopped, by its limit and how many of its calls were made and accepted.
use Rattle.std.proofs.Common.{◌≡◌, ℕ, ◌<◌, Bool, true, false, refl, ap, arith}
use Rattle.std.specs.Prelude.{◌&&◌, nat_eq, Option, Some, None, if◌then◌else◌}
use Rattle.std.proofs.lemmas.Bool.{eqb-true}
use Rattle.svn_run.specs.declared.outcome.Cause.TheVariants.{Cancelled, Memory}
use Rattle.svn_run.specs.UpdateTheorem.{OnCause, cause_at}

pub cause_fits : (limit : Option ℕ) (made accepted all : ℕ) → accepted < all
    → OnCause (cause_at limit made accepted) ((limit ≡ Some made) × (accepted ≡ made) × (made < all))
cause_fits None made accepted all lt = tt
cause_fits (Some n) made accepted all lt = by (nat_eq n made) (nat_eq accepted made) refl refl
  where
    by : (at whole : Bool) → nat_eq n made ≡ at → nat_eq accepted made ≡ whole
        → OnCause (if at && whole then Cancelled else Memory) ((Some n ≡ Some made) × (accepted ≡ made) × (made < all))
    by true true p q =
        let same : accepted ≡ made = eqb-true accepted made q in
        (ap (λ j. Some j) (eqb-true n made p), same, omega (arith, same, lt))
    by true false p q = tt
    by false whole p q = tt
