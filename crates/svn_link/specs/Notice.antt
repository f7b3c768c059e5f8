-- The notice: nothing, or one number, reported once. It is in one word, which is 0 while nothing was reported.
-- One pass may report, and has what was reported. A number that a pass has seen is the one in the word.
use Rattle.std.specs.Prelude.{◌≡◌, ℕ, zero, suc, Bool, true, List, Option, Some, None, IfSome, slice_index}
use mathlib.Core.Option.{some}
use lib.ListN.{get_elem?}
use Rattle.svn_link.specs.declared.word.News.{News}

-- whether a pass may report, what it reported, and what it saw
abbrev pub news : Bool → Option ℕ → Option ℕ → News
news tells told seen = record { tells = tells; told = told; seen = seen }

-- the number that a word means
abbrev pub number_of : ℕ → Option ℕ
number_of zero = None
number_of (suc n) = Some (suc n)

-- the number in the cell, which has one word
abbrev pub number_in : List ℕ → Option ℕ
number_in words = number_of (slice_index words 0)

-- no number, or the same one
abbrev pub IsNoneOrSame : Option ℕ → Option ℕ → Type 0
IsNoneOrSame seen told = IfSome seen (λ n. told ≡ Some n)

-- a pass that may report is the teller's and has what was reported; what any pass has seen was reported
module _ (teller : ℕ) (told : Option ℕ) (pass : ℕ) (v : News) where
  pub record Knows : Type 0 where
    pub tells : v.tells ≡ true → (pass ≡ teller) × (v.told ≡ told)
    pub sees : IsNoneOrSame v.seen told

-- the rule, of the words of the cell and of what each pass knows
pub record IsNoticed (words : List ℕ) (views : List News) : Type 0 where
  pub teller : ℕ
  pub each : (pass : ℕ) (v : News) → get_elem? views pass ≡ some v → Knows teller (number_in words) pass v

-- what is known after the store: the number that is now in the cell was reported
abbrev pub IsTold : News → List ℕ → List ℕ → News → Type 0
IsTold v before after w = w ≡ news v.tells (number_in after) v.seen

-- what is known after a load: the number in the cell is seen, and one that was seen before is seen again
abbrev pub IsSeen : News → List ℕ → List ℕ → News → Type 0
IsSeen v before after w = (w ≡ news v.tells v.told (number_in after)) × IsNoneOrSame v.seen (number_in after)

-- what the joined pass knows after a load: the number in the cell is the one reported, and what was seen is that one
abbrev pub IsAgreed : News → List ℕ → List ℕ → News → Type 0
IsAgreed v before after w = (v.told ≡ number_in after) × IsNoneOrSame v.seen v.told
