-- Two lists of pairs in order of their names, merged: the first name of either is taken.
--     TakesAt name es value rest      the name had the value and is taken, or all names are after it
--     TakesFirst first l l'      the first name of either was taken, with its value in each
use denote.Ref.{Bor}
use Rattle.std.specs.Prelude.{◌≡◌, ℕ, true, List, [], ◌∷◌, ◌||◌, is_some, Option, Some, None}
use Rattle.std.specs.Option.{option_copied}
use Rattle.std.specs.declared.cmp.Ordering.TheVariants.{Less}
use Rattle.svn_types.specs.Names.{name_cmp}
use Rattle.svn_types.specs.declared.props_left.PropsLeft.{PropsLeft}

-- a name, and its old and its new value
abbrev pub InEither : Type 0
InEither = Bor (List ℕ) × Option (Bor (List ℕ)) × Option (Bor (List ℕ))

-- the first of the pairs is after the name
abbrev pub IsBehind : {V : Type 0} → List ℕ → List (List ℕ × V) → Type 0
IsBehind name [] = Unit {0}
IsBehind name (e ∷ es) = name_cmp name e.0 ≡ Less

abbrev pub TakesAt : {V : Type 0} → List ℕ → List (List ℕ × V) → Option V → List (List ℕ × V) → Type 0
TakesAt name es (Some v) rest = es ≡ (name, v) ∷ rest
TakesAt name es None rest = (rest ≡ es) × IsBehind name es

pub record TakesFirst (first : InEither) (l l' : PropsLeft) : Type 0 where
  pub old : TakesAt first.0.now l.before (option_copied first.1) l'.before
  pub new : TakesAt first.0.now l.after (option_copied first.2) l'.after
  pub one : (is_some (option_copied first.1) || is_some (option_copied first.2)) ≡ true
