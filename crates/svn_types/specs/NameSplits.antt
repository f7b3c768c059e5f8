-- The first name of a text, and the names after it.
use Rattle.std.specs.Prelude.{◌≡◌, ℕ, ◌<◌, List, [], ◌∷◌, length, Option, MatchOption}
use Rattle.std.specs.Borrow.{Bor}
use Rattle.std.specs.List.{slice_split}
use Rattle.svn_types.specs.Names.{is_slash}

-- a text with no slash is one name; else the first part is the first name, and the others are those of the second part
abbrev pub IsNameSplit : List ℕ → Option (Bor (List ℕ) × Bor (List ℕ)) → Type 0
IsNameSplit text r =
    MatchOption r (slice_split is_slash text ≡ text ∷ [])
    (λ x. (slice_split is_slash text ≡ x.0.now ∷ slice_split is_slash x.1.now) × (length x.1.now < length text))
