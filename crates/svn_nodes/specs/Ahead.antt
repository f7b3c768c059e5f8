-- Pairs that are gone through with the next of them ready to be read.
--     behind_first xs      all but the first
use Rattle.std.specs.Prelude.{List, [], ◌∷◌}

abbrev pub behind_first : {X : Type 0} → List X → List X
behind_first [] = []
behind_first (x ∷ xs) = xs
