-- Paths above and below one another.
--     path_eq p q, is_within p q, is_below p q      the same path; q is p or is below it; q is strictly below p
--     child p name, parent p, last_name p      a path one name longer, and one name shorter; its last name, as a path
--     parent_path p      the path one name shorter, none for the root
use Rattle.std.specs.Prelude.{ℕ, Bool, true, false, ◌&&◌, not, List, [], ◌∷◌, ◌++◌, bytes_eq, Option, Some, None, if◌then◌else◌}
use Rattle.std.specs.Cmp.Lexicographic.{pointwise}
use Rattle.svn_types.specs.Names.{Path}

abbrev pub path_eq : Path → Path → Bool
path_eq = pointwise bytes_eq

-- the second path is the first, or is below it
abbrev pub is_within : Path → Path → Bool
is_within [] q = true
is_within (m ∷ p) [] = false
is_within (m ∷ p) (n ∷ q) = bytes_eq m n && is_within p q

-- the second path is strictly below the first
abbrev pub is_below : Path → Path → Bool
is_below p q = is_within p q && not (path_eq p q)

abbrev pub is_root : Path → Bool
is_root [] = true
is_root (name ∷ p) = false

abbrev pub child : Path → List ℕ → Path
child p name = p ++ name ∷ []

-- the path without its last name
abbrev pub parent : Path → Path
parent [] = []
parent (m ∷ []) = []
parent (m ∷ n ∷ p) = m ∷ parent (n ∷ p)

abbrev pub parent_path : Path → Option Path
parent_path p = if is_root p then None else Some (parent p)

-- the last name of a path, as a path
abbrev pub last_name : Path → Path
last_name [] = []
last_name (n ∷ []) = n ∷ []
last_name (m ∷ n ∷ p) = last_name (n ∷ p)
