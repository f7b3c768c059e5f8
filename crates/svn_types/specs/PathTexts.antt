-- How a path is printed.
--     path_text p      its names with a slash between them
--     shown_path p      the same, the root being `.`
use Rattle.std.specs.Prelude.{ℕ, List, [], ◌∷◌, ◌++◌}
use Rattle.std.specs.List.{flat_map}
use Rattle.svn_types.specs.Names.{Path}

abbrev pub path_text : Path → List ℕ
path_text [] = []
path_text (n ∷ p) = n ++ flat_map (λ m. 47 ∷ m) p

abbrev pub shown_path : Path → List ℕ
shown_path [] = 46 ∷ []
shown_path (n ∷ p) = path_text (n ∷ p)
