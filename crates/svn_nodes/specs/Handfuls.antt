-- Paths that are noted in places, some of them empty.
--     is_noted places p      the path is in one of the places
use Rattle.std.specs.Prelude.{List, Bool, Option, false}
use Rattle.std.specs.List.{list_any}
use Rattle.std.specs.Option.{option_map_or}
use Rattle.svn_types.specs.Names.{Path}
use Rattle.svn_types.specs.Paths.{path_eq}

abbrev pub is_noted : List (Option Path) → Path → Bool
is_noted places p = list_any (λ o. option_map_or (λ q. path_eq q p) o false) places
