-- Places of paths below one another, and what changes where something else is put at a path.
--     rest_below p q      the rest of q, where p is a prefix of it
--     led rest here other      what is in the new part at the rest, or else what was before
use Rattle.std.specs.Prelude.{[], ◌∷◌, bytes_eq, Option, Some, None, if◌then◌else◌}
use Rattle.svn_types.specs.Names.{Path}

abbrev pub rest_below : Path → Path → Option Path
rest_below [] q = Some q
rest_below (m ∷ p) [] = None
rest_below (m ∷ p) (n ∷ q) = if bytes_eq m n then rest_below p q else None

abbrev pub led : {T : Type 0} → Option Path → (Path → T) → T → T
led None here other = other
led (Some r) here other = here r
