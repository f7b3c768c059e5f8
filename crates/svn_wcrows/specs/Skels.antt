-- Lists of atoms in Subversion's notation (skel.h), as they are written: each atom after a space, by the number of its bytes.
--     atom_bytes atom      an atom
--     props_bytes props      the list of the names and values of properties
use Rattle.std.specs.Prelude.{ℕ, List, ◌++◌, length, codes}
use Rattle.std.specs.Fmt.{decimal}
use Rattle.std.specs.List.{flat_map}

abbrev pub atom_bytes : List ℕ → List ℕ
atom_bytes atom = codes " " ++ decimal (length atom) ++ codes " " ++ atom

abbrev pub pair_bytes : List ℕ × List ℕ → List ℕ
pair_bytes pair = atom_bytes pair.0 ++ atom_bytes pair.1

abbrev pub props_bytes : List (List ℕ × List ℕ) → List ℕ
props_bytes props = codes "(" ++ flat_map pair_bytes props ++ codes ")"
