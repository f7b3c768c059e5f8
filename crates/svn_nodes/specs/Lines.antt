-- The printed lines of the nodes of a copy.
--     line words          words, ended by a line feed
--     node_lines (p, n)   a node at its path, and after it a line for each of its properties
use Rattle.std.specs.Prelude.{ℕ, Bool, true, false, List, [], ◌∷◌, ◌++◌, codes}
use Rattle.std.specs.List.{flat_map}
use Rattle.std.specs.Fmt.{decimal}
use Rattle.svn_types.specs.Names.{Path}
use Rattle.svn_editor.specs.Words.{word, path_word, spaced}
use Rattle.svn_model.specs.declared.base_node.BaseNode.{BaseNode}
use Rattle.svn_model.specs.declared.base_node.BaseNode.TheVariants.{File, Dir, NotPresent}

abbrev pub line : List (List ℕ) → List ℕ
line words = spaced words ++ 10 ∷ []

abbrev pub complete_words : Bool → List (List ℕ)
complete_words true = []
complete_words false = codes "incomplete" ∷ []

abbrev pub node_words : Path → BaseNode → List (List ℕ)
node_words p (File rev from text props) = path_word p ∷ codes "file" ∷ decimal rev ∷ path_word from ∷ word text ∷ []
node_words p (Dir rev from complete props) = path_word p ∷ codes "dir" ∷ decimal rev ∷ path_word from ∷ complete_words complete
node_words p NotPresent = path_word p ∷ codes "not-present" ∷ []

-- what is before a property of the node at the path
abbrev pub prop_start : Path → List ℕ
prop_start p = path_word p ++ codes " prop "

abbrev pub prop_line : Path → List ℕ × List ℕ → List ℕ
prop_line p e = line (path_word p ∷ codes "prop" ∷ word e.0 ∷ word e.1 ∷ [])

abbrev pub lines_of_node : Path → BaseNode → List ℕ
lines_of_node p (File rev from text props) = line (node_words p (File rev from text props)) ++ flat_map (prop_line p) props
lines_of_node p (Dir rev from complete props) = line (node_words p (Dir rev from complete props)) ++ flat_map (prop_line p) props
lines_of_node p NotPresent = line (node_words p NotPresent)

abbrev pub node_lines : Path × BaseNode → List ℕ
node_lines e = lines_of_node e.0 e.1
