-- Answers to commands, and what they are made of.
--     success results      the answer of a command that succeeds
--     failure code message      that of one that fails
--     no_mechanism      what comes before either: no mechanism is asked for
use Rattle.std.specs.Prelude.{ℕ, Bool, true, false, List, [], ◌∷◌, ◌++◌, codes, Option, Some, None}
use Rattle.std.specs.List.{flat_map}
use Rattle.svn_types.specs.Names.{Path}
use Rattle.svn_types.specs.declared.kind.Kind.{Kind}
use Rattle.svn_types.specs.declared.kind.Kind.TheVariants.{File, Directory}
use Rattle.svn_wire.specs.Writing.{number_bytes, word_bytes, text_bytes}

-- ---- answers

unfoldable pub success : List ℕ → List ℕ
success results = codes "( success ( " ++ (results ++ codes ") ) ")

unfoldable pub failure : ℕ → List ℕ → List ℕ
failure code message = codes "( failure ( ( " ++ (number_bytes code ++ (text_bytes message ++ codes "0: 0 ) ) ) "))

abbrev pub no_mechanism : List ℕ
no_mechanism = codes "( success ( ( ) 0: ) ) "

-- ---- their parts

abbrev pub listed : List ℕ → List ℕ
listed bytes = codes "( " ++ (bytes ++ codes ") ")

abbrev pub bool_bytes : Bool → List ℕ
bool_bytes true = word_bytes (codes "true")
bool_bytes false = word_bytes (codes "false")

-- the kind of a node, or that none is there
abbrev pub kind_bytes : Option Kind → List ℕ
kind_bytes (Some File) = word_bytes (codes "file")
kind_bytes (Some Directory) = word_bytes (codes "dir")
kind_bytes None = word_bytes (codes "none")

-- a list of a name and a value
unfoldable pub pair_bytes : List ℕ → List ℕ → List ℕ
pair_bytes name value = codes "( " ++ (text_bytes name ++ (text_bytes value ++ codes ") "))

-- the same if there is a value
abbrev pub known_pair : List ℕ → Option (List ℕ) → List ℕ
known_pair name None = []
known_pair name (Some value) = pair_bytes name value

-- a path with a slash before each name; that of the root is a slash
abbrev pub whole_path : Path → List ℕ
whole_path [] = codes "/"
whole_path (name ∷ path) = flat_map (λ m. 47 ∷ m) (name ∷ path)
