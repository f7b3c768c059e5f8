-- What is written of a node, with its last change.
--     entry_bytes s n told      kind, size, whether there are properties, and the last change
--     props_bytes h uuid n told      the properties, those that a server makes first
--     IsEntry s r p n bytes, AreProps s r p n bytes      these are written of node n, which is at path p of revision r
--     AreEntries s r p entries bytes      the same of the entries of a directory
use Rattle.std.specs.Prelude.{◌≡◌, ℕ, Bool, true, false, List, [], ◌∷◌, ◌++◌, codes, Option, Some, None, option_map}
use Rattle.std.specs.List.{flat_map}
use Rattle.std.specs.Fmt.{decimal}
use Rattle.svn_types.specs.Names.{Path}
use Rattle.svn_repo.specs.History.{History, node_at}
use Rattle.svn_wire.specs.Writing.{number_bytes, text_bytes}
use Rattle.svn_wire_calls.specs.declared.entered.Entered.{Entered}
use Rattle.svn_wire_calls.specs.Calls.{optional}
use Rattle.svn_replies.specs.declared.served.Served.{Served}
use Rattle.svn_replies.specs.Answers.{bool_bytes, kind_bytes, pair_bytes, known_pair, listed}
use Rattle.svn_replies.specs.LastChanges.{IsChangeOrNone}
use Rattle.svn_replies.specs.Nodes.{has_props}
use Rattle.svn_replies.specs.NodeTexts.{size_of}
use Rattle.svn_replies.specs.Values.{Pairs}

-- a list of a date; the client reads no entry without one
abbrev pub date_bytes : Option (List ℕ) → List ℕ
date_bytes None = codes "( 27:1970-01-01T00:00:00.000000Z ) "
date_bytes (Some date) = optional (Some date)

-- revision, date and author; of a node there is a last change
abbrev pub change_bytes : Option Entered → List ℕ
change_bytes None = number_bytes 0 ++ (date_bytes None ++ optional None)
change_bytes (Some told) = number_bytes told.rev ++ (date_bytes told.date ++ optional told.author)

-- the same as properties that a server makes
abbrev pub change_pairs : Option Entered → List ℕ
change_pairs None = []
change_pairs (Some told) =
    pair_bytes (codes "svn:entry:committed-rev") (decimal told.rev)
    ++ (known_pair (codes "svn:entry:committed-date") told.date ++ known_pair (codes "svn:entry:last-author") told.author)

unfoldable pub entry_bytes : Served → ℕ → Option Entered → List ℕ
entry_bytes s n told =
    kind_bytes (option_map (λ row. row.kind) (node_at s.repo n))
    ++ (number_bytes (size_of s n) ++ (bool_bytes (has_props s.repo n) ++ change_bytes told))

abbrev pub pairs_bytes : Option Pairs → List ℕ
pairs_bytes None = []
pairs_bytes (Some props) = flat_map (λ prop. pair_bytes prop.0 prop.1) props

unfoldable pub props_bytes : History → List ℕ → ℕ → Option Entered → List ℕ
props_bytes h uuid n told =
    change_pairs told ++ (pair_bytes (codes "svn:entry:uuid") uuid ++ pairs_bytes (option_map (λ row. row.props) (node_at h n)))

-- ---- with the last change of the node

abbrev pub IsEntry : Served → ℕ → Path → ℕ → List ℕ → Type 0
IsEntry s r p n bytes = (told : Option Entered) × IsChangeOrNone s r p told × (bytes ≡ entry_bytes s n told)

abbrev pub AreProps : Served → ℕ → Path → ℕ → List ℕ → Type 0
AreProps s r p n bytes = (told : Option Entered) × IsChangeOrNone s r p told × (bytes ≡ props_bytes s.repo s.uuid n told)

-- where they are wanted
abbrev pub ArePropsIf : Bool → Served → ℕ → Path → ℕ → List ℕ → Type 0
ArePropsIf true s r p n bytes = AreProps s r p n bytes
ArePropsIf false s r p n bytes = bytes ≡ []

-- in the order of their names
abbrev pub AreEntries : Served → ℕ → Path → List (List ℕ × ℕ) → List ℕ → Type 0
AreEntries s r p [] bytes = bytes ≡ []
AreEntries s r p (e ∷ entries) bytes =
    (one : List ℕ) × (rest : List ℕ) × IsEntry s r (p ++ e.0 ∷ []) e.1 one × AreEntries s r p entries rest
    × (bytes ≡ listed (text_bytes e.0 ++ one) ++ rest)

-- where they are wanted
abbrev pub AreEntriesIf : Bool → Served → ℕ → Path → List (List ℕ × ℕ) → List ℕ → Type 0
AreEntriesIf true s r p entries bytes = AreEntries s r p entries bytes
AreEntriesIf false s r p entries bytes = bytes ≡ []
