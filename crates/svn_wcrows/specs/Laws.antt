-- What is written is read back, as statements. Each is the contract of the function of its name, which does nothing.
use Rattle.std.specs.Prelude.{◌≡◌, ℕ, ◌<◌, ◌^◌, List, [], ◌∷◌, ◌++◌, length, All, Some, Ok}
use Rattle.std.specs.Map.{keys_of}
use Rattle.svn_types.specs.Names.{Path, IsPropName}
use Rattle.svn_types.specs.Pairs.{InNameOrder}
use Rattle.svn_model.specs.declared.base_node.BaseNode.{BaseNode}
use Rattle.svn_model.specs.declared.base_node.BaseNode.TheVariants as base
use Rattle.law_dump.specs.Laws.{IsPath}
use Rattle.svn_wcdb.specs.declared.table.TableRow.{TableRow}
use Rattle.svn_wcdb.specs.Bases.{References, Found, placed_after}
use Rattle.svn_wcdb.specs.Nodes.{row_of, base_of}
use Rattle.svn_wcdb.specs.Pristines.{Sizes, text_among}
use Rattle.svn_wcdb.specs.Properties.{props_of}
use Rattle.svn_wcdb.specs.Reading.{each}
use Rattle.svn_wcrows.specs.declared.node_row.Owner.{Owner}
use Rattle.svn_wcrows.specs.declared.work.Work.{Work}
use Rattle.svn_wcrows.specs.Rows.{node_row}
use Rattle.svn_wcrows.specs.Skels.{props_bytes}
use Rattle.svn_wcrows.specs.Work.{place_of, AreItems}

-- of lawful names, in their order, and of a list that a machine can hold
pub record AreProps (props : List (List ℕ × List ℕ)) : Type 0 where
  pub names : All IsPropName (keys_of props)
  pub ordered : InNameOrder props
  pub fits : length (props_bytes props) < 2 ^ 64

abbrev pub PropertiesAreReadBack : Type 0
PropertiesAreReadBack = (props : List (List ℕ × List ℕ)) → AreProps props → props_of (Some (props_bytes props)) ≡ Ok props

-- ---- nodes

-- a node that is there, with a lawful path and lawful properties, as each is of which a record was made
abbrev pub IsRowNode : BaseNode → Type 0
IsRowNode (base.File rev repos_path text props) = IsPath repos_path × AreProps props
IsRowNode (base.Dir rev repos_path complete props) = IsPath repos_path × AreProps props
IsRowNode base.NotPresent = ⊥

-- a file's text is a stand-in, and among the texts that are kept
abbrev pub HasText : Sizes → BaseNode → Type 0
HasText pristines (base.File rev repos_path text props) = text_among pristines (Some text) ≡ Ok text
HasText pristines (base.Dir rev repos_path complete props) = Unit {0}
HasText pristines base.NotPresent = Unit {0}

abbrev pub NodesAreReadBack : Type 0
NodesAreReadBack =
    (owner : Owner) (path : Path) (node : BaseNode) (pristines : Sizes) → IsRowNode node → HasText pristines node
    → base_of pristines (node_row owner path node) ≡ Ok node

-- the row is that of the node at the path
pub record IsNodeRow (owner : Owner) (pristines : Sizes) (row : TableRow) (p : Path) (n : BaseNode) : Type 0 where
  pub columns : row_of row.bytes ≡ Ok (node_row owner p n)
  pub path : IsPath p
  pub node : IsRowNode n
  pub text : HasText pristines n

abbrev pub AreNodeRows : Owner → Sizes → List TableRow → List (Path × BaseNode) → Type 0
AreNodeRows owner pristines [] [] = Unit {0}
AreNodeRows owner pristines (row ∷ rows) (entry ∷ nodes) = IsNodeRow owner pristines row entry.0 entry.1 × AreNodeRows owner pristines rows nodes
AreNodeRows owner pristines _ _ = ⊥

-- the rows of a whole copy are looked at, and they belong to its root and repository
pub record IsOwner (to : References) (owner : Owner) : Type 0 where
  pub wc_id : owner.wc_id ≡ to.wc_id
  pub repos_id : owner.repos_id ≡ to.repos_id
  pub whole : to.folder ≡ []

-- rows of nodes add these, at their paths and in their order, to the nodes that were read before
abbrev pub RowsAreReadBack : Type 0
RowsAreReadBack =
    (owner : Owner) (to : References) (rows : List TableRow) (nodes : List (Path × BaseNode)) (found : Found) → IsOwner to owner
    → AreNodeRows owner to.pristines rows nodes → each (placed_after to) rows found ≡ Ok (found.0 ++ nodes, found.1)

-- ---- work

-- rows are of one list of items
abbrev pub WorkIsReadBack : Type 0
WorkIsReadBack =
    (rows : List TableRow) (items others : List Work) → All (λ work. IsPath (place_of work)) items → All (λ work. IsPath (place_of work)) others
    → AreItems rows items → AreItems rows others → items ≡ others
