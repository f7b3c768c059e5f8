-- Rows of NODES as they are written.
--     node_row owner path node      the row of a node at a path of the working copy
use Rattle.std.specs.Prelude.{◌≡◌, ℕ, true, false, List, [], ◌∷◌, Option, Some, None, option_map, codes, if◌then◌else◌}
use Rattle.sqlite_value.specs.declared.value.Value.{Value}
use Rattle.sqlite_value.specs.declared.value.Value.TheVariants.{Null, Text, Blob}
use Rattle.svn_types.specs.Names.{Path}
use Rattle.svn_types.specs.Paths.{parent, parent_path}
use Rattle.svn_types.specs.PathTexts.{path_text}
use Rattle.svn_model.specs.declared.base_node.BaseNode.{BaseNode}
use Rattle.svn_model.specs.declared.base_node.BaseNode.TheVariants as base
use Rattle.svn_wcdb.specs.Nodes.{NodeRow}
use Rattle.svn_wcrows.specs.declared.node_row.Owner.{Owner}
use Rattle.svn_wcrows.specs.declared.node_row.Columns.{Columns}
use Rattle.svn_wcrows.specs.declared.node_row.Kind.{Kind}
use Rattle.svn_wcrows.specs.declared.node_row.Kind.TheVariants.{File, Directory}
use Rattle.svn_wcrows.specs.Skels.{props_bytes}

abbrev pub text_value : Option (List ℕ) → Value
text_value None = Null
text_value (Some text) = Text text

abbrev pub blob_value : Option (List ℕ) → Value
blob_value None = Null
blob_value (Some bytes) = Blob bytes

-- NULL where there are none
abbrev pub props_column : List (List ℕ × List ℕ) → Option (List ℕ)
props_column [] = None
props_column (p ∷ ps) = Some (props_bytes (p ∷ ps))

-- the root has no path above it
abbrev pub parent_column : Path → Option (List ℕ)
parent_column p = option_map path_text (parent_path p)

abbrev pub presence_of : Kind → List ℕ
presence_of File = codes "normal"
presence_of (Directory complete) = if complete then codes "normal" else codes "incomplete"

abbrev pub word_of : Kind → List ℕ
word_of File = codes "file"
word_of (Directory complete) = codes "dir"

abbrev pub depth_of : Kind → Option (List ℕ)
depth_of File = None
depth_of (Directory complete) = Some (codes "infinity")

abbrev pub present_row : Owner → List ℕ → Option (List ℕ) → List ℕ → ℕ → Kind → Option (List ℕ) → Option (List ℕ) → NodeRow
present_row owner path parent repos_path rev kind props checksum =
    record {
      wc_id = Some owner.wc_id;
      path = Some path;
      op_depth = Some 0;
      parent = parent;
      repos_id = Some owner.repos_id;
      repos_path = Some repos_path;
      revision = Some rev;
      presence = Some (presence_of kind);
      kind = Some (word_of kind);
      properties = props;
      depth = depth_of kind;
      checksum = checksum;
      is_external = false;
    }

-- as the code has its columns
abbrev pub row_with : Owner → Columns → NodeRow
row_with owner columns =
    present_row owner columns.path.bytes.items (option_map (λ t. t.bytes.items) columns.parent) columns.repos_path.bytes.items columns.rev columns.kind
    (option_map (λ b. b.items) columns.props) columns.checksum

abbrev pub row_at : Owner → Path → ℕ → Path → Kind → List (List ℕ × List ℕ) → Option (List ℕ) → NodeRow
row_at owner path rev repos_path kind props checksum =
    present_row owner (path_text path) (parent_column path) (path_text repos_path) rev kind (props_column props) checksum

-- a node that isn't present has a row that is kept, and none that is made
abbrev pub node_row : Owner → Path → BaseNode → NodeRow
node_row owner path (base.Dir rev repos_path complete props) = row_at owner path rev repos_path (Directory complete) props None
node_row owner path (base.File rev repos_path text props) = row_at owner path rev repos_path File props (Some text)
node_row owner path base.NotPresent = row_at owner path 0 [] (Directory true) [] None

-- the row that the columns make is that of a node
abbrev pub AreColumnsOf : Path → BaseNode → Columns → Type 0
AreColumnsOf path node columns = (owner : Owner) → row_with owner columns ≡ node_row owner path node
