-- The columns of a row that was written, read again.
use Rattle.std.proofs.Common.{◌≡◌, ℕ, pos, false, List, [], ◌∷◌, Option, Some, None, Ok, refl, ap, sym}
use Rattle.sqlite_record.specs.Record.{decode}
use Rattle.sqlite_value.specs.declared.value.Value.{Value}
use Rattle.sqlite_value.specs.declared.value.Value.TheVariants.{Null, Int, Text}
use Rattle.svn_wcdb.specs.declared.fault.TableName.{TableName}
use Rattle.svn_wcdb.specs.declared.fault.TableName.TheVariants as tables
use Rattle.svn_wcdb.specs.Columns.{text_in, bytes_in}
use Rattle.svn_wcdb.specs.Nodes.{NodeRow, row_of}
use Rattle.svn_wcrows.specs.Rows.{text_value, blob_value}

text_back : (table : TableName) (c : ℕ) (text : Option (List ℕ)) → text_in table c (text_value text) ≡ Ok text
text_back table c None = refl
text_back table c (Some text) = refl

bytes_back : (table : TableName) (c : ℕ) (bytes : Option (List ℕ)) → bytes_in table c (blob_value bytes) ≡ Ok bytes
bytes_back table c None = refl
bytes_back table c (Some bytes) = refl

-- the values that a base node's columns are
pub record Written (row : NodeRow) (wc_id path parent repos_id repos_path revision presence word properties depth checksum : Value) : Type 0 where
  pub w : ℕ
  pub r : ℕ
  pub n : ℕ
  pub p : List ℕ
  pub q : List ℕ
  pub there : List ℕ
  pub kind : List ℕ
  pub wc_id_is : wc_id ≡ Int (pos w)
  pub path_is : path ≡ Text p
  pub parent_is : parent ≡ text_value row.parent
  pub repos_id_is : repos_id ≡ Int (pos r)
  pub repos_path_is : repos_path ≡ Text q
  pub revision_is : revision ≡ Int (pos n)
  pub presence_is : presence ≡ Text there
  pub word_is : word ≡ Text kind
  pub properties_are : properties ≡ blob_value row.properties
  pub depth_is : depth ≡ text_value row.depth
  pub checksum_is : checksum ≡ text_value row.checksum
  pub row_is : row ≡ record {
    wc_id = Some w;
    path = Some p;
    op_depth = Some 0;
    parent = row.parent;
    repos_id = Some r;
    repos_path = Some q;
    revision = Some n;
    presence = Some there;
    kind = Some kind;
    properties = row.properties;
    depth = row.depth;
    checksum = row.checksum;
    is_external = false;
  }

pub row_read : (bytes : List ℕ) (wc_id path parent repos_id repos_path revision presence word properties depth checksum a b c d e f : Value) (row : NodeRow)
    → decode bytes
    ≡ wc_id ∷ path ∷ Int (pos 0) ∷ parent ∷ repos_id ∷ repos_path ∷ revision ∷ presence ∷ Null ∷ Null ∷ word ∷ properties ∷ depth ∷ checksum ∷ Null
    ∷ a ∷ b ∷ c ∷ d ∷ e ∷ Null ∷ Null ∷ f ∷ []
    → Written row wc_id path parent repos_id repos_path revision presence word properties depth checksum → row_of bytes ≡ Ok row
unfolding row_of
row_read bytes wc_id path parent repos_id repos_path revision presence word properties depth checksum a b c d e f row decoded are =
    rw (
      decoded,
      are.wc_id_is,
      are.path_is,
      are.parent_is,
      are.repos_id_is,
      are.repos_path_is,
      are.revision_is,
      are.presence_is,
      are.word_is,
      are.properties_are,
      are.depth_is,
      are.checksum_is,
      text_back tables.Nodes 3 row.parent,
      bytes_back tables.Nodes 11 row.properties,
      text_back tables.Nodes 12 row.depth,
      text_back tables.Nodes 13 row.checksum,
    )
    (ap Ok (sym are.row_is))
