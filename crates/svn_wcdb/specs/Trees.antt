-- Pages of tables, as the code has them.
--     IsNodeOf usable number node      a well-formed page of a table, at that number
use Rattle.std.specs.Prelude.{◌≡◌, ℕ, length}
use Rattle.sqlite_format.specs.declared.node.Node.{Node}
use Rattle.sqlite_format.specs.Node.{IsSound}
use Rattle.svn_wcdb.specs.Pages.{kind_of, header_of}

pub record IsNodeOf (usable number : ℕ) (node : Node) : Type 0 where
  pub sound : IsSound node
  pub header : node.header ≡ header_of number
  pub kind : node.kind ≡ kind_of node.kind.leaf
  pub size : length node.bytes.now ≡ usable
