-- A database that stands for a working copy.
--     StandsFor nodes bytes      the bytes stand for a working copy with these nodes, in the order of their rows
--     IsCopyOf numbers tables nodes bytes      so do those that were written of these tables
use Rattle.std.specs.Prelude.{◌≡◌, ℕ, List, Ok}
use Rattle.svn_types.specs.Names.{Path}
use Rattle.svn_model.specs.declared.base_node.BaseNode.{BaseNode}
use Rattle.svn_wcdb.specs.Bases.{Base, base_tree_of}
use Rattle.svn_wcrows.specs.declared.tables.Tables.{Tables}
use Rattle.svn_wcrows.specs.declared.database.Numbers.{Numbers}
use Rattle.svn_wcrows.specs.Databases.{AreWritten}

pub record StandsFor (nodes : List (Path × BaseNode)) (bytes : List ℕ) : Type 0 where
  pub base : Base
  pub read : base_tree_of bytes ≡ Ok base
  pub nodes_are : base.nodes ≡ nodes

pub record IsCopyOf (numbers : Numbers) (tables : Tables) (nodes : List (Path × BaseNode)) (bytes : List ℕ) : Type 0 where
  pub written : AreWritten numbers tables bytes
  pub stands : StandsFor nodes bytes
