-- The entry that a folder of a working copy is of the directory above it.
--     entry_by below at above      its name, where its path in the repository is that of the directory with this name more: then it isn't switched
--     entry_of takes database below nodes      that of the folder at a path of a copy, with these nodes: none where it is the copy's root or switched, and
--         where sparse copies are taken
use Rattle.std.specs.Prelude.{ℕ, List, [], ◌∷◌, ◌++◌, Option, Some, None, Result, Ok, Err, if◌then◌else◌}
use Rattle.svn_types.specs.Names.{Path}
use Rattle.svn_types.specs.Paths.{path_eq, parent, last_name}
use Rattle.svn_model.specs.declared.base_node.BaseNode.{BaseNode}
use Rattle.svn_model.specs.Nodes.{get_in, present_path}
use Rattle.svn_wcdb.specs.declared.depth.Takes.{Takes}
use Rattle.svn_wcdb.specs.declared.depth.Takes.TheVariants.{Whole, Sparse}
use Rattle.svn_wcdb.specs.Bases.{Base, base_tree_in}
use Rattle.svn_wcdb.specs.Reading.{Place}

abbrev pub path_of : Option BaseNode → Option Path
path_of None = None
path_of (Some node) = present_path node

abbrev pub first_name : Path → Option (List ℕ)
first_name [] = None
first_name (name ∷ p) = Some name

abbrev pub entry_by : Path → Option Path → Option Path → Option (List ℕ)
entry_by below None above = None
entry_by below (Some at) None = None
entry_by below (Some at) (Some above) = if path_eq at (above ++ last_name below) then first_name (last_name below) else None

-- of what was read, where it could be
abbrev pub path_of_read : Result Base Place → Option Path
path_of_read (Ok base) = path_of (get_in base.nodes [])
path_of_read (Err fault) = None

abbrev pub entry_of : Takes → List ℕ → Path → List (Path × BaseNode) → Option (List ℕ)
entry_of Sparse database below nodes = None
entry_of Whole database below nodes =
    entry_by below (path_of (get_in nodes [])) (path_of_read (base_tree_in Sparse (parent below) database))
