-- The copy that an update or a switch ends with.
--     result d p      what it has at a path
use Rattle.std.specs.Prelude.{option_map}
use Rattle.svn_model.specs.Follow.{DriveInput, target_path, target_node}
use Rattle.svn_model.specs.Nodes.{WorkingCopy, base_node}

abbrev pub result : DriveInput → WorkingCopy
result d p = option_map (base_node d.history d.target (target_path d p)) (target_node d p)
