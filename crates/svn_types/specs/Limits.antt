-- How much there may be of what.
--     name_limit      the most bytes in a name, of a node or a property
--     depth_limit, path_limit      the most names in a path, and in a path of a repository
--     size_limit      the most bytes in a text or a value
--     capacity_limit      the most calls that the queue may hold
--     script_limit      the most bytes in a script
use Rattle.std.specs.Prelude.{ℕ}

abbrev pub name_limit : ℕ
name_limit = 255

abbrev pub depth_limit : ℕ
depth_limit = 128

abbrev pub path_limit : ℕ
path_limit = 64

abbrev pub size_limit : ℕ
size_limit = 1048576

abbrev pub capacity_limit : ℕ
capacity_limit = 4096

abbrev pub script_limit : ℕ
script_limit = 16777216
