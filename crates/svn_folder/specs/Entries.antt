-- What a name in a folder stands for: nothing, a file with its bytes and mode, a directory, or a symbolic link.
use Rattle.std.specs.Prelude.{Bool, true, false, not, Option, Some, None}
use Rattle.svn_folder.specs.declared.entry.Entry.{Entry}
use Rattle.svn_folder.specs.declared.entry.Entry.TheVariants.{File, Directory, Link}

abbrev pub is_file : Entry → Bool
is_file (File bytes mode) = true
is_file Directory = false
is_file (Link target) = false

-- no directory
abbrev pub is_leaf : Entry → Bool
is_leaf (File bytes mode) = true
is_leaf Directory = false
is_leaf (Link target) = true

-- there is one, of that kind
abbrev pub has : (Entry → Bool) → Option Entry → Bool
has test None = false
has test (Some e) = test e

abbrev pub has_file : Option Entry → Bool
has_file = has is_file

abbrev pub has_leaf : Option Entry → Bool
has_leaf = has is_leaf

abbrev pub has_directory : Option Entry → Bool
has_directory = has (λ e. not (is_leaf e))
