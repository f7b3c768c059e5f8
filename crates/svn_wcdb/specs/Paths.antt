-- Paths in columns, and those at a folder or below.
--     path_of bytes      the path that the bytes spell
--     text_from folder text      the text of a path from a folder on, where the path is the folder or below it
--     place_in folder text      the same of a column
--     is_parent parent text      whether a column has the path directly above that one
--     is_in folder text      whether a row with that path is looked at: at the root all are, also one without a path
use Rattle.std.specs.Prelude.{ℕ, ◌+◌, Bool, false, not, ◌&&◌, ◌||◌, List, [], length, take, drop, slice_index, bytes_eq, nat_eq, nat_lt, Option, Some, None, is_some, Result, Ok, Err, if◌then◌else◌}
use Rattle.std.specs.List.{list_all}
use Rattle.std.specs.Str.{is_utf8}
use Rattle.svn_types.specs.declared.fault.PathFault.{PathFault}
use Rattle.svn_types.specs.Names.{Path, is_slash, path_of_text}
use Rattle.svn_types.specs.NameFaults.{path_fault}
use Rattle.svn_wcdb.specs.declared.fault.Reason.{Reason}
use Rattle.svn_wcdb.specs.declared.fault.Reason.TheVariants.{BadPath, NotUtf8}

abbrev pub path_or_fault : Option PathFault → Path → Result Path Reason
path_or_fault None path = Ok path
path_or_fault (Some fault) path = Err (BadPath fault)

abbrev pub path_of : List ℕ → Result Path Reason
path_of bytes = if is_utf8 bytes then path_or_fault (path_fault (path_of_text bytes)) (path_of_text bytes) else Err NotUtf8

-- a folder, a slash and more
abbrev pub goes_below : List ℕ → List ℕ → Bool
goes_below folder text =
    nat_lt (length folder + 1) (length text) && (bytes_eq (take (length folder) text) folder && nat_eq (slice_index text (length folder)) 47)

-- the folder with no byte is the root, below which is every path
unfoldable pub text_from : List ℕ → List ℕ → Option (List ℕ)
text_from folder text =
    if nat_eq (length folder) 0 then Some text
    else if bytes_eq text folder then Some []
    else if goes_below folder text then Some (drop (length folder + 1) text)
    else None

abbrev pub place_in : List ℕ → Option (List ℕ) → Option (List ℕ)
place_in folder None = None
place_in folder (Some text) = text_from folder text

abbrev pub lacks_slash : List ℕ → Bool
lacks_slash text = list_all (λ b. not (is_slash b)) text

abbrev pub is_one_name : Option (List ℕ) → Bool
is_one_name None = false
is_one_name (Some text) = not (nat_eq (length text) 0) && lacks_slash text

-- the root has no parent
abbrev pub is_parent : Option (List ℕ) → List ℕ → Bool
is_parent None text = nat_eq (length text) 0
is_parent (Some parent) text = is_one_name (text_from parent text)

abbrev pub is_in : List ℕ → Option (List ℕ) → Bool
is_in folder text = nat_eq (length folder) 0 || is_some (place_in folder text)
