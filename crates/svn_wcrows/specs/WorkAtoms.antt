-- The lists of the work queue, taken apart between spaces, as the code reads them. `Work` has what they stand for.
--     atom_after bytes      the atom after the first space, and what follows it
--     item_in bytes      the item whose list the bytes are
use Rattle.std.specs.Prelude.{ℕ, ◌+◌, List, take, drop, length, nat_eq, nat_le, bytes_eq, codes, Option, Some, None, option_and_then, if◌then◌else◌}
use Rattle.std.specs.List.{position}
use Rattle.svn_digits.specs.Numbers.{number_of}
use Rattle.svn_types.specs.Names.{Path}
use Rattle.svn_wcdb.specs.Locks.{path_or_none}
use Rattle.svn_wcdb.specs.Paths.{path_of}
use Rattle.svn_wcrows.specs.declared.work.Work.{Work}
use Rattle.svn_wcrows.specs.declared.work.Work.TheVariants.{MakeDirectory, InstallFile, RemoveFile, RemoveDirectory}
use Rattle.svn_wcrows.specs.Work.{work_bytes}

-- what is before the first space, and what is after it
unfoldable pub split_space : List ℕ → Option (List ℕ × List ℕ)
split_space bytes = option_and_then (λ i. Some (take i bytes, drop (i + 1) bytes)) (position (λ b. nat_eq b 32) bytes)

abbrev pub first_bytes : List ℕ → Option ℕ → Option (List ℕ × List ℕ)
first_bytes bytes None = None
first_bytes bytes (Some n) = if nat_le n (length bytes) then Some (take n bytes, drop n bytes) else None

-- digits, and as many bytes as they say
abbrev pub sized : List ℕ × List ℕ → Option (List ℕ × List ℕ)
sized parts = first_bytes parts.1 (number_of parts.0)

unfoldable pub atom_after : List ℕ → Option (List ℕ × List ℕ)
atom_after bytes = option_and_then (λ parts. option_and_then sized (split_space parts.1)) (split_space bytes)

abbrev pub item_named : List ℕ → Path → Option Work
item_named word path =
    if bytes_eq word (codes "dir-install") then Some (MakeDirectory path)
    else if bytes_eq word (codes "file-install") then Some (InstallFile path)
    else if bytes_eq word (codes "file-remove") then Some (RemoveFile path)
    else if bytes_eq word (codes "dir-remove") then Some (RemoveDirectory path)
    else None

-- the item, where the bytes are the list that this crate writes of it
abbrev pub if_same : List ℕ → Work → Option Work
if_same bytes work = if bytes_eq (work_bytes work) bytes then Some work else None

abbrev pub item_at : List ℕ → List ℕ → Path → Option Work
item_at bytes word path = option_and_then (if_same bytes) (item_named word path)

abbrev pub item_of_atoms : List ℕ → List ℕ → List ℕ → Option Work
item_of_atoms bytes word text = option_and_then (item_at bytes word) (path_or_none (path_of text))

unfoldable pub item_in : List ℕ → Option Work
item_in bytes =
    option_and_then (λ word. option_and_then (λ text. item_of_atoms bytes word.0 text.0) (atom_after word.1)) (atom_after bytes)
