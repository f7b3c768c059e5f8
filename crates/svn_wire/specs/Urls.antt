-- URLs of nodes: that of the repository, and of each name of the path a slash and the name, with what no URL has escaped as `%XX`.
--     url_of root path      the URL of a path, below the URL of the repository
--     path_of_url root url      the path that a URL has there
--     PathsAreReadBack      what was written is read back
use Rattle.std.specs.Prelude.{◌≡◌, ◌≤◌, ℕ, List, [], ◌∷◌, ◌++◌, length, take, drop, bytes_eq, nat_eq, IsUtf8, Option, Some, None, Result, Ok, Err, if◌then◌else◌}
use Rattle.std.specs.List.{All, flat_map}
use Rattle.std.specs.Str.{is_utf8}
use Rattle.percent_encoding.specs.Percent.{percent_encode, percent_decode}
use Rattle.svn_types.specs.declared.fault.PathFault.{PathFault}
use Rattle.svn_types.specs.Names.{Path, IsName, path_of_text, depth_limit}
use Rattle.svn_types.specs.NameFaults.{path_fault}
use Rattle.svn_wire.specs.declared.urls.UrlFault.{UrlFault}
use Rattle.svn_wire.specs.declared.urls.UrlFault.TheVariants.{Elsewhere, NotUtf8, BadPath, Memory}
use Rattle.svn_wire.specs.declared.urls.TheConstants.{ESCAPED}

-- a name, and a slash before it
abbrev pub url_part : List ℕ → List ℕ
url_part name = 47 ∷ percent_encode ESCAPED name

abbrev pub url_of : List ℕ → Path → List ℕ
url_of root path = root ++ flat_map url_part path

abbrev pub path_or_fault : Option PathFault → Path → Result Path UrlFault
path_or_fault None path = Ok path
path_or_fault (Some fault) path = Err (BadPath fault)

abbrev pub path_of_bytes : List ℕ → Result Path UrlFault
path_of_bytes bytes = if is_utf8 bytes then path_or_fault (path_fault (path_of_text bytes)) (path_of_text bytes) else Err NotUtf8

-- what is after the URL of the repository, if that is the front
abbrev pub after_root : List ℕ → List ℕ → Option (List ℕ)
after_root root url = if bytes_eq (take (length root) url) root then Some (drop (length root) url) else None

abbrev pub path_after : Option (List ℕ) → Result Path UrlFault
path_after None = Err Elsewhere
path_after (Some []) = Ok []
path_after (Some (b ∷ bytes)) = if nat_eq b 47 then path_of_bytes (percent_decode bytes) else Err Elsewhere

abbrev pub path_of_url : List ℕ → List ℕ → Result Path UrlFault
path_of_url root url = path_after (after_root root url)

-- the result is that one, unless memory ran out
abbrev pub IsPathOr : Result Path UrlFault → Result Path UrlFault → Type 0
IsPathOr read (Ok path) = read ≡ Ok path
IsPathOr read (Err Memory) = Unit {0}
IsPathOr read (Err Elsewhere) = read ≡ Err Elsewhere
IsPathOr read (Err NotUtf8) = read ≡ Err NotUtf8
IsPathOr read (Err (BadPath fault)) = read ≡ Err (BadPath fault)

-- of lawful names, each of them text
abbrev pub PathsAreReadBack : Type 0
PathsAreReadBack = (root : List ℕ) (path : Path) → All IsName path → All IsUtf8 path → length path ≤ depth_limit
    → path_of_url root (url_of root path) ≡ Ok path
