-- What a command's revisions, paths and URLs name.
--     named_rev h number      the revision of that number, or the last
--     node_in h r p, node_of_kind h kind r p      the node at path p of revision r
--     url_named root url      the path in the repository, whose URL is `root`, of a URL
--     path_in at text      the path in the repository of a text, for a client that is in the directory `at`
--     place_named h at text number      the revision and the path that are named
use Rattle.std.specs.Prelude.{ℕ, ◌+◌, ◌-◌, Bool, true, false, List, [], ◌∷◌, ◌++◌, length, nat_eq, nat_le, Option, Some, None, option_map, Result, Ok, Err, if◌then◌else◌}
use Rattle.std.specs.Str.{is_utf8}
use Rattle.svn_types.specs.declared.fault.PathFault.{PathFault}
use Rattle.svn_types.specs.Names.{Path, path_of_text}
use Rattle.svn_types.specs.NameFaults.{path_fault, count_fault}
use Rattle.svn_types.specs.declared.kind.Kind.{Kind}
use Rattle.svn_types.specs.declared.kind.Kind.TheVariants.{File, Directory}
use Rattle.svn_repo.specs.History.{History, look, node_at}
use Rattle.svn_wire.specs.declared.urls.UrlFault.{UrlFault}
use Rattle.svn_wire.specs.declared.urls.UrlFault.TheVariants as urls
use Rattle.svn_wire.specs.Urls.{path_of_url}
use Rattle.svn_replies.specs.Refusals.{Reason, fails, ◌>>=◌}

abbrev pub latest : History → ℕ
latest h = length h.roots - 1

abbrev pub known_rev : History → ℕ → Result ℕ Reason
known_rev h r = if nat_le r (latest h) then Ok r else Err (fails 160006)

abbrev pub named_rev : History → Option ℕ → Result ℕ Reason
named_rev h None = Ok (latest h)
named_rev h (Some r) = known_rev h r

-- ---- paths

-- a path that isn't one fails
abbrev pub path_or : Option PathFault → Path → Result Path Reason
path_or None path = Ok path
path_or (Some fault) path = Err (fails 160005)

abbrev pub path_of_bytes : List ℕ → Result Path Reason
path_of_bytes bytes = if is_utf8 bytes then path_or (path_fault (path_of_text bytes)) (path_of_text bytes) else Err (fails 160005)

abbrev pub joined : Path → Path → Result Path Reason
joined at below = path_or (count_fault (length at + length below)) (at ++ below)

-- after a slash at the front, if there is one
abbrev pub after_slash : List ℕ → List ℕ
after_slash [] = []
after_slash (b ∷ bytes) = if nat_eq b 47 then bytes else b ∷ bytes

abbrev pub path_named : List ℕ → Result Path Reason
path_named text = path_of_bytes (after_slash text)

unfoldable pub path_in : Path → List ℕ → Result Path Reason
path_in at text = do
  below ← path_named text
  joined at below

unfoldable pub place_named : History → Path → List ℕ → Option ℕ → Result (ℕ × Path) Reason
place_named h at text number = do
  r ← named_rev h number
  p ← path_in at text
  Ok (r, p)

-- ---- URLs

abbrev pub url_reason : UrlFault → Reason
url_reason urls.Elsewhere = fails 210005
url_reason _ = fails 160005

abbrev pub url_read : Result Path UrlFault → Result Path Reason
url_read (Ok path) = Ok path
url_read (Err fault) = Err (url_reason fault)

-- the path in the repository of a URL
abbrev pub url_named : List ℕ → List ℕ → Result Path Reason
url_named root url = url_read (path_of_url root url)

-- ---- nodes

abbrev pub found : Option ℕ → Result ℕ Reason
found None = Err (fails 160013)
found (Some n) = Ok n

abbrev pub node_in : History → ℕ → Path → Result ℕ Reason
node_in h r p = found (look h r p)

abbrev pub is_kind : Kind → Kind → Bool
is_kind File File = true
is_kind Directory Directory = true
is_kind _ _ = false

-- a directory isn't a file, nor a file a directory
abbrev pub wrong_kind : Kind → ℕ
wrong_kind File = 160017
wrong_kind Directory = 160016

abbrev pub if_of : Kind → Option Kind → ℕ → Result ℕ Reason
if_of kind None n = Err (fails (wrong_kind kind))
if_of kind (Some other) n = if is_kind kind other then Ok n else Err (fails (wrong_kind kind))

unfoldable pub node_of_kind : History → Kind → ℕ → Path → Result ℕ Reason
node_of_kind h kind r p = do
  n ← node_in h r p
  if_of kind (option_map (λ row. row.kind) (node_at h n)) n
