-- The URL that a server is asked for.
--     server_url url      of the root of a copy's repository
use Rattle.std.specs.Prelude.{ℕ, ◌-◌, Bool, ◌||◌, List, [], ◌∷◌, ◌++◌, codes, nat_eq, if◌then◌else◌}
use Rattle.std.specs.List.{starts_with}

-- of the access method of a server, direct or through a tunnel
abbrev pub is_of_server : List ℕ → Bool
is_of_server url = starts_with nat_eq url (codes "svn://") || starts_with nat_eq url (codes "svn+")

-- from the slash on before which there are so many others
abbrev pub from_slash : ℕ → List ℕ → List ℕ
from_slash slashes [] = []
from_slash slashes (b ∷ bytes) =
    if nat_eq b 47 then (if nat_eq slashes 0 then b ∷ bytes else from_slash (slashes - 1) bytes) else from_slash slashes bytes

-- by another access method it is the path, below the server's own
abbrev pub server_url : List ℕ → List ℕ
server_url url = if is_of_server url then url else codes "svn://" ++ from_slash 2 url
