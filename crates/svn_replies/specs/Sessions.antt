-- Where a client is that names a URL.
--     IsOpened root url session      the session of a client that names this URL, where the repository is at `root` on the host
use Rattle.std.specs.Prelude.{◌≡◌, ℕ, List, ◌++◌, Ok}
use Rattle.svn_replies.specs.declared.session.Session.{Session}
use Rattle.svn_replies.specs.Named.{url_named}

-- the URL of the repository is a host with its scheme, and where the repository is there; the client is at the path that its URL has below that
pub record IsOpened (root url : List ℕ) (session : Session) : Type 0 where
  pub host : List ℕ
  pub repository : session.url ≡ host ++ root
  pub at : url_named session.url url ≡ Ok session.at
