-- What a reader has yet to read.
use Rattle.std.specs.Prelude.{ℕ, List, ◌++◌, map}
use denote.Ref.{Bor}
use Rattle.svn_pool.specs.Frames.{Contents, unframe}
use Rattle.svn_pool.specs.Layout.{strings_of}

-- the pages after references
abbrev pub targets : List (Bor Contents) → List Contents
targets ps = map (λ p. p.now) ps

-- n strings that lie in bs, and then those of the pages, the newest first
abbrev pub to_read : ℕ → List ℕ → List Contents → List (List ℕ)
to_read n bs ps = unframe n bs ++ strings_of ps
