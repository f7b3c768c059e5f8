-- What is answered to log: an item for each revision that changed one of the paths (Lists.antt).
--     log_of h at fields      what is asked for: paths of the younger of two revisions
--     AreTraced s strict r paths segments      where the nodes at the paths of revision r were; with `strict` no further than to the copies that put them there
--     is_logged s segments r      revision r changed one of them, where it was then
--     logged s asked segments      the revisions from one to the other that did, in this order, no more than are asked for
--     IsLog s asked bytes      their items
use Rattle.std.specs.Prelude.{◌≡◌, ℕ, zero, suc, max, ◌+◌, ◌-◌, Bool, false, ◌&&◌, ◌||◌, List, [], ◌∷◌, ◌++◌, take, nat_eq, nat_le, nat_lt, Option, Some, None, Result, Ok, Err, if◌then◌else◌}
use Rattle.std.specs.List.{filter, flat_map, list_any}
use Rattle.svn_types.specs.Names.{Path}
use Rattle.svn_types.specs.Paths.{is_root, is_within}
use Rattle.svn_repo.specs.History.{History}
use Rattle.svn_wire.specs.declared.token.Token.{Token}
use Rattle.svn_wire.specs.declared.token.Token.TheVariants.{Open, Close, Number, Word, Text}
use Rattle.svn_replies.specs.declared.served.Served.{Served}
use Rattle.svn_replies.specs.Changes.{changes_of}
use Rattle.svn_replies.specs.Named.{named_rev, node_in, path_in}
use Rattle.svn_replies.specs.Refusals.{Reason, malformed, needed, ◌>>=◌}
use Rattle.svn_commands.specs.declared.history.Segment.{Segment}
use Rattle.svn_commands.specs.LogFields.{Wanted, log_fields}
use Rattle.svn_commands.specs.LogItems.{item_bytes}
use Rattle.svn_commands.specs.Segments.{has_rev, AreSegments}

-- ---- what is asked for

pub record Asked : Type 0 where
  pub paths : List Path
  pub start : ℕ
  pub end : ℕ
  pub wanted : Wanted

-- the path of a string, at which a node is in revision r
unfoldable pub path_there : History → Path → ℕ → List ℕ → Result Path Reason
path_there h at r text = do
  p ← path_in at text
  n ← node_in h r p
  Ok p

abbrev pub path_of_token : History → Path → ℕ → Token → Result Path Reason
path_of_token h at r (Text text) = path_there h at r text
path_of_token h at r Open = Err malformed
path_of_token h at r Close = Err malformed
path_of_token h at r (Number number) = Err malformed
path_of_token h at r (Word word) = Err malformed

-- those of all, or why the first of them is none
abbrev pub paths_there : History → Path → ℕ → List Token → Result (List Path) Reason
paths_there h at r [] = Ok []
paths_there h at r (token ∷ tokens) = path_of_token h at r token >>= λ p. paths_there h at r tokens >>= λ paths. Ok (p ∷ paths)

unfoldable pub log_of : History → Path → List Token → Result Asked Reason
log_of h at fields = do
  asked ← needed (log_fields fields)
  start ← named_rev h asked.1
  end ← named_rev h asked.2
  paths ← paths_there h at (max start end) asked.0
  Ok (record { paths = paths; start = start; end = end; wanted = asked.3 })

-- ---- where the nodes were

-- a copy ends the history of a path where copies aren't followed
abbrev pub followed : Bool → List Segment → List Segment
followed strict segments = if strict then take 1 segments else segments

abbrev pub AreTraced : Served → Bool → ℕ → List Path → List Segment → Type 0
AreTraced s strict r [] segments = segments ≡ []
AreTraced s strict r (p ∷ paths) segments =
    (one : List Segment) × (rest : List Segment) × AreSegments s r p one × AreTraced s strict r paths rest × (segments ≡ followed strict one ++ rest)

-- ---- which revisions changed them

-- a revision changed what is at a path or below it; the root changes in each
abbrev pub is_touched : Served → ℕ → Path → Bool
is_touched s r p = is_root p || list_any (λ change. is_within p change.path) (changes_of s.changes r)

-- the node came there in the first revision of a segment
abbrev pub is_changed_at : Served → ℕ → ℕ → Option Path → Bool
is_changed_at s r first None = false
is_changed_at s r first (Some p) = nat_eq r first || is_touched s r p

abbrev pub is_changed : Served → ℕ → Segment → Bool
is_changed s r g = has_rev g r && is_changed_at s r g.first g.path

abbrev pub is_logged : Served → List Segment → ℕ → Bool
is_logged s segments r = list_any (is_changed s r) segments

-- ---- in which order, and how many

-- so many revisions from r on, to younger or to older ones
abbrev pub revs_from : Bool → ℕ → ℕ → List ℕ
revs_from younger r zero = []
revs_from younger r (suc n) = r ∷ revs_from younger (if younger then r + 1 else r - 1) n

-- those from one to another
abbrev pub revs_between : ℕ → ℕ → List ℕ
revs_between start end = revs_from (nat_le start end) start (suc ((end - start) + (start - end)))

-- 0: all of them
abbrev pub limited : ℕ → List ℕ → List ℕ
limited zero revs = revs
limited (suc n) revs = take (suc n) revs

-- as many as that are enough
abbrev pub is_full : ℕ → ℕ → Bool
is_full limit n = nat_lt 0 limit && nat_le limit n

abbrev pub logged : Served → Asked → List Segment → List ℕ
logged s asked segments = limited asked.wanted.limit (filter (is_logged s segments) (revs_between asked.start asked.end))

abbrev pub IsLog : Served → Asked → List ℕ → Type 0
IsLog s asked bytes =
    (segments : List Segment) × AreTraced s asked.wanted.strict (max asked.start asked.end) asked.paths segments
    × (bytes ≡ flat_map (item_bytes s asked.wanted) (logged s asked segments))
