-- What is answered to get-locations and get-location-segments: the items (Lists.antt).
--     locations_of h at fields, AreLocations s asked bytes      where the node at a path of a revision is in others
--     segments_of h at fields, AreSegmentsOf s asked bytes      the revisions in which it was at one path, from young to old
use Rattle.std.specs.Prelude.{◌≡◌, ℕ, max, min, Bool, false, ◌&&◌, List, [], ◌∷◌, ◌++◌, is_some, nat_le, nat_lt, Option, Some, None, Result, Ok, MatchBool, if◌then◌else◌}
use Rattle.std.specs.List.{flat_map}
use Rattle.svn_types.specs.Names.{Path}
use Rattle.svn_types.specs.Paths.{path_eq}
use Rattle.svn_types.specs.PathTexts.{path_text}
use Rattle.svn_repo.specs.History.{History, look}
use Rattle.svn_wire.specs.declared.token.Token.{Token}
use Rattle.svn_wire.specs.declared.token.Token.TheVariants.{Number}
use Rattle.svn_wire.specs.Writing.{number_bytes, text_bytes}
use Rattle.svn_commands.specs.declared.history.Segment.{Segment}
use Rattle.svn_replies.specs.declared.served.Served.{Served}
use Rattle.svn_replies.specs.Answers.{listed, whole_path}
use Rattle.svn_commands.specs.CommandFields.{location_fields, segment_fields}
use Rattle.svn_replies.specs.Named.{latest, known_rev, named_rev, node_in, path_in}
use Rattle.svn_replies.specs.Refusals.{Reason, needed, ◌>>=◌}
use Rattle.svn_commands.specs.Segments.{has_rev, AreSegments}

-- ---- what is asked for

-- a path, the revision in which it is meant, and the tokens of the list of revisions
pub record Asked : Type 0 where
  pub peg : ℕ
  pub path : Path
  pub revs : List Token

unfoldable pub locations_of : History → Path → List Token → Result Asked Reason
locations_of h at fields = do
  asked ← needed (location_fields fields)
  r ← known_rev h asked.1
  p ← path_in at asked.0
  n ← node_in h r p
  Ok (record { peg = r; path = p; revs = asked.2 })

-- ---- locations

abbrev pub place_bytes : ℕ → Path → List ℕ
place_bytes r p = listed (number_bytes r ++ text_bytes (whole_path p))

abbrev pub place_or_none : ℕ → Option Path → List ℕ
place_or_none r None = []
place_or_none r (Some p) = place_bytes r p

abbrev pub place_in : ℕ → Segment → List ℕ
place_in r g = if has_rev g r then place_or_none r g.path else []

-- the numbers at the front
abbrev pub revs_of : List Token → List ℕ
revs_of (Number r ∷ tokens) = r ∷ revs_of tokens
revs_of _ = []

abbrev pub is_path : Option Path → Path → Bool
is_path None p = false
is_path (Some q) p = path_eq q p

-- whether the node was at the path in a revision, by the first segment that has it
abbrev pub was_at : List Segment → ℕ → Path → Bool
was_at [] r p = false
was_at (g ∷ segments) r p = if has_rev g r then is_path g.path p else was_at segments r p

-- in a younger revision it is where it was, if that is the node which was there
abbrev pub IsThere : Served → Asked → ℕ → List ℕ → Type 0
IsThere s asked r bytes =
    (segments : List Segment) × AreSegments s r asked.path segments
    × (bytes ≡ (if was_at segments asked.peg asked.path then place_bytes r asked.path else []))

abbrev pub IsYounger : Served → Asked → ℕ → List ℕ → Type 0
IsYounger s asked r bytes = MatchBool (nat_le r (latest s.repo) && is_some (look s.repo r asked.path)) (IsThere s asked r bytes) (bytes ≡ [])

abbrev pub IsLocation : Served → Asked → List Segment → ℕ → List ℕ → Type 0
IsLocation s asked segments r bytes = MatchBool (nat_lt asked.peg r) (IsYounger s asked r bytes) (bytes ≡ flat_map (place_in r) segments)

abbrev pub AreLocationsIn : Served → Asked → List Segment → List ℕ → List ℕ → Type 0
AreLocationsIn s asked segments [] bytes = bytes ≡ []
AreLocationsIn s asked segments (r ∷ revs) bytes =
    (one : List ℕ) × (rest : List ℕ) × IsLocation s asked segments r one × AreLocationsIn s asked segments revs rest × (bytes ≡ one ++ rest)

abbrev pub AreLocations : Served → Asked → List ℕ → Type 0
AreLocations s asked bytes =
    (segments : List Segment) × AreSegments s asked.peg asked.path segments × AreLocationsIn s asked segments (revs_of asked.revs) bytes

-- ---- segments

-- what is asked for of the segments of a node: the youngest revision and the oldest
pub record Range : Type 0 where
  pub peg : ℕ
  pub path : Path
  pub first : ℕ
  pub last : ℕ

abbrev pub number_or : Option ℕ → ℕ → ℕ
number_or None r = r
number_or (Some n) r = n

unfoldable pub segments_of : History → Path → List Token → Result Range Reason
segments_of h at fields = do
  asked ← needed (segment_fields fields)
  r ← named_rev h asked.1
  p ← path_in at asked.0
  n ← node_in h r p
  Ok (record { peg = r; path = p; first = number_or asked.3 0; last = number_or asked.2 r })

abbrev pub path_or_none : Option Path → List ℕ
path_or_none None = []
path_or_none (Some p) = text_bytes (path_text p)

abbrev pub range_bytes : ℕ → ℕ → Option Path → List ℕ
range_bytes first last path = if nat_le first last then listed (number_bytes first ++ (number_bytes last ++ listed (path_or_none path))) else []

-- the part of a segment that is in the range
abbrev pub part_bytes : Range → Segment → List ℕ
part_bytes range g = range_bytes (max range.first g.first) (min range.last g.last) g.path

abbrev pub AreSegmentsOf : Served → Range → List ℕ → Type 0
AreSegmentsOf s range bytes =
    (segments : List Segment) × AreSegments s range.peg range.path segments × (bytes ≡ flat_map (part_bytes range) segments)
