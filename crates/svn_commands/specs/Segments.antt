-- Where nodes were in earlier revisions.
--     has_rev g r      revision r is one of the segment
--     copy_over copies r p      the last copy of revision r that is at the path or above it
--     copied_from s r p      what the node at path p of revision r was copied from there, itself or with a directory above it
--     first_here s r p      the first revision from which on it was there, without a copy
--     AreSegments s r p segments      where it was, back to its first revision
use Rattle.std.specs.Prelude.{◌≡◌, ℕ, zero, suc, ◌+◌, ◌-◌, Bool, true, false, ◌&&◌, not, List, [], ◌∷◌, ◌++◌, drop, fold, length, nat_eq, nat_le, nat_lt, is_some, Option, Some, None, option_and_then, if◌then◌else◌}
use Rattle.svn_types.specs.declared.fault.PathFault.{PathFault}
use Rattle.svn_types.specs.Names.{Path}
use Rattle.svn_types.specs.NameFaults.{count_fault}
use Rattle.svn_types.specs.Paths.{is_within, is_root}
use Rattle.svn_repo.specs.History.{History}
use Rattle.svn_dump.specs.declared.copy_note.CopyNote.{CopyNote}
use Rattle.svn_history.specs.Changed.{origin}
use Rattle.svn_commands.specs.declared.history.Segment.{Segment}
use Rattle.svn_replies.specs.declared.served.Served.{Served}
use Rattle.svn_replies.specs.Nodes.{line_at}

abbrev pub has_rev : Segment → ℕ → Bool
has_rev g r = nat_le g.first r && nat_le r g.last

-- ---- copies

abbrev pub is_over : ℕ → Path → CopyNote → Bool
is_over r p copy = nat_eq copy.rev r && is_within copy.path p

abbrev pub copy_over : List CopyNote → ℕ → Path → Option CopyNote
copy_over copies r p = fold (λ before copy. if is_over r p copy then Some copy else before) None copies

-- where what is at a path comes from, unless that has too many names: then it was put below the copy
abbrev pub short_or_none : Option PathFault → Path → Option Path
short_or_none None p = Some p
short_or_none (Some fault) p = None

abbrev pub source_path : CopyNote → Path → Option Path
source_path copy p = short_or_none (count_fault (length copy.source.path + length (drop (length copy.path) p))) (origin copy p)

abbrev pub same_line : Option ℕ → Option ℕ → Bool
same_line None None = true
same_line (Some m) (Some n) = nat_eq m n
same_line _ _ = false

-- what was put there later in the revision is of another line
abbrev pub from_source : History → ℕ → Path → ℕ → Path → Option (ℕ × Path)
from_source h r p source from = if same_line (line_at h source from) (line_at h r p) then Some (source, from) else None

abbrev pub from_copy : History → ℕ → Path → CopyNote → Option (ℕ × Path)
from_copy h r p copy = option_and_then (from_source h r p copy.source.rev) (source_path copy p)

abbrev pub copied_from : Served → ℕ → Path → Option (ℕ × Path)
copied_from s r p = option_and_then (from_copy s.repo r p) (copy_over s.index.copies.items r p)

-- ---- segments

-- a copy put it there; the root is copied in no revision
abbrev pub is_copied : Served → ℕ → Path → Bool
is_copied s r p = is_some (copy_over s.index.copies.items r p) && not (is_root p)

-- the node at a path, which is of this line, was there in the revision before r too, and not copied there in r
abbrev pub is_older : Served → Option ℕ → ℕ → Path → Bool
is_older s line r p = not (is_copied s r p) && same_line (line_at s.repo (r - 1) p) line

abbrev pub first_of_line : Served → Option ℕ → ℕ → Path → ℕ
first_of_line s line zero p = 0
first_of_line s line (suc r) p = if is_older s line (suc r) p then first_of_line s line r p else suc r

abbrev pub first_here : Served → ℕ → Path → ℕ
first_here s r p = first_of_line s (line_at s.repo r p) r p

abbrev pub segment_here : Served → ℕ → Path → Segment
segment_here s r p = record { first = first_here s r p; last = r; path = Some p }

-- between a copy and its source it was nowhere
abbrev pub gap : ℕ → ℕ → List Segment
gap source first = if nat_lt (source + 1) first then record { first = source + 1; last = first - 1; path = None } ∷ [] else []

pub data AreSegments (s : Served) : ℕ → Path → List Segment → Type 0 where
  begins : {r : ℕ} {p : Path} → copied_from s (first_here s r p) p ≡ None → AreSegments s r p (segment_here s r p ∷ [])
  goes_on : {r : ℕ} {p : Path} (from : ℕ × Path) (rest : List Segment) → copied_from s (first_here s r p) p ≡ Some from
      → AreSegments s from.0 from.1 rest → AreSegments s r p (segment_here s r p ∷ (gap from.0 (first_here s r p) ++ rest))
