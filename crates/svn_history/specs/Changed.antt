-- The last change of the node at a path of a revision.
--     latest_copy copies r p      the last of the copies up to revision r that is at the path or above it
--     IsChangedIn copies m r p c      the node that revision m made and that is at path p of revision r was last changed in c: a copy is a change of
--         its root, but of nothing below it
--     IsLastChange h copies r p c      the node at path p of revision r was last changed in c
--     date_at index c      the date of a revision, in microseconds from the beginning of 1970
use Rattle.std.specs.Prelude.{◌≡◌, ◌≢◌, ℕ, ℤ, ◌<◌, ◌≤◌, Bool, ◌&&◌, List, [], ◌++◌, length, drop, fold, nat_le, Option, Some, None, option_and_then, IfSome, if◌then◌else◌}
use Rattle.svn_types.specs.Names.{Path}
use Rattle.svn_types.specs.Paths.{is_within}
use Rattle.svn_repo.specs.History.{History, look}
use Rattle.svn_dump.specs.declared.copy_note.CopyNote.{CopyNote}
use Rattle.svn_dump.specs.declared.index.DumpIndex.{DumpIndex}
use Rattle.svn_dump.specs.Indexes.{date_of}
use Rattle.svn_history.specs.Made.{IsMadeIn}
use Rattle.svn_history.specs.Dates.{micros_of}

abbrev pub reaches : ℕ → Path → CopyNote → Bool
reaches r p copy = nat_le copy.rev r && is_within copy.path p

abbrev pub latest_copy : List CopyNote → ℕ → Path → Option CopyNote
latest_copy copies r p = fold (λ before copy. if reaches r p copy then Some copy else before) None copies

-- where what was copied to the path comes from
abbrev pub origin : CopyNote → Path → Path
origin copy p = copy.source.path ++ drop (length copy.path) p

pub data IsChangedIn (copies : List CopyNote) (m : ℕ) : ℕ → Path → ℕ → Type 0 where
  -- the root changes in each revision
  at_root : {r : ℕ} → IsChangedIn copies m r [] r
  -- it was made here, after all copies
  made_here : {r : ℕ} {p : Path} → p ≢ [] → IfSome (latest_copy copies r p) (λ copy. copy.rev ≤ m) → IsChangedIn copies m r p m
  -- it is the root of a copy
  copied : {r : ℕ} {p : Path} (copy : CopyNote) → p ≢ [] → latest_copy copies r p ≡ Some copy → m < copy.rev → copy.path ≡ p
      → IsChangedIn copies m r p copy.rev
  -- it came with a copy of a directory above it
  below_copy : {r c : ℕ} {p : Path} (copy : CopyNote) → p ≢ [] → latest_copy copies r p ≡ Some copy → m < copy.rev → copy.path ≢ p
      → IsChangedIn copies m copy.source.rev (origin copy p) c → IsChangedIn copies m r p c

pub record IsLastChange (h : History) (copies : List CopyNote) (r : ℕ) (p : Path) (c : ℕ) : Type 0 where
  pub node : ℕ
  pub is_node : look h r p ≡ Some node
  pub made : ℕ
  pub made_it : IsMadeIn h node made
  pub changed : IsChangedIn copies made r p c

abbrev pub date_at : DumpIndex → ℕ → Option ℤ
date_at index c = option_and_then micros_of (date_of index c)
