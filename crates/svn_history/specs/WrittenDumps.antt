-- A history that was written, read and loaded: from the bytes of a dump to its revisions.
--     commit_bytes h changes      what is written of a commit on a history
--     Writes limits h bytes h'      commits one after another lead from h to h', and the bytes are written of them
--     WrittenDumpsLoad      a dump of these bytes loads as what was committed
use Rattle.std.specs.Prelude.{◌≡◌, ℕ, ◌^◌, ◌≤◌, List, [], ◌++◌, length, Some, Ok}
use Rattle.std.specs.List.{All, flat_map}
use Rattle.svn_repo.specs.declared.change.Change.{Change}
use Rattle.svn_repo.specs.Changes.{IsCommit}
use Rattle.svn_repo.specs.History.{History}
use Rattle.svn_repo.specs.Laws.{NodesExist}
use Rattle.svn_dump.specs.declared.sections.Limits.{Limits}
use Rattle.svn_dump.specs.declared.sections.Texts.TheVariants.{Whole}
use Rattle.svn_dump.specs.Records.{format_at}
use Rattle.svn_dump.specs.Written.{written, revision_record, format_record}
use Rattle.law_dump.specs.Laws.{IsWritable, header_room}
use Rattle.svn_history.specs.Steps.{begun}
use Rattle.svn_history.specs.Loading.{LoadsDump}
use Rattle.svn_history.specs.SameHistories.{IsSame}
use Rattle.svn_history.specs.Writing.{records_of}

-- the beginning of its revision, and a record for each change
abbrev pub commit_bytes : History → List Change → List ℕ
commit_bytes h changes = revision_record (length h.roots) ++ flat_map written (records_of (begun h) changes)

-- the records are lawful, and their lengths within the limits
abbrev pub AreWritable : Limits → History → List Change → Type 0
AreWritable limits h changes = All (IsWritable limits Whole) (records_of (begun h) changes)

-- revision 0, which has nothing, may be written before the commits
pub data Writes (limits : Limits) : History → List ℕ → History → Type 0 where
  no_commit : {h : History} → Writes limits h [] h
  revision_0 : {h : History} → Writes limits h (revision_record 0) h
  one_commit : {h h' : History} {bytes : List ℕ} (mid : History) (changes : List Change) → Writes limits h bytes mid → IsCommit mid h' changes
      → AreWritable limits mid changes → Writes limits h (bytes ++ commit_bytes mid changes) h'

-- The nodes of the history h exist, and revision numbers are of 64 bits. The reader finds the format, and what it reads then is a dump whose revisions
-- lead from h to the history that the commits led to. Whatever loading them leads to is the same, node by node and line by line.
abbrev pub WrittenDumpsLoad : Type 0
WrittenDumpsLoad = (limits : Limits) (format : ℕ) (h h' : History) (bytes : List ℕ) → 2 ≤ format → format ≤ 3 → header_room ≤ limits.headers
    → NodesExist h → 1 ≤ length h.roots → length h'.roots ≤ 2 ^ 64 → Writes limits h bytes h'
    → (format_at limits (format_record format ++ bytes) ≡ Ok (format, bytes)) × LoadsDump limits Whole (Some bytes) h h'
    × ((loaded : History) → LoadsDump limits Whole (Some bytes) h loaded → IsSame h' loaded)
