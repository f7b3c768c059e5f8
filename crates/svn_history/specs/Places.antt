-- Where a dump is refused.
--     IsShown remaining old new rev bytes      a loader shows this record: it is read while this revision is the last that began, and these bytes are left
--         where its headers begin, or the blank lines before them
--     anywhere      nothing is said of the place
use Rattle.std.specs.Prelude.{◌≡◌, ℕ, ◌+◌, false, List, length, Option, Result}
use Rattle.svn_dump.specs.declared.fault.Reason.{Reason}
use Rattle.svn_dump.specs.declared.reader.Reader.{Reader}
use Rattle.svn_dump.specs.Blocks.{block_at}
use Rattle.svn_dump.specs.Counts.{OfAll}
use Rattle.svn_dump.specs.Readers.{left_in, headers_len, found_headers, after_headers}
use Rattle.svn_history.specs.declared.loader.Loader.{Loader}

-- so many bytes were taken when these were left: the block is the headers that are found, and so many of all bytes are before them
abbrev pub AreHeaders : ℕ → Option (List ℕ) → ℕ → List ℕ → List ℕ → Result (List ℕ × List ℕ) Reason → Type 0
AreHeaders taken left begun block bytes found =
    (block ≡ found_headers found)
    × ((all : ℕ) → OfAll all taken left → begun + headers_len (found_headers found) + length (after_headers bytes found) ≡ all)

-- of a reader before, a reader after, and the revision that began last then
abbrev pub IsShownBy : {R : Type 0} → (R → Option (List ℕ)) → Reader R → Reader R → Option ℕ → Option ℕ → List ℕ → Type 0
IsShownBy remaining old new last rev bytes =
    (last ≡ rev)
    × AreHeaders old.source.taken (left_in remaining old) new.begun new.block.items bytes (block_at false old.limits.headers bytes)

abbrev pub IsShown : {R : Type 0} → (R → Option (List ℕ)) → Loader R → Loader R → Option ℕ → List ℕ → Type 0
IsShown remaining old new = IsShownBy remaining old.records new.records new.rev

abbrev pub anywhere : Option ℕ → List ℕ → Type 0
anywhere rev bytes = Unit {0}
