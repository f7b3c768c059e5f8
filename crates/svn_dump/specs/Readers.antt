-- What a contract sees of a reader of dumps.
--     left_in remaining reader      the bytes that it hasn't taken, where those of its input are known
--     IsUnreadable reader      a read of it failed, or as many bytes were taken as a count can say
--     Opens limits bytes left result      a reader that was made of these bytes, after the first record
--     Shows limits taken bytes begun block      what a reader that has these bytes shows of the record that it reads next: where it begins, and its headers
use Rattle.std.specs.Prelude.{◌≡◌, ◌⊎◌, ℕ, ◌+◌, ◌-◌, ◌≤◌, ◌^◌, true, false, List, [], ◌∷◌, length, Option, Some, None, Result, Ok, Err, MatchOption}
use Rattle.std.specs.Io.Buffered.{reader_remaining}
use Rattle.svn_dump.specs.declared.fault.Reason.{Reason}
use Rattle.svn_dump.specs.declared.fault.DumpFault.{DumpFault}
use Rattle.svn_dump.specs.declared.fault.DumpFault.TheVariants as faults
use Rattle.svn_dump.specs.declared.reader.Reader.{Reader}
use Rattle.svn_dump.specs.declared.sections.Limits.{Limits}
use Rattle.svn_dump.specs.Reading.{Fails}
use Rattle.svn_dump.specs.Blocks.{block_at}
use Rattle.svn_dump.specs.Counts.{OfAll}
use Rattle.svn_dump.specs.Records.{format_at}

abbrev pub left_in : {R : Type 0} → (R → Option (List ℕ)) → Reader R → Option (List ℕ)
left_in remaining reader = reader_remaining remaining reader.source.input

abbrev pub IsUnreadable : {R : Type 0} → Reader R → Type 0
IsUnreadable reader = (reader.source.failed ≡ true) ⊎ (2 ^ 64 - 1 ≤ reader.source.taken)

abbrev pub Opens : {R : Type 0} → Limits → Option (List ℕ) → (Reader R → Option (List ℕ)) → Result (Reader R) DumpFault → Type 0
Opens limits None left result = Unit {0}
Opens limits (Some bytes) left (Ok reader) =
    MatchOption (left reader) ⊥ (λ rest. (format : ℕ) × (format_at limits bytes ≡ Ok (format, rest)))
Opens limits (Some bytes) left (Err e) = Fails e (format_at limits bytes)

-- ---- where a record begins

-- where the reader didn't fail and memory was there
abbrev pub UnlessBroken : {X : Type 0} → Result X DumpFault → Type 0 → Type 0
UnlessBroken (Ok x) P = P
UnlessBroken (Err (faults.Refused reason)) P = P
UnlessBroken (Err faults.Read) P = Unit {0}
UnlessBroken (Err faults.Memory) P = Unit {0}

-- the bytes of a record's headers, with the empty line that ends them; none at the end of all
abbrev pub headers_len : List ℕ → ℕ
headers_len [] = 0
headers_len (b ∷ block) = length (b ∷ block) + 1

-- the headers that are found; none where they are at fault
abbrev pub found_headers : Result (List ℕ × List ℕ) Reason → List ℕ
found_headers (Ok read) = read.0
found_headers (Err reason) = []

-- the bytes after them; all where they are at fault
abbrev pub after_headers : List ℕ → Result (List ℕ × List ℕ) Reason → List ℕ
after_headers bytes (Ok read) = read.1
after_headers bytes (Err reason) = bytes

-- the headers are those that are found, and so many of all bytes are before them
abbrev pub HeadersShown : ℕ → List ℕ → ℕ → List ℕ → Result (List ℕ × List ℕ) Reason → Type 0
HeadersShown taken bytes begun block found =
    (block ≡ found_headers found)
    × ((all : ℕ) → OfAll all taken (Some bytes) → begun + headers_len block + length (after_headers bytes found) ≡ all)

-- of the bytes that are left, after so many were taken
unfoldable pub Shows : Limits → ℕ → Option (List ℕ) → ℕ → List ℕ → Type 0
Shows limits taken None begun block = Unit {0}
Shows limits taken (Some bytes) begun block = HeadersShown taken bytes begun block (block_at false limits.headers bytes)
