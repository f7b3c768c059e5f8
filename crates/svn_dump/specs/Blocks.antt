-- The bytes of a dump, cut into the headers of a record and what follows them. What is cut off comes with the bytes after it.
--     block_at false room bytes      the headers of the next record, after blank lines; no bytes at the end of all
--     bytes_at count bytes      so many bytes
use Rattle.std.specs.Prelude.{◌≡◌, ◌⊎◌, ℕ, ◌-◌, Bool, false, ◌&&◌, ◌||◌, not, List, [], ◌∷◌, ◌++◌, length, take, drop, nat_eq, nat_lt, Result, Ok, Err, Option, Some, None}
use Rattle.std.specs.Io.KnownBytes.{Consumes, IsAtEnd}
use Rattle.std.specs.Prelude.{if◌then◌else◌}
use Rattle.svn_types.specs.Names.{is_between}
use Rattle.svn_dump.specs.declared.fault.Reason.{Reason}
use Rattle.svn_dump.specs.declared.fault.Reason.TheVariants.{CutOff, HeadersTooLong}
use Rattle.svn_dump.specs.declared.fault.DumpFault.{DumpFault}
use Rattle.svn_dump.specs.declared.fault.DumpFault.TheVariants.{Refused, Read}

-- bytes before those that were read
abbrev pub with_front : List ℕ → Result (List ℕ × List ℕ) Reason → Result (List ℕ × List ℕ) Reason
with_front front (Ok read) = Ok (front ++ read.0, read.1)
with_front front (Err reason) = Err reason

-- one byte, if there is one
abbrev pub byte_at : List ℕ → Result (Option ℕ × List ℕ) Reason
byte_at [] = Ok (None, [])
byte_at (b ∷ bs) = Ok (Some b, bs)

abbrev pub is_line_feed : ℕ → Bool
is_line_feed b = nat_eq b 10

-- white space to C's `isspace`
abbrev pub is_space : ℕ → Bool
is_space b = nat_eq b 32 || is_between 9 13 b

-- Lines up to the first empty one; nothing of them is kept; fresh says that a line begins. They have at most room bytes.
unfoldable pub headers_at : Bool → ℕ → List ℕ → Result (List ℕ × List ℕ) Reason
headers_at fresh room [] = Err CutOff
headers_at fresh room (b ∷ bs) =
    if fresh && is_line_feed b then Ok ([], bs)
    else if nat_eq room 0 then Err HeadersTooLong
    else with_front (b ∷ []) (headers_at (is_line_feed b) (room - 1) bs)

-- The same after lines that are empty or begin with white space; blank says that such a line has begun. All have at most room bytes.
unfoldable pub block_at : Bool → ℕ → List ℕ → Result (List ℕ × List ℕ) Reason
block_at blank room [] = Ok ([], [])
block_at blank room (b ∷ bs) =
    if nat_eq room 0 then Err HeadersTooLong
    else if blank || is_space b then block_at (not (is_line_feed b)) (room - 1) bs
    else with_front (b ∷ []) (headers_at false (room - 1) bs)

abbrev pub bytes_at : ℕ → List ℕ → Result (List ℕ × List ℕ) Reason
bytes_at count bytes = if nat_lt (length bytes) count then Err CutOff else Ok (take count bytes, drop count bytes)

-- the front of the piece is what the reader gave; a fault is that there was no more, or that the reader failed
abbrev pub PieceRead : Option (List ℕ) → Option (List ℕ) → Result ℕ DumpFault → List ℕ → Type 0
PieceRead old new (Ok n) piece = Consumes old new (take n piece)
PieceRead old new (Err e) piece = ((e ≡ Refused CutOff) × Consumes old new [] × IsAtEnd new) ⊎ (e ≡ Read)
