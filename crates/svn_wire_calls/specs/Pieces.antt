-- A text in pieces that are read and written one by one.
--     cut text      the pieces: of 102,400 bytes each, as the windows of a delta, but for the last
--     sent_bytes form text      the pieces of a text as they are written: the chunks of a delta, or strings
--     sums_of text      how long a text is, and its checksums
use Rattle.std.specs.Prelude.{ℕ, zero, suc, ◌+◌, ◌/◌, Bool, true, false, List, [], ◌∷◌, ◌++◌, codes, length, take, drop}
use Rattle.std.specs.List.{flat_map}
use Rattle.md5.specs.Md5.{md5, Holds as Md5Holds}
use Rattle.sha1.specs.Sha1.{sha1, Holds as Sha1Holds}
use Rattle.svndiff.specs.Writing.{delta_of}
use Rattle.svn_wire.specs.Writing.{text_bytes}
use Rattle.svn_wire_calls.specs.Commands.{command, baton}
use Rattle.svn_wire_calls.specs.declared.pieces.Form.{Form}
use Rattle.svn_wire_calls.specs.declared.pieces.Form.TheVariants.{Chunks, Strings}
use Rattle.svn_wire_calls.specs.declared.sums.TextSums.{TextSums}
use Rattle.svn_wire_calls.specs.declared.sums.Running.{Running}

-- ---- pieces

-- the first n of them
abbrev pub cut_in : ℕ → List ℕ → List (List ℕ)
cut_in zero text = []
cut_in (suc n) text = take 102400 text ∷ cut_in n (drop 102400 text)

-- how many there are
abbrev pub piece_count : ℕ → ℕ
piece_count n = (n + 102399) / 102400

abbrev pub cut : List ℕ → List (List ℕ)
cut text = cut_in (piece_count (length text)) text

-- ---- as they are written

-- a part of a delta
abbrev pub chunk : ℕ → List ℕ → List ℕ
chunk token bytes = command (codes "textdelta-chunk") (baton token ++ text_bytes bytes)

-- the delta of a piece; only the first one has the header of deltas
abbrev pub window_bytes : Bool → List ℕ → List ℕ
window_bytes true piece = delta_of piece
window_bytes false piece = drop 4 (delta_of piece)

abbrev pub piece_bytes : Form → Bool → List ℕ → List ℕ
piece_bytes (Chunks token) is_first piece = chunk token (window_bytes is_first piece)
piece_bytes Strings is_first piece = text_bytes piece

abbrev pub pieces_bytes : Form → List (List ℕ) → List ℕ
pieces_bytes form [] = []
pieces_bytes form (piece ∷ pieces) = piece_bytes form true piece ++ flat_map (piece_bytes form false) pieces

-- of no bytes there is a delta too, and no string
abbrev pub no_bytes : Form → List ℕ
no_bytes (Chunks token) = chunk token (delta_of [])
no_bytes Strings = []

abbrev pub sent_bytes : Form → List ℕ → List ℕ
sent_bytes form [] = no_bytes form
sent_bytes form (b ∷ bytes) = pieces_bytes form (cut (b ∷ bytes))

-- ---- checksums

-- the running checksums are those of these bytes so far
abbrev pub Sums : Running → List ℕ → Type 0
Sums running bytes = Md5Holds running.md5 bytes × Sha1Holds running.sha1 bytes

abbrev pub sums_of : List ℕ → TextSums
sums_of text = record { len = length text; md5 = md5 text; sha1 = sha1 text }
