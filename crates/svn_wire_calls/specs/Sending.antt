-- A text as far as it was sent.
--     SendsNext form old new input input' output output' piece      a piece was read and written
--     HasSent form len sent input input' output output'      the first bytes of a text of so many were
use Rattle.std.specs.Prelude.{◌≡◌, ◌⊎◌, ℕ, ◌+◌, ◌*◌, Bool, true, false, List, [], ◌∷◌, ◌++◌, length, Option}
use Rattle.std.specs.Io.KnownBytes.{Appends, Consumes}
use Rattle.svn_wire_calls.specs.declared.pieces.Form.{Form}
use Rattle.svn_wire_calls.specs.declared.sending.Sent.{Sent}
use Rattle.svn_wire_calls.specs.Pieces.{cut_in, piece_count, piece_bytes, pieces_bytes, Sums}

pub record SendsNext (form : Form) (old new : Sent) (input input' output output' : Option (List ℕ)) (piece : List ℕ) : Type 0 where
  pub read : Consumes input input' piece
  pub summed : (text : List ℕ) → Sums old.running text → Sums new.running (text ++ piece)
  pub written : Appends output output' (piece_bytes form old.is_first piece)
  pub is_first : new.is_first ≡ false
  pub left : new.left + length piece ≡ old.left

abbrev pub is_none : List ℕ → Bool
is_none [] = true
is_none (b ∷ bytes) = false

-- in so many pieces, all of them full but at the end
pub record HasSent (form : Form) (len : ℕ) (sent : Sent) (input input' output output' : Option (List ℕ)) : Type 0 where
  pub text : List ℕ
  pub count : ℕ
  pub read : Consumes input input' text
  pub summed : Sums sent.running text
  pub written : Appends output output' (pieces_bytes form (cut_in count text))
  pub is_first : sent.is_first ≡ is_none text
  pub left : length text + sent.left ≡ len
  pub whole : count ≡ piece_count (length text)
  pub full : (length text ≡ count * 102400) ⊎ (sent.left ≡ 0)
