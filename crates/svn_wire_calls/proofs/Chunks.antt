-- The chunks of a text are one delta.
use Rattle.std.proofs.Common.{◌≡◌, ◌≤◌, ◌<◌, ℕ, zero, suc, true, false, List, [], ◌∷◌, ◌++◌, length, length-drop, take, drop, append-nil, append_assoc, refl, sym, ap, ◌∙◌, arith}
use Rattle.std.specs.Prelude.{map}
use Rattle.std.specs.List.{flat_map}
use Rattle.std.proofs.lemmas.List.{take_all, length-take}
use Rattle.std.proofs.lemmas.List.Folds.{flat_map-map}
use Rattle.svndiff.specs.Deltas.{header}
use Rattle.svndiff.specs.Writing.{window, windows, window_count, delta_of}
use Rattle.svn_wire_calls.specs.declared.pieces.Form.TheVariants.{Chunks}
use Rattle.svn_wire_calls.specs.Pieces.{cut_in, piece_count, cut, chunk, window_bytes, pieces_bytes}
use Rattle.svn_wire_calls.specs.Laws.{ChunksAreOneDelta}

-- ---- a piece is one window

counts_one : (n : ℕ) → 0 < n → n ≤ 102400 → window_count n ≡ 1
counts_one n some small = omega (arith, some, small)

windows_one : (piece : List ℕ) → length piece ≤ 102400 → windows 1 piece ≡ window piece
windows_one piece small = append-nil (window (take 102400 piece)) ∙ ap window (take_all 102400 piece small)

-- the first one after the header
one_window : (piece : List ℕ) → 0 < length piece → length piece ≤ 102400 → delta_of piece ≡ header ++ window piece
unfolding delta_of
one_window piece some small =
    ap (λ (n : ℕ). header ++ windows n piece) (counts_one (length piece) some small) ∙ ap (λ (l : List ℕ). header ++ l) (windows_one piece small)

later_window : (piece : List ℕ) → 0 < length piece → length piece ≤ 102400 → window_bytes false piece ≡ window piece
later_window piece some small = ap (drop 4) (one_window piece some small)

-- ---- the next piece of a text

some_next : (n : ℕ) (text : List ℕ) → piece_count (length text) ≡ suc n → 0 < length (take 102400 text)
some_next n text is = omega (arith, is, length-take 102400 text)

small_next : (text : List ℕ) → length (take 102400 text) ≤ 102400
small_next text = omega (arith, length-take 102400 text)

count_left : (n : ℕ) (text : List ℕ) → piece_count (length text) ≡ suc n → piece_count (length (drop 102400 text)) ≡ n
count_left n text is = omega (arith, is, length-drop 102400 text)

-- ---- all pieces

-- those after the first are windows
pieces_are_windows : (n : ℕ) (text : List ℕ) → piece_count (length text) ≡ n → flat_map (window_bytes false) (cut_in n text) ≡ windows n text
pieces_are_windows zero text is = refl
pieces_are_windows (suc n) text is =
    let first = later_window (take 102400 text) (some_next n text is) (small_next text) in
    ap (λ (l : List ℕ). l ++ flat_map (window_bytes false) (cut_in n (drop 102400 text))) first
    ∙ ap (λ (l : List ℕ). window (take 102400 text) ++ l) (pieces_are_windows n (drop 102400 text) (count_left n text is))

-- what the chunks have
abbrev parts : List (List ℕ) → List (List ℕ)
parts [] = []
parts (p ∷ ps) = window_bytes true p ∷ map (window_bytes false) ps

in_chunks : (token : ℕ) (ps : List (List ℕ)) → pieces_bytes (Chunks token) ps ≡ flat_map (chunk token) (parts ps)
in_chunks token [] = refl
in_chunks token (p ∷ ps) = ap (λ (l : List ℕ). chunk token (window_bytes true p) ++ l) (sym (flat_map-map (chunk token) (window_bytes false) ps))

in_windows : (n : ℕ) (text : List ℕ) → 0 < length text → piece_count (length text) ≡ n
    → flat_map (λ (part : List ℕ). part) (parts (cut_in n text)) ≡ header ++ windows n text
in_windows zero text some is = absurd (omega (arith, some, is))
in_windows (suc n) text some is =
    let first = one_window (take 102400 text) (some_next n text is) (small_next text) in
    let rest =
    flat_map-map (λ (part : List ℕ). part) (window_bytes false) (cut_in n (drop 102400 text))
    ∙ pieces_are_windows n (drop 102400 text) (count_left n text is) in
    ap (λ (l : List ℕ). l ++ flat_map (λ (part : List ℕ). part) (map (window_bytes false) (cut_in n (drop 102400 text)))) first
    ∙ ap (λ (l : List ℕ). (header ++ window (take 102400 text)) ++ l) rest
    ∙ append_assoc header (window (take 102400 text)) (windows n (drop 102400 text))

of_text : (text : List ℕ) → header ++ windows (piece_count (length text)) text ≡ delta_of text
unfolding delta_of
of_text text = refl

pub chunks_are_one_delta : ChunksAreOneDelta
chunks_are_one_delta token [] = (delta_of [] ∷ [], sym (append-nil (chunk token (delta_of []))), append-nil (delta_of []))
chunks_are_one_delta token (b ∷ bytes) = (
  parts (cut (b ∷ bytes)),
  in_chunks token (cut (b ∷ bytes)),
  in_windows (piece_count (length (b ∷ bytes))) (b ∷ bytes) (omega arith) refl ∙ of_text (b ∷ bytes),
)
