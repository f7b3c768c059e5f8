-- A text that is sent piece by piece.
use Rattle.std.proofs.Common.{◌≡◌, ◌⊎◌, ◌≤◌, ◌<◌, ℕ, zero, suc, ◌+◌, ◌*◌, Bool, true, false, min, List, [], ◌∷◌, ◌++◌, length, length-append, length-drop, take, drop, append-nil, append_assoc, Option, Some, None, inl, inr, refl, sym, ap, ◌∙◌, subst, arith}
use Rattle.std.proofs.lemmas.List.{take-append-le, drop-append-le, take_all, nil_from_length}
use Rattle.std.proofs.lemmas.Grind.{flat_map-append}
use Rattle.std.specs.List.{flat_map}
use Rattle.std.specs.Io.KnownBytes.{Appends, Consumes}
use Rattle.std.proofs.KnownBytes.{Appends-nil, Appends-trans, Consumes-nil, Consumes-trans}
use Rattle.svn_wire_calls.specs.declared.pieces.Form.{Form}
use Rattle.svn_wire_calls.specs.declared.sending.Sent.{Sent}
use Rattle.svn_wire_calls.specs.Pieces.{cut_in, piece_count, cut, piece_bytes, pieces_bytes, sent_bytes, Sums}
use Rattle.svn_wire_calls.specs.Sending.{SendsNext, is_none, HasSent}

-- ---- one piece more

abbrev is_empty : List (List ℕ) → Bool
is_empty [] = true
is_empty (p ∷ ps) = false

pieces_more : (form : Form) (ps : List (List ℕ)) (p : List ℕ) → pieces_bytes form (ps ++ p ∷ []) ≡ pieces_bytes form ps ++ piece_bytes form (is_empty ps) p
pieces_more form [] p = append-nil (piece_bytes form true p)
pieces_more form (q ∷ ps) p =
    let one = flat_map-append (piece_bytes form false) ps (p ∷ []) in
    ap (λ (l : List ℕ). piece_bytes form true q ++ l) (one ∙ ap (λ (l : List ℕ). flat_map (piece_bytes form false) ps ++ l) (append-nil (piece_bytes form false p)))
    ∙ sym (append_assoc (piece_bytes form true q) (flat_map (piece_bytes form false) ps) (piece_bytes form false p))

cut_more : (count : ℕ) (text p : List ℕ) → length text ≡ count * 102400 → length p ≤ 102400 → cut_in (suc count) (text ++ p) ≡ cut_in count text ++ p ∷ []
cut_more zero text p full small =
    let none : text ≡ [] = nil_from_length text full in
    rw none (ap (λ (l : List ℕ). l ∷ []) (take_all 102400 p small))
cut_more (suc count) text p full small =
    let enough : 102400 ≤ length text = omega (arith, full) in
    let rest : length (drop 102400 text) ≡ count * 102400 = omega (arith, full, length-drop 102400 text) in
    let more = cut_more count (drop 102400 text) p rest small in
    rw (take-append-le 102400 text p enough, drop-append-le 102400 text p enough) (ap (λ (l : List (List ℕ)). take 102400 text ∷ l) more)

-- whether something was sent
emptied : (count : ℕ) (text : List ℕ) → length text ≡ count * 102400 → is_empty (cut_in count text) ≡ is_none text
emptied zero text full =
    let none : text ≡ [] = nil_from_length text full in
    rw none refl
emptied (suc count) [] full = absurd (omega (arith, full))
emptied (suc count) (b ∷ text) full = refl

some_more : (text p : List ℕ) → 0 < length p → is_none (text ++ p) ≡ false
some_more [] [] some = absurd (omega (arith, some))
some_more [] (b ∷ p) some = refl
some_more (b ∷ text) p some = refl

counted : (count n m : ℕ) → n ≡ count * 102400 → 0 < m → m ≤ 102400 → suc count ≡ piece_count (n + m)
counted count n m full some small = omega (arith, full, some, small)

-- ---- what was sent

pub none_sent : (form : Form) (len : ℕ) (sent : Sent) (input output : Option (List ℕ)) → Sums sent.running [] → sent.is_first ≡ true → sent.left ≡ len
    → HasSent form len sent input input output output
none_sent form len sent input output summed is_first left = record {
  text = [];
  count = 0;
  read = Consumes-nil input;
  summed = summed;
  written = Appends-nil output;
  is_first = is_first;
  left = omega (arith, left);
  whole = refl;
  full = inl refl;
}

-- all pieces are full but the last
all_full : (n count left : ℕ) → (n ≡ count * 102400) ⊎ (left ≡ 0) → 0 < left → n ≡ count * 102400
all_full n count left (inl h) some = h
all_full n count left (inr h) some = absurd (omega (arith, h, some))

last_full : (n count len left before : ℕ) → n ≡ count * 102400 → len ≡ min before 102400 → left + len ≡ before
    → (n + len ≡ suc count * 102400) ⊎ (left ≡ 0)
last_full n count len zero before full is rest = inr refl
last_full n count len (suc left) before full is rest = inl (omega (arith, full, is, rest))

pub more_sent : (form : Form) (len : ℕ) (old new : Sent) (i0 i1 i2 o0 o1 o2 : Option (List ℕ)) (piece : List ℕ) → HasSent form len old i0 i1 o0 o1
    → SendsNext form old new i1 i2 o1 o2 piece → length piece ≡ min old.left 102400 → 0 < old.left → HasSent form len new i0 i2 o0 o2
more_sent form len old new i0 i1 i2 o0 o1 o2 piece h next is some =
    let full = all_full (length h.text) h.count old.left h.full some in
    let joined = length-append h.text piece in
    let filled : 0 < length piece = omega (arith, is, some) in
    let small : length piece ≤ 102400 = omega (arith, is) in
    let flag : old.is_first ≡ is_empty (cut_in h.count h.text) = h.is_first ∙ sym (emptied h.count h.text full) in
    let bytes : pieces_bytes form (cut_in h.count h.text) ++ piece_bytes form old.is_first piece ≡ pieces_bytes form (cut_in (suc h.count) (h.text ++ piece)) =
    ap (λ (f : Bool). pieces_bytes form (cut_in h.count h.text) ++ piece_bytes form f piece) flag ∙ sym (pieces_more form (cut_in h.count h.text) piece)
    ∙ ap (pieces_bytes form) (sym (cut_more h.count h.text piece full small)) in
    record {
      text = h.text ++ piece;
      count = suc h.count;
      read = Consumes-trans i0 i1 i2 h.text piece h.read next.read;
      summed = next.summed h.text h.summed;
      written = subst (Appends o0 o2) bytes (Appends-trans o0 o1 o2 _ _ h.written next.written);
      is_first = next.is_first ∙ sym (some_more h.text piece filled);
      left = omega (arith, h.left, next.left, joined);
      whole = counted h.count (length h.text) (length piece) full filled small ∙ ap piece_count (sym joined);
      full = subst (λ n. (n ≡ suc h.count * 102400) ⊎ (new.left ≡ 0)) (sym joined)
          (last_full (length h.text) h.count (length piece) new.left old.left full is next.left);
    }

some_bytes : (form : Form) (text : List ℕ) → 0 < length text → sent_bytes form text ≡ pieces_bytes form (cut text)
some_bytes form [] some = absurd (omega (arith, some))
some_bytes form (b ∷ text) some = refl

-- nothing is left
pub all_sent : (form : Form) (len : ℕ) (sent : Sent) (i0 i1 o0 o1 : Option (List ℕ)) → HasSent form len sent i0 i1 o0 o1 → sent.left ≤ 0 → 0 < len
    → (text : List ℕ) × (length text ≡ len) × Sums sent.running text × Consumes i0 i1 text × Appends o0 o1 (sent_bytes form text)
all_sent form len sent i0 i1 o0 o1 h end some =
    let whole : length h.text ≡ len = omega (arith, h.left, end) in
    let filled : 0 < length h.text = omega (arith, whole, some) in
    let bytes : pieces_bytes form (cut_in h.count h.text) ≡ sent_bytes form h.text =
    ap (λ n. pieces_bytes form (cut_in n h.text)) h.whole ∙ sym (some_bytes form h.text filled) in (
      h.text,
      whole,
      h.summed,
      h.read,
      subst (Appends o0 o1) bytes h.written,
    )

-- ---- a text that is in memory

-- so many bytes are all
pub whole_read : (held text : List ℕ) (after : Option (List ℕ)) → Consumes (Some held) after text → length text ≡ length held → text ≡ held
whole_read held text None h e = absurd h
whole_read held text (Some rest) h e =
    let none : rest ≡ [] = nil_from_length rest (omega (arith, e, ap (λ (l : List ℕ). length l) h, length-append text rest)) in
    sym (append-nil text) ∙ ap (λ (l : List ℕ). text ++ l) (sym none) ∙ sym h
