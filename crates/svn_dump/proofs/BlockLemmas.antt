-- The headers of a record, byte by byte.
use Rattle.std.proofs.Common.{◌≡◌, ℕ, zero, suc, ◌+◌, ◌-◌, ◌<◌, ◌≤◌, Bool, true, false, cond, ◌&&◌, ◌||◌, not, List, [], ◌∷◌, ◌++◌, take, nat_eq, Option, Result, Ok, Err, refl, sym, ap, ◌∙◌, append_assoc, append-nil, arith}
use Rattle.std.specs.List.{position_or_len}
use Rattle.std.proofs.lemmas.Bool.Decides.{nat_tests}
use Rattle.svn_dump.specs.declared.fault.Reason.{Reason}
use Rattle.svn_dump.specs.declared.fault.Reason.TheVariants.{CutOff, HeadersTooLong}
use Rattle.std.specs.Io.KnownBytes.{Consumes}
use Rattle.svn_dump.proofs.Streams.{Continues, takes_on}
use Rattle.svn_dump.specs.Blocks.{headers_at, block_at, with_front, is_line_feed, is_space}

pub both : (a b : Bool) → a ≡ true → b ≡ true → (a && b) ≡ true
both a b e f = rw (e, f) refl

pub not_first : (a b : Bool) → a ≡ false → (a && b) ≡ false
not_first a b e = rw e refl

pub not_second : (a b : Bool) → b ≡ false → (a && b) ≡ false
not_second true b e = e
not_second false b e = refl

pub neither : (a b : Bool) → a ≡ false → b ≡ false → (a || b) ≡ false
neither a b e f = rw (e, f) refl

pub by_first : (a b : Bool) → a ≡ true → (a || b) ≡ true
by_first a b e = rw e refl

pub by_second : (a b : Bool) → b ≡ true → (a || b) ≡ true
by_second true b e = refl
by_second false b e = e

pub is_zero : (n : ℕ) → n ≡ 0 → nat_eq n 0 ≡ true
is_zero n e = rw e refl

pub not_zero : (n : ℕ) → 0 < n → nat_eq n 0 ≡ false
not_zero n h = grind (arith, nat_tests)

-- two fronts are one
fronts : (front more : List ℕ) (read : Result (List ℕ × List ℕ) Reason) → with_front front (with_front more read) ≡ with_front (front ++ more) read
fronts front more (Ok x) = ap (λ (l : List ℕ). Ok (l, x.1)) (sym (append_assoc front more x.0))
fronts front more (Err e) = refl

-- a byte that ends the headers
pub headers_end : (front : List ℕ) (fresh : Bool) (room b : ℕ) (bs : List ℕ) → (fresh && is_line_feed b) ≡ true
    → with_front front (headers_at fresh room (b ∷ bs)) ≡ Ok (front, bs)
unfolding headers_at
headers_end front fresh room b bs e = rw e (ap (λ (l : List ℕ). Ok (l, bs)) (append-nil front))

-- a byte for which there is no room
pub headers_full : (front : List ℕ) (fresh : Bool) (room b : ℕ) (bs : List ℕ) → (fresh && is_line_feed b) ≡ false → nat_eq room 0 ≡ true
    → with_front front (headers_at fresh room (b ∷ bs)) ≡ Err HeadersTooLong
unfolding headers_at
headers_full front fresh room b bs e f = rw (e, f) refl

-- a byte more, after which the front is this
pub headers_more : (front next_front : List ℕ) (fresh next_fresh : Bool) (room b : ℕ) (bs : List ℕ) → (fresh && is_line_feed b) ≡ false
    → nat_eq room 0 ≡ false → next_front ≡ front ++ b ∷ [] → next_fresh ≡ is_line_feed b
    → with_front front (headers_at fresh room (b ∷ bs)) ≡ with_front next_front (headers_at next_fresh (room - 1) bs)
unfolding headers_at
headers_more front next_front fresh next_fresh room b bs e f same_front same_fresh =
    rw (e, f, same_front, same_fresh) (fronts front (b ∷ []) (headers_at (is_line_feed b) (room - 1) bs))

-- ---- a part of a line at once

no_front : (read : Result (List ℕ × List ℕ) Reason) → with_front [] read ≡ read
no_front (Ok x) = refl
no_front (Err e) = refl

none_more : (fresh : Bool) → (fresh && nat_eq 0 0) ≡ fresh
none_more true = refl
none_more false = refl

-- a byte before the first line feed isn't one, and the others are before it too
before_feed : (feed : Bool) (n after : ℕ) → suc n ≤ cond (not feed) (1 + after) 0 → (feed ≡ false) × (n ≤ after)
before_feed true n after h = absurd (omega arith)
before_feed false n after h = (refl, omega arith)

-- bytes before a line feed, for which there is room
line_more : (n : ℕ) (line : List ℕ) (fresh : Bool) (room : ℕ) (bs : List ℕ) → n ≤ position_or_len is_line_feed line → n ≤ room
    → headers_at fresh room (take n line ++ bs) ≡ with_front (take n line) (headers_at (fresh && nat_eq n 0) (room - n) bs)
unfolding headers_at
line_more zero line fresh room bs h r =
    let whole : room - 0 ≡ room = omega arith in
    sym (no_front (headers_at (fresh && nat_eq 0 0) (room - 0) bs) ∙ ap (λ f. headers_at f (room - 0) bs) (none_more fresh)
    ∙ ap (λ k. headers_at fresh k bs) whole)
line_more (suc n) [] fresh room bs h r = absurd (omega arith)
line_more (suc n) (b ∷ line) fresh room bs h r =
    let first = before_feed (is_line_feed b) n (position_or_len is_line_feed line) h in
    let left : room - 1 - n ≡ room - suc n = omega arith in
    let rest = line_more n line false (room - 1) bs first.1 (omega (arith, r)) in
    rw (not_second fresh (is_line_feed b) first.0, not_second fresh (nat_eq (suc n) 0) (not_zero (suc n) (omega arith)), not_zero room (omega (arith, r)), first.0)
    (ap (with_front (b ∷ [])) rest ∙ fronts (b ∷ []) (take n line) (headers_at (false && nat_eq n 0) (room - 1 - n) bs)
    ∙ ap (λ k. with_front (b ∷ take n line) (headers_at false k bs)) left)

-- the same after a front, which is then this
pub headers_line : (front next_front line : List ℕ) (fresh next_fresh : Bool) (room n : ℕ) (bs : List ℕ) → n ≤ position_or_len is_line_feed line
    → n ≤ room → next_front ≡ front ++ take n line → next_fresh ≡ (fresh && nat_eq n 0)
    → with_front front (headers_at fresh room (take n line ++ bs)) ≡ with_front next_front (headers_at next_fresh (room - n) bs)
headers_line front next_front line fresh next_fresh room n bs h r same_front same_fresh =
    rw (same_front, same_fresh) (ap (with_front front) (line_more n line fresh room bs h r)
    ∙ fronts front (take n line) (headers_at (fresh && nat_eq n 0) (room - n) bs))

-- what there was is read as what is left is read, after a part of a line was taken
pub line_taken : (old now new : Option (List ℕ)) (at : List ℕ → Result (List ℕ × List ℕ) Reason) (front next_front line : List ℕ)
    (fresh next_fresh : Bool) (room n : ℕ) → Continues old now at (λ bs. with_front front (headers_at fresh room bs)) → Consumes now new (take n line)
    → n ≤ position_or_len is_line_feed line → n ≤ room → next_front ≡ front ++ take n line → next_fresh ≡ (fresh && nat_eq n 0)
    → Continues old new at (λ bs. with_front next_front (headers_at next_fresh (room - n) bs))
line_taken old now new at front next_front line fresh next_fresh room n c taken h r same_front same_fresh =
    takes_on old now new (take n line) at (λ bs. with_front front (headers_at fresh room bs))
    (λ bs. with_front next_front (headers_at next_fresh (room - n) bs)) c taken
    (λ bs. headers_line front next_front line fresh next_fresh room n bs h r same_front same_fresh)

-- no byte more
pub headers_cut : (front : List ℕ) (fresh : Bool) (room : ℕ) → with_front front (headers_at fresh room []) ≡ Err CutOff
unfolding headers_at
headers_cut front fresh room = refl

pub block_none : (blank : Bool) (room : ℕ) → block_at blank room [] ≡ Ok ([], [])
unfolding block_at
block_none blank room = refl

pub block_full : (blank : Bool) (room b : ℕ) (bs : List ℕ) → nat_eq room 0 ≡ true → block_at blank room (b ∷ bs) ≡ Err HeadersTooLong
unfolding block_at
block_full blank room b bs f = rw f refl

-- a byte that is passed over
pub block_blank : (blank line_feed : Bool) (room b : ℕ) (bs : List ℕ) → nat_eq room 0 ≡ false → (blank || is_space b) ≡ true
    → line_feed ≡ is_line_feed b → block_at blank room (b ∷ bs) ≡ block_at (not line_feed) (room - 1) bs
unfolding block_at
block_blank blank line_feed room b bs f e same = rw (f, e, same) refl

-- the first byte of the headers
pub block_begins : (blank : Bool) (room b : ℕ) (bs : List ℕ) → nat_eq room 0 ≡ false → (blank || is_space b) ≡ false
    → block_at blank room (b ∷ bs) ≡ with_front (b ∷ []) (headers_at false (room - 1) bs)
unfolding block_at
block_begins blank room b bs f e = rw (f, e) refl
