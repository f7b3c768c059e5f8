-- What is taken of a reader is counted.
use Rattle.std.proofs.Common.{◌≡◌, ℕ, ◌+◌, ◌-◌, ◌≤◌, ◌^◌, List, [], ◌∷◌, ◌++◌, length, take, drop, take-append-drop, append_assoc, length-append, length-take-le, Bool, true, false, cond, ◌&&◌, ◌||◌, not, nat_eq, Option, Some, None, Result, Ok, Err, refl, sym, ap, subst, ◌∙◌, min, arith}
use Rattle.std.specs.Io.KnownBytes.{Consumes, Keeps, prepend_known}
use Rattle.svn_dump.specs.declared.fault.Reason.{Reason}
use Rattle.svn_dump.specs.declared.fault.Reason.TheVariants.{HeadersTooLong}
use Rattle.svn_dump.specs.declared.fault.DumpFault.{DumpFault}
use Rattle.svn_dump.specs.declared.fault.DumpFault.TheVariants as faults
use Rattle.svn_dump.specs.declared.sections.Limits.{Limits}
use Rattle.svn_dump.specs.Reading.{Reads}
use Rattle.svn_dump.specs.Blocks.{headers_at, block_at, with_front, is_line_feed, is_space}
use Rattle.svn_dump.specs.Counts.{OfAll, Counts, Grows}
use Rattle.svn_dump.specs.Readers.{UnlessBroken, headers_len, found_headers, after_headers, Shows}

-- bytes are taken of a buffer before what is known
pub taken_ahead : (n : ℕ) (unseen then_unseen : Bool) (buffer after : List ℕ) (known then_known : Option (List ℕ)) → then_unseen ≡ unseen
    → then_known ≡ known → after ≡ drop n buffer
    → Consumes (cond unseen None (prepend_known buffer known)) (cond then_unseen None (prepend_known after then_known)) (take n buffer)
taken_ahead n unseen then_unseen buffer after known then_known same_unseen same_known e =
    rw (same_unseen, same_known) (by unseen known)
  where
    by : (unseen : Bool) (known : Option (List ℕ))
        → Consumes (cond unseen None (prepend_known buffer known)) (cond unseen None (prepend_known after known)) (take n buffer)
    by true known = tt
    by false None = tt
    by false (Some bytes) =
        ap (λ l. l ++ bytes) (sym (take-append-drop n buffer)) ∙ append_assoc (take n buffer) (drop n buffer) bytes
        ∙ ap (λ l. take n buffer ++ (l ++ bytes)) (sym e)

-- a read that gave some bytes
pub one_read : (taken now n : ℕ) (old new : Option (List ℕ)) (buf : List ℕ) → Consumes old new (take n buf) → n ≤ length buf
    → now ≡ min (taken + n) (2 ^ 64 - 1) → Counts taken old now new
unfolding OfAll
one_read taken now n None new buf h short e = λ all counted. absurd counted
one_read taken now n (Some xs) None buf h short e = λ all counted. absurd h
one_read taken now n (Some xs) (Some ys) buf h short e = λ all counted.
    let joined : length xs ≡ length (take n buf ++ ys) = ap length h in
    let sum = length-append (take n buf) ys in
    let given = length-take-le n buf short in
    (omega (arith, joined, sum, given, counted.0, counted.1, e), counted.1)

-- a read that failed
pub no_read : (taken : ℕ) (old new : Option (List ℕ)) → Keeps old new → Counts taken old taken new
unfolding OfAll
no_read taken None new h = λ all counted. absurd counted
no_read taken (Some xs) None h = λ all counted. absurd h
no_read taken (Some xs) (Some ys) h = λ all counted.
    let same : length ys ≡ length xs = ap length h in
    (omega (arith, same, counted.0), counted.1)

-- more was taken, and then more again
pub grows_on : (taken mid now : ℕ) → Grows taken 1 mid → Grows mid 1 now → Grows taken 1 now
grows_on taken mid now g h = (omega (arith, g.0, h.0), omega (arith, g.1, h.0))

-- a reader that nothing was taken from before
pub from_none : (taken now : ℕ) (given known left : Option (List ℕ)) → taken ≡ 0 → given ≡ known → Counts taken given now left → Counts 0 known now left
from_none taken now given known left none same counts =
    subst (λ (k : Option (List ℕ)). Counts 0 k now left) same (subst (λ (t : ℕ). Counts t given now left) none counts)

-- ---- how long headers are

headers_step : (ends full : Bool) (b : ℕ) (bs block rest : List ℕ) (more : Result (List ℕ × List ℕ) Reason)
    → ((x : List ℕ × List ℕ) → more ≡ Ok x → length x.0 + 1 + length x.1 ≤ length bs)
    → cond ends (Ok ([], bs)) (cond full (Err HeadersTooLong) (with_front (b ∷ []) more)) ≡ Ok (block, rest)
    → length block + 1 + length rest ≤ length bs + 1
headers_step true full b bs block rest more shorter e =
    let none : 0 ≡ length block = ap (λ r. length (found_headers r)) e in
    let same : length bs ≡ length rest = ap (λ r. length (after_headers [] r)) e in
    omega (arith, none, same)
headers_step false true b bs block rest more shorter e = cc
headers_step false false b bs block rest (Err reason) shorter e = cc
headers_step false false b bs block rest (Ok x) shorter e =
    let front : length (b ∷ x.0) ≡ length block = ap (λ r. length (found_headers r)) e in
    let same : length x.1 ≡ length rest = ap (λ r. length (after_headers [] r)) e in
    let before = shorter x refl in
    omega (arith, front, same, before)

headers_fit : (fresh : Bool) (room : ℕ) (bytes : List ℕ) (x : List ℕ × List ℕ) → headers_at fresh room bytes ≡ Ok x
    → length x.0 + 1 + length x.1 ≤ length bytes
unfolding headers_at
headers_fit fresh room [] x e = cc
headers_fit fresh room (b ∷ bs) x e =
    let step : length x.0 + 1 + length x.1 ≤ length bs + 1 =
    headers_step (fresh && is_line_feed b) (nat_eq room 0) b bs x.0 x.1 (headers_at (is_line_feed b) (room - 1) bs)
    (headers_fit (is_line_feed b) (room - 1) bs) e in
    omega (arith, step)

block_step : (full blank : Bool) (b : ℕ) (bs block rest : List ℕ) (next more : Result (List ℕ × List ℕ) Reason)
    → (next ≡ Ok (block, rest) → headers_len block + length rest ≤ length bs)
    → ((x : List ℕ × List ℕ) → more ≡ Ok x → length x.0 + 1 + length x.1 ≤ length bs)
    → cond full (Err HeadersTooLong) (cond blank next (with_front (b ∷ []) more)) ≡ Ok (block, rest)
    → headers_len block + length rest ≤ length bs + 1
block_step true blank b bs block rest next more passed shorter e = cc
block_step false true b bs block rest next more passed shorter e =
    let before = passed e in
    omega (arith, before)
block_step false false b bs block rest next (Err reason) passed shorter e = cc
block_step false false b bs block rest next (Ok x) passed shorter e =
    let front : headers_len (b ∷ x.0) ≡ headers_len block = ap (λ r. headers_len (found_headers r)) e in
    let same : length x.1 ≡ length rest = ap (λ r. length (after_headers [] r)) e in
    let before = shorter x refl in
    omega (arith, front, same, before)

block_fits : (blank : Bool) (room : ℕ) (bytes block rest : List ℕ) → block_at blank room bytes ≡ Ok (block, rest)
    → headers_len block + length rest ≤ length bytes
unfolding block_at
block_fits blank room [] block rest e =
    let none : 0 ≡ headers_len block = ap (λ r. headers_len (found_headers r)) e in
    let same : 0 ≡ length rest = ap (λ r. length (after_headers [] r)) e in
    omega (arith, none, same)
block_fits blank room (b ∷ bs) block rest e =
    let step : headers_len block + length rest ≤ length bs + 1 =
    block_step (nat_eq room 0) (blank || is_space b) b bs block rest (block_at (not (is_line_feed b)) (room - 1) bs) (headers_at false (room - 1) bs)
    (block_fits (not (is_line_feed b)) (room - 1) bs block rest) (headers_fit false (room - 1) bs) e in
    omega (arith, step)

-- ---- what a reader shows

-- the headers were read
pub shows_headers : {X : Type 0} (view : X → List ℕ) (limits : Limits) (taken now begun : ℕ) (old new : Option (List ℕ)) (x : X)
    → Reads view old new (Ok x) (block_at false limits.headers) → Counts taken old now new → begun ≡ now - headers_len (view x)
    → Shows limits taken old begun (view x)
unfolding Shows OfAll
shows_headers view limits taken now begun None new x h counts e = tt
shows_headers view limits taken now begun (Some bytes) None x h counts e = absurd h
shows_headers view limits taken now begun (Some bytes) (Some rest) x h counts e =
    let found = block_at false limits.headers bytes in (
      ap found_headers (sym h),
      λ all counted.
          let after = counts all counted in
          let fits = block_fits false limits.headers bytes (view x) rest h in
          let same : length (after_headers bytes found) ≡ length rest = ap (λ r. length (after_headers bytes r)) h in
          omega (arith, after.0, counted.0, fits, same, e),
    )

at_fault : (limits : Limits) (taken begun : ℕ) (bytes block : List ℕ) (reason : Reason) → block_at false limits.headers bytes ≡ Err reason
    → begun ≡ taken → block ≡ [] → Shows limits taken (Some bytes) begun block
unfolding Shows OfAll
at_fault limits taken begun bytes block reason h b n =
    let found = block_at false limits.headers bytes in (
      n ∙ ap found_headers (sym h),
      λ all counted.
          let none : headers_len block ≡ 0 = ap headers_len n in
          let same : length (after_headers bytes found) ≡ length bytes = ap (λ r. length (after_headers bytes r)) h in
          omega (arith, counted.0, none, same, b),
    )

-- they are at fault
pub shows_none : {X : Type 0} (Y : Type 0) (view : X → List ℕ) (limits : Limits) (taken begun : ℕ) (old new : Option (List ℕ)) (block : List ℕ) (e : DumpFault)
    → Reads view old new (Err e) (block_at false limits.headers) → begun ≡ taken → block ≡ []
    → UnlessBroken {X = Y} (Err e) (Shows limits taken old begun block)
unfolding Shows OfAll
shows_none Y view limits taken begun old new block faults.Read h b n = tt
shows_none Y view limits taken begun old new block faults.Memory h b n = tt
shows_none Y view limits taken begun None new block (faults.Refused reason) h b n = tt
shows_none Y view limits taken begun (Some bytes) None block (faults.Refused reason) h b n = at_fault limits taken begun bytes block reason h b n
shows_none Y view limits taken begun (Some bytes) (Some rest) block (faults.Refused reason) h b n = at_fault limits taken begun bytes block reason h b n

-- nothing was taken before
pub shows_from_none : (limits : Limits) (taken begun : ℕ) (given known : Option (List ℕ)) (block : List ℕ) → taken ≡ 0 → given ≡ known
    → Shows limits taken given begun block → Shows limits 0 known begun block
shows_from_none limits taken begun given known block none same shown =
    subst (λ (k : Option (List ℕ)). Shows limits 0 k begun block) same (subst (λ (t : ℕ). Shows limits t given begun block) none shown)

-- what was shown of the headers holds, whatever is read after them
pub still_shown : {Y : Type 0} (result : Result Y DumpFault) (P : Type 0) → P → UnlessBroken result P
still_shown (Ok y) P shown = shown
still_shown (Err (faults.Refused reason)) P shown = shown
still_shown (Err faults.Read) P shown = tt
still_shown (Err faults.Memory) P shown = tt
