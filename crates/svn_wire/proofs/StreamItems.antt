-- The items of a stream that comes in pieces, one after the other.
use Rattle.std.proofs.Common.{◌≡◌, ◌⊎◌, inl, inr, ℕ, zero, suc, ◌+◌, ◌<◌, ◌≤◌, List, [], ◌∷◌, ◌++◌, length, Result, Ok, Err, refl, sym, ap, ◌∙◌, append-nil, append_assoc, arith}
use Rattle.svn_wire.specs.declared.fault.Malformed.{Malformed}
use Rattle.svn_wire.specs.declared.fault.Stop.{Stop}
use Rattle.svn_wire.specs.declared.fault.Stop.TheVariants.{More, Bad}
use Rattle.svn_wire.specs.declared.item.Limits.{Limits}
use Rattle.svn_wire.specs.declared.token.Token.{Token}
use Rattle.svn_wire.specs.Items.{with_front, tokens_at, item_at}
use Rattle.svn_wire.specs.Streams.{Waiting, fresh, with_bytes, reads_now, goes_on, IsSameStream}
use Rattle.svn_wire.specs.Laws.{with_more}
use Rattle.svn_wire.specs.Sessions.{Heard, found, items_from, items_of, items_in, LeavesOff}
use Rattle.svn_wire.proofs.Choices.{ok_parts}
use Rattle.svn_wire.proofs.ItemForms.{from, items_whole}
use Rattle.svn_wire.proofs.Pieces.{front_more, tokens_settled}

-- ---- items of bytes

-- an item has a byte at least, so these are all
same_items : (limits : Limits) (n k : ℕ) (bytes : List ℕ) → length bytes + 1 ≤ n → length bytes + 1 ≤ k
    → items_from n limits bytes ≡ items_from k limits bytes
same_items limits zero k bytes h i = absurd (omega (arith, h))
same_items limits (suc n) zero bytes h i = absurd (omega (arith, i))
same_items limits (suc n) (suc k) bytes h i =
    by_read (λ x less. same_items limits n k x.1 (omega (arith, h, less)) (omega (arith, i, less))) (item_at limits bytes) refl
  where
    by_read : ((x : List Token × List ℕ) → length x.1 < length bytes → items_from n limits x.1 ≡ items_from k limits x.1)
        → (read : Result (List Token × List ℕ) Stop) → item_at limits bytes ≡ read → found read (items_from n limits) ≡ found read (items_from k limits)
    by_read more (Err More) e = refl
    by_read more (Err (Bad m)) e = refl
    by_read more (Ok x) e = ap (λ (l : List Heard). Ok x.0 ∷ l) (more x (items_whole limits bytes x.0 x.1 e).1)

-- the first, and those after it
first_and_rest : (limits : Limits) (bytes : List ℕ) → items_of limits bytes ≡ found (item_at limits bytes) (items_of limits)
first_and_rest limits bytes =
    same_items limits (length bytes + 1) (suc (length bytes)) bytes (omega arith) (omega arith) ∙ by_read (item_at limits bytes) refl
  where
    by_read : (read : Result (List Token × List ℕ) Stop) → item_at limits bytes ≡ read
        → found read (items_from (length bytes) limits) ≡ found read (items_of limits)
    by_read (Err More) e = refl
    by_read (Err (Bad m)) e = refl
    by_read (Ok x) e =
        let whole = items_whole limits bytes x.0 x.1 e in
        ap (λ (l : List Heard). Ok x.0 ∷ l) (same_items limits (length bytes) (length x.1 + 1) x.1 (omega (arith, whole.1)) (omega arith))

no_front : (read : Result (List Token × List ℕ) Stop) → with_front [] read ≡ read
no_front (Ok x) = refl
no_front (Err e) = refl

-- those of a stream of which no item has begun
pub fresh_items : (limits : Limits) (bytes : List ℕ) → items_in (fresh limits bytes) ≡ items_of limits bytes
fresh_items limits bytes =
    ap (λ r. found r (items_of limits)) (no_front (item_at limits bytes)) ∙ sym (first_and_rest limits bytes)

-- ---- one item more

stays_read : (now then : Result (List Token × List ℕ) Stop) (tokens : List Token) (rest more : List ℕ) → now ≡ Ok (tokens, rest)
    → (now ≡ Err More) ⊎ (then ≡ with_more more now) → then ≡ Ok (tokens, rest ++ more)
stays_read now then tokens rest more e (inl f) = absurd (apart now e f)
  where
    apart : (r : Result (List Token × List ℕ) Stop) → r ≡ Ok (tokens, rest) → r ≡ Err More → ⊥
    apart r e f = cc
stays_read now then tokens rest more e (inr f) = f ∙ ap (with_more more) e

front_settled : (front : List Token) (now then : Result (List Token × List ℕ) Stop) (more : List ℕ) → (now ≡ Err More) ⊎ (then ≡ with_more more now)
    → (with_front front now ≡ Err More) ⊎ (with_front front then ≡ with_more more (with_front front now))
front_settled front now then more (inl f) = inl (ap (with_front front) f)
front_settled front now then more (inr f) = inr (ap (with_front front) f ∙ front_more front more now)

-- an item that was read is read where more bytes come
pub goes_on_read : (w : Waiting) (tokens : List Token) (rest more : List ℕ) → reads_now w ≡ Ok (tokens, rest) → goes_on w more ≡ Ok (tokens, rest ++ more)
goes_on_read w tokens rest more read =
    stays_read (reads_now w) (goes_on w more) tokens rest more read
    (front_settled w.tokens (tokens_at w.limits w.room w.level w.bytes) (tokens_at w.limits w.room w.level (w.bytes ++ more)) more
    (tokens_settled w.limits w.room w.level w.bytes more))

-- the next item is the first of all
pub next_leaves : (w new : Waiting) (tokens : List Token) → reads_now w ≡ Ok (tokens, new.bytes) → new ≡ fresh w.limits new.bytes
    → LeavesOff w (Ok tokens ∷ []) new
next_leaves w new tokens read same more =
    ap (λ r. found r (items_of w.limits)) (goes_on_read w tokens new.bytes more read)
    ∙ ap (λ (l : List Heard). Ok tokens ∷ l) (sym (fresh_items w.limits (new.bytes ++ more)))
    ∙ ap (λ (v : Waiting). Ok tokens ∷ items_in (with_bytes v more)) (sym same)

-- an item has a byte at least
front_of : (front : List Token) (read : Result (List Token × List ℕ) Stop) (tokens : List Token) (rest : List ℕ) → with_front front read ≡ Ok (tokens, rest)
    → (ts : List Token) × (read ≡ Ok (ts, rest))
front_of front (Ok x) tokens rest h = (x.0, ap (λ (l : List ℕ). Ok (x.0, l)) (ok_parts (front ++ x.0) tokens x.1 rest h).1)
front_of front (Err e) tokens rest h = cc

pub fewer_bytes : (w : Waiting) (tokens : List Token) (rest : List ℕ) → reads_now w ≡ Ok (tokens, rest) → length rest < length w.bytes
fewer_bytes w tokens rest read =
    let ts = front_of w.tokens (tokens_at w.limits w.room w.level w.bytes) tokens rest read in
    (from w.limits w.room w.level w.bytes ts.0 rest ts.1).shorter

-- ---- where it leaves off

pub leaves_nothing : (old new : Waiting) → IsSameStream old new → LeavesOff old [] new
leaves_nothing old new same more =
    ap (λ (limits : Limits). found (goes_on old more) (items_of limits)) (sym same.0)
    ∙ ap (λ r. found r (items_of new.limits)) (sym (same.1 more))

pub leaves_more : (a b c : Waiting) (first more : List Heard) → LeavesOff a first b → LeavesOff b more c → LeavesOff a (first ++ more) c
leaves_more a b c first more h i bytes =
    h bytes ∙ ap (λ (l : List Heard). first ++ l) (i bytes) ∙ sym (append_assoc first more (items_in (with_bytes c bytes)))

-- bytes that come later
pub leaves_later : (a b : Waiting) (items : List Heard) (bytes : List ℕ) → LeavesOff a items b → LeavesOff (with_bytes a bytes) items (with_bytes b bytes)
leaves_later a b items bytes h more =
    ap (λ (l : List ℕ). items_in (record { limits = a.limits; tokens = a.tokens; room = a.room; level = a.level; bytes = l })) (append_assoc a.bytes bytes more)
    ∙ h (bytes ++ more)
    ∙ ap (λ (l : List ℕ). items ++ items_in (record { limits = b.limits; tokens = b.tokens; room = b.room; level = b.level; bytes = l }))
    (sym (append_assoc b.bytes bytes more))

-- with no more bytes
pub leaves_now : (a b : Waiting) (items : List Heard) → LeavesOff a items b → items_in a ≡ items ++ items_in b
leaves_now a b items h =
    ap (λ (l : List ℕ). items_in (record { limits = a.limits; tokens = a.tokens; room = a.room; level = a.level; bytes = l })) (sym (append-nil a.bytes))
    ∙ h []
    ∙ ap (λ (l : List ℕ). items ++ items_in (record { limits = b.limits; tokens = b.tokens; room = b.room; level = b.level; bytes = l })) (append-nil b.bytes)

-- no item is whole
pub none_now : (w : Waiting) → reads_now w ≡ Err More → items_in w ≡ []
none_now w e = ap (λ r. found r (items_of w.limits)) e

-- the next is malformed
pub bad_now : (w : Waiting) (m : Malformed) → reads_now w ≡ Err (Bad m) → items_in w ≡ Err m ∷ []
bad_now w m e = ap (λ r. found r (items_of w.limits)) e
