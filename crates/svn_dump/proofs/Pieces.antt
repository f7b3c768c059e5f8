-- So many bytes, read piece after piece.
use Rattle.std.proofs.Common.{◌≡◌, ℕ, ◌<◌, List, [], ◌++◌, length, length-append, nat_lt, Bool, true, false, cond, Option, Some, None, Result, Ok, Err, refl, sym, ap, subst, ◌∙◌, arith, append-nil, ⊎_elim}
use Rattle.std.proofs.lemmas.Bool.{lt-ltb, le-ltb}
use Rattle.std.proofs.Math.Seq.{take-append_seam, drop-append_seam}
use Rattle.std.specs.Io.KnownBytes.{Consumes, IsAtEnd}
use Rattle.svn_dump.specs.declared.fault.Reason.{Reason}
use Rattle.svn_dump.specs.declared.fault.Reason.TheVariants.{CutOff}
use Rattle.svn_dump.specs.declared.fault.DumpFault.{DumpFault}
use Rattle.svn_dump.specs.declared.fault.DumpFault.TheVariants as faults
use Rattle.std.proofs.KnownBytes.{Consumes-trans}
use Rattle.svn_dump.specs.Reading.{◌>>=◌, Reads}
use Rattle.svn_dump.specs.Blocks.{bytes_at, PieceRead}

enough : (front rest : List ℕ) → nat_lt (length (front ++ rest)) (length front) ≡ false
enough front rest =
    let longer = length-append front rest in
    le-ltb (length (front ++ rest)) (length front) (omega (arith, longer))

cut_whole : (front rest : List ℕ) → bytes_at (length front) (front ++ rest) ≡ Ok (front, rest)
cut_whole front rest = rw (enough front rest, take-append_seam front rest, drop-append_seam front rest) refl

cut_short : (front : List ℕ) (count : ℕ) → length front < count → bytes_at count front ≡ Err CutOff
cut_short front count h = rw (lt-ltb (length front) count h) refl

-- all bytes were read
pub whole_read : {X : Type 0} (view : X → List ℕ) (old new : Option (List ℕ)) (x : X) (count : ℕ) → Consumes old new (view x)
    → length (view x) ≡ count → Reads view old new (Ok x) (bytes_at count)
whole_read view None new x count h e = tt
whole_read view (Some xs) None x count h e = absurd h
whole_read view (Some xs) (Some rest) x count h e =
    subst (λ n. bytes_at n xs ≡ Ok (view x, rest)) e (ap (bytes_at (length (view x))) h ∙ cut_whole (view x) rest)

-- there weren't so many
pub cut_off : {X : Type 0} (view : X → List ℕ) (old mid new : Option (List ℕ)) (front : List ℕ) (count : ℕ) → Consumes old mid front
    → length front < count → Consumes mid new [] → IsAtEnd new → Reads view old new (Err (faults.Refused CutOff)) (bytes_at count)
cut_off view None mid new front count h short none end = tt
cut_off view (Some xs) None new front count h short none end = absurd h
cut_off view (Some xs) (Some ys) None front count h short none end = absurd none
cut_off view (Some xs) (Some ys) (Some zs) front count h short none end =
    let all : xs ≡ front = h ∙ ap (λ (l : List ℕ). front ++ l) (none ∙ end) ∙ append-nil front in
    ap (bytes_at count) all ∙ cut_short front count short

-- the reader failed
pub read_failed : {X Y : Type 0} (view : X → Y) (old new : Option (List ℕ)) (at : List ℕ → Result (Y × List ℕ) Reason)
    → Reads view old new (Err faults.Read) at
read_failed view None new at = tt
read_failed view (Some xs) None at = tt
read_failed view (Some xs) (Some ys) at = tt

-- a piece couldn't be read
pub piece_fault : {X : Type 0} (view : X → List ℕ) (old mid new : Option (List ℕ)) (front piece : List ℕ) (count : ℕ) (e : DumpFault)
    → Consumes old mid front → length front < count → PieceRead mid new (Err e) piece → Reads view old new (Err e) (bytes_at count)
piece_fault view old mid new front piece count e h short fault =
    ⊎_elim
    (λ cut. subst (λ f. Reads view old new (Err f) (bytes_at count)) (sym cut.0) (cut_off view old mid new front count h short cut.1 cut.2))
    (λ failed. subst (λ f. Reads view old new (Err f) (bytes_at count)) (sym failed) (read_failed view old new (bytes_at count)))
    fault

-- out of memory
pub no_memory : {X Y : Type 0} (view : X → Y) (old new : Option (List ℕ)) (at : List ℕ → Result (Y × List ℕ) Reason)
    → Reads view old new (Err faults.Memory) at
no_memory view None new at = tt
no_memory view (Some xs) None at = tt
no_memory view (Some xs) (Some ys) at = tt

-- all bytes were read, and something is made of them
pub whole_read_as : {X Y : Type 0} (view : X → Y) (make : List ℕ → Y) (old new : Option (List ℕ)) (x : X) (front : List ℕ) (count : ℕ)
    → Consumes old new front → length front ≡ count → view x ≡ make front
    → Reads view old new (Ok x) (λ bs. bytes_at count bs >>= λ read. Ok (make read.0, read.1))
whole_read_as view make None new x front count h e made = tt
whole_read_as view make (Some xs) None x front count h e made = absurd h
whole_read_as view make (Some xs) (Some rest) x front count h e made =
    let read : bytes_at count xs ≡ Ok (front, rest) = whole_read (λ bytes. bytes) (Some xs) (Some rest) front count h e in
    ap (λ r. r >>= λ read. Ok (make read.0, read.1)) read ∙ ap (λ y. Ok (y, rest)) (sym made)

-- one more piece was taken
pub more_taken : (old mid new : Option (List ℕ)) (front piece : List ℕ) → Consumes old mid front → Consumes mid new piece → Consumes old new (front ++ piece)
more_taken old mid new front piece h k = Consumes-trans old mid new front piece h k

-- one more piece was kept, if pieces are kept
pub kept_more : (keeps : Bool) (front piece old new : List ℕ) → old ≡ cond keeps front [] → new ≡ cond keeps (old ++ piece) old
    → new ≡ cond keeps (front ++ piece) []
kept_more true front piece old new e f = f ∙ ap (λ (l : List ℕ). l ++ piece) e
kept_more false front piece old new e f = f ∙ e
