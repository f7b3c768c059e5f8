-- What is read off a reader in several steps.
use Rattle.std.proofs.Common.{◌≡◌, ℕ, List, Option, Some, None, Result, Ok, Err, sym, ap, subst, ◌∙◌}
use Rattle.svn_dump.specs.declared.fault.Reason.{Reason}
use Rattle.svn_dump.specs.declared.fault.DumpFault.{DumpFault}
use Rattle.svn_dump.specs.declared.fault.DumpFault.TheVariants as faults
use Rattle.svn_dump.specs.Reading.{◌>>=◌, Meets, Fails, Gives, GivesFront, Reads}

-- a fault stays the first, whatever would be read after it
pub fails_first : {Y W : Type 0} (e : DumpFault) (read : Result Y Reason) (more : Y → Result W Reason) → Fails e read → Fails e (read >>= more)
fails_first (faults.Refused reason) read more h = ap (λ r. r >>= more) h
fails_first faults.Read read more h = tt
fails_first faults.Memory read more h = tt

-- so does one that bytes have
pub meets_first : {Y W : Type 0} (e : DumpFault) (read : Result Y Reason) (more : Y → Result W Reason) → Meets e read → Meets e (read >>= more)
meets_first (faults.Refused reason) read more h = ap (λ r. r >>= more) h
meets_first faults.Read read more h = absurd h
meets_first faults.Memory read more h = tt

pub fails_meeting : {Y : Type 0} (e : DumpFault) (read : Result Y Reason) → Meets e read → Fails e read
fails_meeting (faults.Refused reason) read h = h
fails_meeting faults.Read read h = absurd h
fails_meeting faults.Memory read h = tt

-- the first step failed
pub reads_fault : {X Y Z W : Type 0} (view : X → Y) (last : Z → W) (old new : Option (List ℕ)) (e : DumpFault)
    (at : List ℕ → Result (Y × List ℕ) Reason) (more : Y × List ℕ → Result (W × List ℕ) Reason) → Reads view old new (Err e) at
    → Reads last old new (Err e) (λ bs. at bs >>= more)
reads_fault view last None new e at more h = tt
reads_fault view last (Some bytes) None e at more h = fails_first e (at bytes) more h
reads_fault view last (Some bytes) (Some rest) e at more h = fails_first e (at bytes) more h

-- one step after the other
pub reads_then : {X Y Z W : Type 0} (view : X → Y) (last : Z → W) (old mid new : Option (List ℕ)) (x : X) (result : Result Z DumpFault)
    (at : List ℕ → Result (Y × List ℕ) Reason) (more : Y → List ℕ → Result (W × List ℕ) Reason) → Reads view old mid (Ok x) at
    → Reads last mid new result (more (view x)) → Reads last old new result (λ bs. at bs >>= λ read. more read.0 read.1)
reads_then view last None mid new x result at more h k = tt
reads_then view last (Some bytes) None new x result at more h k = absurd h
reads_then view last (Some bytes) (Some rest) None x (Ok z) at more h k = absurd k
reads_then view last (Some bytes) (Some rest) None x (Err e) at more h k =
    let step : more (view x) rest ≡ (at bytes >>= λ read. more read.0 read.1) = sym (ap (λ r. r >>= λ read. more read.0 read.1) h) in
    subst (λ r. Fails e r) step k
reads_then view last (Some bytes) (Some rest) (Some left) x result at more h k =
    let step : more (view x) rest ≡ (at bytes >>= λ read. more read.0 read.1) = sym (ap (λ r. r >>= λ read. more read.0 read.1) h) in
    subst (λ r. GivesFront last result left r) step k

gives_front : {Z W : Type 0} (last : Z → W) (result : Result Z DumpFault) (rest : List ℕ) (read : Result W Reason) → Gives last result read
    → GivesFront last result rest (read >>= λ y. Ok (y, rest))
gives_front last (Ok z) rest read h = ap (λ r. r >>= λ y. Ok (y, rest)) h
gives_front last (Err e) rest read h = fails_first e read (λ y. Ok (y, rest)) (fails_meeting e read h)

-- what was read is looked at, and nothing more is read
pub reads_as : {X Y Z W : Type 0} (view : X → Y) (last : Z → W) (old new : Option (List ℕ)) (x : X) (result : Result Z DumpFault)
    (at : List ℕ → Result (Y × List ℕ) Reason) (more : Y → Result W Reason) → Reads view old new (Ok x) at → Gives last result (more (view x))
    → Reads last old new result (λ bs. at bs >>= λ read. more read.0 >>= λ y. Ok (y, read.1))
reads_as view last None new x result at more h k = tt
reads_as view last (Some bytes) None x result at more h k = absurd h
reads_as view last (Some bytes) (Some rest) x result at more h k =
    let step : (more (view x) >>= λ y. Ok (y, rest)) ≡ (at bytes >>= λ read. more read.0 >>= λ y. Ok (y, read.1)) =
    sym (ap (λ r. r >>= λ read. more read.0 >>= λ y. Ok (y, read.1)) h) in
    subst (λ r. GivesFront last result rest r) step (gives_front last result rest (more (view x)) k)

-- nothing is read
pub reads_none : {Z W : Type 0} (last : Z → W) (known : Option (List ℕ)) (result : Result Z DumpFault) (read : Result W Reason)
    → Gives last result read → Reads last known known result (λ bs. read >>= λ y. Ok (y, bs))
reads_none last None result read h = tt
reads_none last (Some bytes) result read h = gives_front last result bytes read h

-- something is made of what was read
pub reads_made : {X Y Z W : Type 0} (view : X → Y) (last : Z → W) (make : Y → W) (old new : Option (List ℕ)) (x : X) (z : Z)
    (at : List ℕ → Result (Y × List ℕ) Reason) → Reads view old new (Ok x) at → last z ≡ make (view x)
    → Reads last old new (Ok z) (λ bs. at bs >>= λ read. Ok (make read.0, read.1))
reads_made view last make None new x z at h made = tt
reads_made view last make (Some bytes) None x z at h made = absurd h
reads_made view last make (Some bytes) (Some rest) x z at h made =
    ap (λ r. r >>= λ read. Ok (make read.0, read.1)) h ∙ ap (λ y. Ok (y, rest)) (sym made)

-- what is known before anything is read is looked at first
pub known_first : {X Y Z W : Type 0} (view : X → Y) (last : Z → W) (old new : Option (List ℕ)) (x : X) (result : Result Z DumpFault)
    (read : Result Y Reason) (more : Y → List ℕ → Result (W × List ℕ) Reason) → Gives view (Ok x) read → Reads last old new result (more (view x))
    → Reads last old new result (λ bs. read >>= λ y. more y bs)
known_first {Y = Y} view last old new x result read more h k =
    subst (λ (r : Result Y Reason). Reads last old new result (λ bs. r >>= λ y. more y bs)) (sym h) k

-- what is known before anything is read is at fault
pub known_fault : {Y Z W : Type 0} (last : Z → W) (old new : Option (List ℕ)) (e : DumpFault) (read : Result Y Reason)
    (more : Y → List ℕ → Result (W × List ℕ) Reason) → Meets e read → Reads last old new (Err e) (λ bs. read >>= λ y. more y bs)
known_fault last None new e read more h = tt
known_fault last (Some bytes) None e read more h = fails_first e read (λ y. more y bytes) (fails_meeting e read h)
known_fault last (Some bytes) (Some rest) e read more h = fails_first e read (λ y. more y bytes) (fails_meeting e read h)

-- the same value, seen in another way
pub reads_seen : {X Z Y : Type 0} (view : X → Y) (other : Z → Y) (old new : Option (List ℕ)) (x : X) (z : Z)
    (at : List ℕ → Result (Y × List ℕ) Reason) → Reads view old new (Ok x) at → other z ≡ view x → Reads other old new (Ok z) at
reads_seen view other None new x z at h e = tt
reads_seen view other (Some bytes) None x z at h e = absurd h
reads_seen view other (Some bytes) (Some rest) x z at h e = h ∙ ap (λ y. Ok (y, rest)) (sym e)

-- a fault is the same, however values are seen
pub reads_no_value : {X Z Y : Type 0} (view : X → Y) (other : Z → Y) (old new : Option (List ℕ)) (e : DumpFault)
    (at : List ℕ → Result (Y × List ℕ) Reason) → Reads view old new (Err e) at → Reads other old new (Err e) at
reads_no_value view other None new e at h = tt
reads_no_value view other (Some bytes) None e at h = h
reads_no_value view other (Some bytes) (Some rest) e at h = h
