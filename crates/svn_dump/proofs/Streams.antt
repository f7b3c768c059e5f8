-- What is read off a reader, byte after byte.
use Rattle.std.proofs.Common.{◌≡◌, ℕ, List, [], ◌∷◌, ◌++◌, Option, Some, None, Result, Ok, Err, refl, sym, ap, subst, ◌∙◌}
use Rattle.std.specs.Io.KnownBytes.{Consumes, IsAtEnd}
use Rattle.svn_dump.specs.declared.fault.Reason.{Reason}
use Rattle.svn_dump.specs.declared.fault.DumpFault.{DumpFault}
use Rattle.svn_dump.specs.declared.fault.DumpFault.TheVariants as faults
use Rattle.svn_dump.specs.Reading.{Fails, GivesFront, Reads}
use Rattle.svn_dump.specs.Blocks.{byte_at}

-- what there was is read as what is left is read from here on
abbrev pub Continues : {X : Type 0} → Option (List ℕ) → Option (List ℕ) → (List ℕ → X) → (List ℕ → X) → Type 0
Continues None now at next = Unit {0}
Continues (Some bytes) None at next = ⊥
Continues (Some bytes) (Some rest) at next = at bytes ≡ next rest

pub begins : {X : Type 0} (known : Option (List ℕ)) (at : List ℕ → X) → Continues known known at at
begins None at = tt
begins (Some bytes) at = refl

pub reads_on : {X Y : Type 0} (view : X → Y) (old now new : Option (List ℕ)) (result : Result X DumpFault)
    (at next : List ℕ → Result (Y × List ℕ) Reason) → Continues old now at next → Reads view now new result next → Reads view old new result at
reads_on view None now new result at next c h = tt
reads_on view (Some bytes) None new result at next c h = absurd c
reads_on view (Some bytes) (Some rest) None (Ok x) at next c h = absurd h
reads_on view (Some bytes) (Some rest) None (Err e) at next c h = subst (λ read. Fails e read) (sym c) h
reads_on view (Some bytes) (Some rest) (Some left) result at next c h = subst (λ read. GivesFront view result left read) (sym c) h

-- what was read, and what is after it
abbrev read_of : {A : Type 0} → A → Result (A × List ℕ) Reason → A
read_of none (Ok x) = x.0
read_of none (Err e) = none

abbrev rest_of : {A : Type 0} → Result (A × List ℕ) Reason → List ℕ
rest_of (Ok x) = x.1
rest_of (Err e) = []

one_more : {X : Type 0} (bytes left : List ℕ) (b : ℕ) (next later : List ℕ → X) → byte_at bytes ≡ Ok (Some b, left)
    → ((bs : List ℕ) → next (b ∷ bs) ≡ later bs) → next bytes ≡ later left
one_more [] left b next later e step =
    let first : None ≡ Some b = ap (read_of None) e in
    cc
one_more (a ∷ bytes) left b next later e step =
    let some : Some a ≡ Some b = ap (read_of None) e in
    let first : a ≡ b = cc in
    let rest : bytes ≡ left = ap rest_of e in
    subst (λ c. next (c ∷ bytes) ≡ later left) (sym first) (subst (λ (bs : List ℕ). next (b ∷ bytes) ≡ later bs) rest (step bytes))

-- one more byte was read
pub goes_on : {X : Type 0} (old now new : Option (List ℕ)) (b : ℕ) (at next later : List ℕ → X) → Continues old now at next
    → Reads (λ byte. byte) now new (Ok (Some b)) byte_at → ((bs : List ℕ) → next (b ∷ bs) ≡ later bs) → Continues old new at later
goes_on None now new b at next later c h step = tt
goes_on (Some bytes) None new b at next later c h step = absurd c
goes_on (Some bytes) (Some rest) None b at next later c h step = absurd h
goes_on (Some bytes) (Some rest) (Some left) b at next later c h step = c ∙ one_more rest left b next later h step

-- several bytes more were taken
pub takes_on : {X : Type 0} (old now new : Option (List ℕ)) (front : List ℕ) (at next later : List ℕ → X) → Continues old now at next
    → Consumes now new front → ((bs : List ℕ) → next (front ++ bs) ≡ later bs) → Continues old new at later
takes_on None now new front at next later c h step = tt
takes_on (Some bytes) None new front at next later c h step = absurd c
takes_on (Some bytes) (Some rest) None front at next later c h step = absurd h
takes_on (Some bytes) (Some rest) (Some left) front at next later c h step = c ∙ ap next h ∙ step left

pub reads_value : {X Y : Type 0} (view : X → Y) (known : Option (List ℕ)) (x : X) → Reads view known known (Ok x) (λ bs. Ok (view x, bs))
reads_value view None x = tt
reads_value view (Some bytes) x = refl

pub reads_refusal : {X Y : Type 0} (view : X → Y) (known : Option (List ℕ)) (reason : Reason)
    → Reads view known known (Err (faults.Refused reason)) (λ bs. Err reason)
reads_refusal view None reason = tt
reads_refusal view (Some bytes) reason = refl

-- one more byte was read, the last
pub ends_at : {X Y : Type 0} (view : X → Y) (old now new : Option (List ℕ)) (b : ℕ) (x : X) (at next : List ℕ → Result (Y × List ℕ) Reason)
    → Continues old now at next → Reads (λ byte. byte) now new (Ok (Some b)) byte_at → ((bs : List ℕ) → next (b ∷ bs) ≡ Ok (view x, bs))
    → Reads view old new (Ok x) at
ends_at view old now new b x at next c h step =
    reads_on view old new new (Ok x) at (λ bs. Ok (view x, bs)) (goes_on old now new b at next (λ bs. Ok (view x, bs)) c h step) (reads_value view new x)

-- one more byte was read, which is refused
pub refuses_at : {X Y : Type 0} (view : X → Y) (old now new : Option (List ℕ)) (b : ℕ) (reason : Reason)
    (at next : List ℕ → Result (Y × List ℕ) Reason) → Continues old now at next → Reads (λ byte. byte) now new (Ok (Some b)) byte_at
    → ((bs : List ℕ) → next (b ∷ bs) ≡ Err reason) → Reads view old new (Err (faults.Refused reason)) at
refuses_at view old now new b reason at next c h step =
    reads_on view old new new (Err (faults.Refused reason)) at (λ bs. Err reason) (goes_on old now new b at next (λ bs. Err reason) c h step) (reads_refusal view new reason)

no_more : (bytes left : List ℕ) → byte_at bytes ≡ Ok (None, left) → (bytes ≡ []) × (left ≡ [])
no_more [] left e = (refl, sym (ap rest_of e))
no_more (a ∷ bytes) left e =
    let first : Some a ≡ None = ap (read_of None) e in
    cc

-- there was no more byte
pub stops : {X Y : Type 0} (view : X → Y) (old now new : Option (List ℕ)) (result : Result X DumpFault)
    (at next : List ℕ → Result (Y × List ℕ) Reason) → Continues old now at next → Reads (λ byte. byte) now new (Ok None) byte_at
    → GivesFront view result [] (next []) → Reads view old new result at
stops view None now new result at next c h end = tt
stops view (Some bytes) None new result at next c h end = absurd c
stops view (Some bytes) (Some rest) None result at next c h end = absurd h
stops view (Some bytes) (Some rest) (Some left) result at next c h end =
    let none = no_more rest left h in
    let same : next [] ≡ at bytes = ap next (sym none.0) ∙ sym c in
    subst (λ (bs : List ℕ). GivesFront view result bs (at bytes)) (sym none.1) (subst (λ read. GivesFront view result [] read) same end)

no_fault : (bytes : List ℕ) (reason : Reason) → byte_at bytes ≡ Err reason → ⊥
no_fault [] reason e = cc
no_fault (b ∷ bytes) reason e = cc

fails_so : {Y : Type 0} (e : DumpFault) (bytes : List ℕ) (read : Result Y Reason) → Fails e (byte_at bytes) → Fails e read
fails_so (faults.Refused reason) bytes read h = absurd (no_fault bytes reason h)
fails_so faults.Read bytes read h = tt
fails_so faults.Memory bytes read h = tt

-- the reader failed
pub breaks : {X Y : Type 0} (view : X → Y) (old now new : Option (List ℕ)) (e : DumpFault) (at next : List ℕ → Result (Y × List ℕ) Reason)
    → Continues old now at next → Reads (λ byte. byte) now new (Err e) byte_at → Reads view old new (Err e) at
breaks view None now new e at next c h = tt
breaks view (Some bytes) None new e at next c h = absurd c
breaks view (Some bytes) (Some rest) None e at next c h = fails_so e rest (at bytes) h
breaks view (Some bytes) (Some rest) (Some left) e at next c h = fails_so e rest (at bytes) h

-- ---- one byte

pub byte_read : (old new : Option (List ℕ)) (b : ℕ) → Consumes old new (b ∷ []) → Reads (λ byte. byte) old new (Ok (Some b)) byte_at
byte_read None new b h = tt
byte_read (Some xs) None b h = absurd h
byte_read (Some xs) (Some ys) b h = ap byte_at h

pub end_read : (old new : Option (List ℕ)) → Consumes old new [] → IsAtEnd new → Reads (λ byte. byte) old new (Ok None) byte_at
end_read None new h end = tt
end_read (Some xs) None h end = absurd h
end_read (Some xs) (Some ys) h end = ap byte_at (h ∙ end) ∙ ap (λ (l : List ℕ). Ok (None, l)) (sym end)

pub nothing_read : (old new : Option (List ℕ)) → Reads (λ byte. byte) old new (Err faults.Read) byte_at
nothing_read None new = tt
nothing_read (Some xs) None = tt
nothing_read (Some xs) (Some ys) = tt
