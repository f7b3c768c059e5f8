-- What reading gives, or why nothing is read.
--     by_reason read      the same reading, whose fault is one of a database
--     Reads view result read      the result is what reading gives, unless an allocation failed
use Rattle.std.specs.Prelude.{◌≡◌, Result, Ok, Err}
use Rattle.svn_wcdb.specs.declared.fault.Reason.{Reason}
use Rattle.svn_wcrows.specs.declared.fault.RowsFault.{RowsFault}
use Rattle.svn_wcrows.specs.declared.fault.RowsFault.TheVariants.{Refused, Memory}

abbrev pub by_reason : {A : Type 0} → Result A Reason → Result A RowsFault
by_reason (Ok x) = Ok x
by_reason (Err reason) = Err (Refused reason)

-- the fault is the one that reading meets, or none of the bytes'
abbrev pub Fails : {Y : Type 0} → RowsFault → Result Y RowsFault → Type 0
Fails Memory read = Unit {0}
Fails fault read = read ≡ Err fault

abbrev pub Reads : {X Y : Type 0} → (X → Y) → Result X RowsFault → Result Y RowsFault → Type 0
Reads view (Ok x) read = read ≡ Ok (view x)
Reads view (Err fault) read = Fails fault read
