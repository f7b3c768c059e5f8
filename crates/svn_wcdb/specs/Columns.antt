-- The columns of a record.
--     column bytes c      the value in column c of a record, counted from 0: NULL where it has fewer
--     AreColumns n values bytes      these are the first n columns of a record
--     text_in, bytes_in, number_in table c value      the value of column c of a table, if it has that type
--     number_at c bytes, path_at bytes      the number in column c of a record; the path in it, which NODES and other tables have in the same column
use Rattle.std.specs.Prelude.{◌≡◌, ◌<◌, get_or, nat_eq, ℕ, zero, suc, pos, Bool, true, false, List, [], ◌∷◌, Option, Some, None, Result, Ok, Err}
use Rattle.sqlite_value.specs.declared.value.Value.{Value}
use Rattle.sqlite_value.specs.declared.value.Value.TheVariants.{Null, Int, Text, Blob}
use Rattle.sqlite_value.specs.Order.{Row}
use Rattle.sqlite_value.specs.declared.value.ValueRef.{ValueRef}
use Rattle.sqlite_value.specs.declared.value.ValueRef.TheVariants as lent
use Rattle.sqlite_value.specs.Value.{owned}
use Rattle.sqlite_record.specs.Record.{decode}
use Rattle.svn_wcdb.specs.declared.fault.Reason.{Reason}
use Rattle.svn_wcdb.specs.declared.fault.Reason.TheVariants.{BadColumn}
use Rattle.svn_wcdb.specs.declared.fault.TableName.{TableName}
use Rattle.svn_wcdb.specs.declared.fault.TableName.TheVariants as tables

abbrev pub column_in : Row → ℕ → Value
column_in [] c = Null
column_in (value ∷ values) zero = value
column_in (value ∷ values) (suc c) = column_in values c

abbrev pub column : List ℕ → ℕ → Value
column bytes c = column_in (decode bytes) c

abbrev pub AreColumns : ℕ → List ValueRef → List ℕ → Type 0
AreColumns n values bytes = (c : ℕ) → c < n → owned (get_or values c lent.Null) ≡ column bytes c

abbrev pub text_in : TableName → ℕ → Value → Result (Option (List ℕ)) Reason
text_in table c Null = Ok None
text_in table c (Text text) = Ok (Some text)
text_in table c _ = Err (BadColumn table c)

-- the bytes of a blob, or of a text, which Subversion reads as a blob too
abbrev pub bytes_in : TableName → ℕ → Value → Result (Option (List ℕ)) Reason
bytes_in table c Null = Ok None
bytes_in table c (Blob bytes) = Ok (Some bytes)
bytes_in table c (Text text) = Ok (Some text)
bytes_in table c _ = Err (BadColumn table c)

-- a number from 0 on
abbrev pub number_in : TableName → ℕ → Value → Result (Option ℕ) Reason
number_in table c Null = Ok None
number_in table c (Int (pos n)) = Ok (Some n)
number_in table c _ = Err (BadColumn table c)

abbrev pub value_or_none : {A : Type 0} → Result (Option A) Reason → Option A
value_or_none (Ok value) = value
value_or_none (Err reason) = None

abbrev pub number_at : ℕ → List ℕ → Option ℕ
number_at c bytes = value_or_none (number_in tables.Nodes c (column bytes c))

abbrev pub path_at : List ℕ → Option (List ℕ)
path_at bytes = value_or_none (text_in tables.Nodes 1 (column bytes 1))

abbrev pub is_number : Option ℕ → ℕ → Bool
is_number None n = false
is_number (Some m) n = nat_eq m n

abbrev pub is_null : Value → Bool
is_null Null = true
is_null _ = false

-- neither NULL nor 0
abbrev pub is_set : Value → Bool
is_set Null = false
is_set (Int (pos zero)) = false
is_set _ = true
