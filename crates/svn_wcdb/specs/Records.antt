-- Whole records.
--     is_record bytes      whether the bytes are a record that SQLite reads without complaint: the test for `IsRecord` of sqlite_record
use Rattle.std.specs.Prelude.{◌↔◌, IsTrue, ℕ, zero, suc, ◌+◌, ◌-◌, Bool, not, ◌&&◌, ◌||◌, List, length, drop, slice_index, nat_eq, nat_le, nat_lt}
use Rattle.sqlite_format.specs.Varint.{varint_len, varint_value}
use Rattle.sqlite_record.specs.Serial.{serial_size}
use Rattle.sqlite_record.specs.Strict.{types_of, IsRecord}

-- a whole type, of a value of at most `left` bytes
abbrev pub begins_with_type : List ℕ → ℕ → Bool
begins_with_type types left =
    nat_le (varint_len types) (length types) && (not (nat_eq (slice_index types 0) 128) && (not (nat_eq (varint_value types) 10)
    && (not (nat_eq (varint_value types) 11) && nat_le (serial_size (varint_value types)) left)))

abbrev pub is_empty : List ℕ → ℕ → Bool
is_empty types left = nat_eq (length types) 0 && nat_eq left 0

-- types whose values take `left` bytes together
abbrev pub tiles : ℕ → List ℕ → ℕ → Bool
tiles zero types left = is_empty types left
tiles (suc fuel) types left =
    is_empty types left
    || (begins_with_type types left && tiles fuel (drop (varint_len types) types) (left - serial_size (varint_value types)))

unfoldable pub is_record : List ℕ → Bool
is_record bytes =
    nat_lt (varint_len bytes) (varint_value bytes) && (nat_le (varint_value bytes) (length bytes) && (nat_le (varint_value bytes) 98307
    && ((nat_le (varint_len bytes + 127) (varint_value bytes) || nat_eq (varint_len bytes) 1)
    && tiles (length (types_of bytes)) (types_of bytes) (length bytes - varint_value bytes))))

-- the test is right
abbrev pub TellsRecords : Type 0
TellsRecords = (bytes : List ℕ) → IsTrue (is_record bytes) ↔ IsRecord bytes
