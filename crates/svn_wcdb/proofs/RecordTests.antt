-- The test of a record is right.
use Rattle.std.proofs.Common.{◌≡◌, ℕ, zero, suc, ◌+◌, ◌-◌, ◌<◌, ◌≤◌, ◌⊎◌, List, [], length, drop, ap, inl, inr, arith}
use Rattle.std.specs.Prelude.{slice_index}
use Rattle.std.specs.Bool.{Decides}
use Rattle.std.proofs.lemmas.Bool.{cases_lt}
use Rattle.std.proofs.lemmas.Bool.Decides.{Decides-eqb, Decides-ltb, Decides-and, Decides-or, Decides-not, Decides-like}
use Rattle.std.proofs.lemmas.List.{nil_from_length}
use Rattle.sqlite_format.specs.Varint.{varint_len, varint_value}
use Rattle.sqlite_record.specs.Serial.{serial_size}
use Rattle.sqlite_record.specs.Strict.{BeginsWithType, TileWithin, Tile, types_of}
use Rattle.svn_wcdb.specs.Records.{begins_with_type, is_empty, tiles, is_record, TellsRecords}
use Rattle.svn_wcdb.proofs.PageTests.{Decides-leb}

empty : (types : List ℕ) (left : ℕ) → Decides (is_empty types left) ((types ≡ []) × (left ≡ 0))
empty types left =
    Decides-like _ (λ t. (nil_from_length types t.0, t.1)) (λ t. (ap length t.0, t.1))
    (Decides-and _ _ (Decides-eqb (length types) 0) (Decides-eqb left 0))

begins : (types : List ℕ) (left : ℕ) → Decides (begins_with_type types left) (BeginsWithType types left)
begins types left =
    Decides-like _
    (λ t. record { whole = t.0; shortest = t.1.0; not_ten = t.1.1.0; not_eleven = t.1.1.1.0; fits = t.1.1.1.1 })
    (λ b. (b.whole, (b.shortest, (b.not_ten, (b.not_eleven, b.fits)))))
    (Decides-and _ _ (Decides-leb (varint_len types) (length types)) (Decides-and _ _ (Decides-not _ (Decides-eqb (slice_index types 0) 128))
    (Decides-and _ _ (Decides-not _ (Decides-eqb (varint_value types) 10)) (Decides-and _ _ (Decides-not _ (Decides-eqb (varint_value types) 11))
    (Decides-leb (serial_size (varint_value types)) left)))))

tiled : (fuel : ℕ) (types : List ℕ) (left : ℕ) → Decides (tiles fuel types left) (TileWithin fuel types left)
tiled zero types left = empty types left
tiled (suc fuel) types left =
    Decides-or _ _ (empty types left)
    (Decides-and _ _ (begins types left) (tiled fuel (drop (varint_len types) types) (left - serial_size (varint_value types))))

narrow : (len value : ℕ) → (len + 127 ≤ value) ⊎ (len ≡ 1) → value < len + 127 → len ≡ 1
narrow len value (inl long) short = absurd (omega (arith, long, short))
narrow len value (inr one) short = one

one_or_long : (len value : ℕ) → (value < len + 127 → len ≡ 1) → (len + 127 ≤ value) ⊎ (len ≡ 1)
one_or_long len value h = elim (cases_lt value (len + 127)) [ inl short ↦ inr (h short) | inr long ↦ inl long ]

pub tells_records : TellsRecords
unfolding is_record Tile
tells_records bytes =
    let len = varint_len bytes in
    let value = varint_value bytes in
    Decides-like _
    (λ t. record { some = t.0; within = t.1.0; short = t.1.1.0; narrow = narrow len value t.1.1.1.0; tiled = t.1.1.1.1 })
    (λ r. (r.some, (r.within, (r.short, (one_or_long len value r.narrow, r.tiled)))))
    (Decides-and _ _ (Decides-ltb len value) (Decides-and _ _ (Decides-leb value (length bytes)) (Decides-and _ _ (Decides-leb value 98307)
    (Decides-and _ _ (Decides-or _ _ (Decides-leb (len + 127) value) (Decides-eqb len 1)) (tiled (length (types_of bytes)) (types_of bytes) (length bytes - value))))))
