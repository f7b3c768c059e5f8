-- What slots hold, and what holds of them. No public clause cites this file.
use Rattle.std.specs.Prelude.{◌≡◌, ◌≢◌, ℕ, ◌-◌, ◌<◌, ◌≤◌, List, map, filter_map, length, Option, None, IsSome, option_map, slice_index}
use Rattle.std.specs.Prelude.{slice_index_or}
use Rattle.std.specs.List.Sorted.{IsStrictlySortedBy}
use Rattle.std.specs.Ordering.{nat_cmp}
use Rattle.svn_serials.specs.declared.slots.Slot.{Slot}

module _ {V : Type 0} where
  -- the pair of a slot with a value
  abbrev pub pair_of : Slot V → Option (ℕ × V)
  pair_of s = option_map (λ v. (s.serial, v)) s.value

  -- the pairs of the slots with values
  abbrev pub held : List (Slot V) → List (ℕ × V)
  held slots = filter_map pair_of slots

  abbrev pub serials_of : List (Slot V) → List ℕ
  serials_of slots = map (λ s. s.serial) slots

  abbrev pub values_in : List (Slot V) → List (Option V)
  values_in slots = map (λ s. s.value) slots

  -- each serial is below those after it
  abbrev pub IsInOrder : List (Slot V) → Type 0
  IsInOrder slots = IsStrictlySortedBy nat_cmp (serials_of slots)

  -- the last slot, if there is one, has a value
  abbrev pub EndsFilled : List (Slot V) → Type 0
  EndsFilled slots = 0 < length slots → IsSome (slice_index_or (values_in slots) (length slots - 1) None)

  -- the serial q is in the slot at i
  abbrev pub IsAt : List (Slot V) → ℕ → ℕ → Type 0
  IsAt slots q i = (i < length slots) × (slice_index (serials_of slots) i ≡ q)

  -- the serial q is in no slot
  abbrev pub IsNowhere : List (Slot V) → ℕ → Type 0
  IsNowhere slots q = (k : ℕ) → k < length slots → slice_index (serials_of slots) k ≢ q

  -- all serials before i are below q, and those from i on above it
  abbrev pub IsGap : List (Slot V) → ℕ → ℕ → Type 0
  IsGap slots q i =
      (i ≤ length slots) × ((k : ℕ) → k < i → slice_index (serials_of slots) k < q)
      × ((k : ℕ) → i ≤ k → k < length slots → q < slice_index (serials_of slots) k)

  -- the value of the serial q is in the slot at i
  pub record IsFilledAt (slots : List (Slot V)) (q i : ℕ) : Type 0 where
    pub within : i < length slots
    pub serial : slice_index (serials_of slots) i ≡ q
    pub value : IsSome (slice_index_or (values_in slots) i None)

  -- what a map keeps of its fields
  pub record IsSound (slots : List (Slot V)) (filled : ℕ) : Type 0 where
    pub order : IsInOrder slots
    pub ends : EndsFilled slots
    pub counted : filled ≡ length (held slots)
