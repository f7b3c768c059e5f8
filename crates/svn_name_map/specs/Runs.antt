-- Pairs in order of their names, and where a name is among them. No public clause cites this file.
--     joined      the pairs of runs, one run after the other
--     IsBelow, IsAbove      a name is after, or before, all names of some pairs
--     IsFoundAt, IsPlaceFor      where a name is, or where it would
--     IsRunFor      the run in which a name is or would be
use Rattle.std.specs.Prelude.{◌≡◌, ℕ, suc, ◌<◌, ◌≤◌, List, length, take, drop, slice_get, Some}
use Rattle.std.specs.List.{AllByRecursion, flat_map}
use Rattle.std.specs.Map.{keys_of}
use Rattle.std.specs.declared.cmp.Ordering.TheVariants.{Less}
use Rattle.svn_types.specs.Names.{name_cmp}

module _ {V : Type 0} where
  abbrev pub joined : List (List (List ℕ × V)) → List (List ℕ × V)
  joined runs = flat_map (λ r. r) runs

  -- each name of the pairs is before the name
  abbrev pub IsBelow : List ℕ → List (List ℕ × V) → Type 0
  IsBelow name es = AllByRecursion (λ q. name_cmp q name ≡ Less) (keys_of es)

  -- each name of the pairs is after the name
  abbrev pub IsAbove : List ℕ → List (List ℕ × V) → Type 0
  IsAbove name es = AllByRecursion (λ q. name_cmp name q ≡ Less) (keys_of es)

  -- the name is at a place
  abbrev pub IsFoundAt : List (List ℕ × V) → List ℕ → ℕ → Type 0
  IsFoundAt es name i = (i < length es) × (slice_get (keys_of es) i ≡ Some name)

  -- the name is nowhere, and would be at a place
  abbrev pub IsPlaceFor : List (List ℕ × V) → List ℕ → ℕ → Type 0
  IsPlaceFor es name i = (i ≤ length es) × IsBelow name (take i es) × IsAbove name (drop i es)

  -- the name is in no other run than this one
  abbrev pub IsRunFor : List (List (List ℕ × V)) → List ℕ → ℕ → Type 0
  IsRunFor runs name i = (i < length runs) × IsBelow name (joined (take i runs)) × IsAbove name (joined (drop (suc i) runs))
