-- The names directly below a path at which a report has entries, at the name or below it.
--     names_in p es      the name that leads from p down to an entry, for each entry below p
--     reported_names p es      those names in their order, each once
--     IsNextName p es after found      the first name at or below which there is an entry, or the first after a name
--     names_after after names      those of sorted names that come after a name
use Rattle.std.specs.Prelude.{◌≡◌, ℕ, Bool, true, false, List, [], ◌∷◌, ◌++◌, fold, bytes_eq, Option, Some, None, MatchOption}
use Rattle.std.specs.Prelude.{if◌then◌else◌}
use Rattle.std.specs.List.{list_any}
use Rattle.std.specs.BTreeSet.{insert_key}
use Rattle.std.specs.declared.cmp.Ordering.TheVariants.{Less}
use Rattle.std.specs.Ordering.{is_lt}
use Rattle.svn_types.specs.Names.{Path, name_cmp}
use Rattle.svn_types.specs.Paths.{is_within, child}
use Rattle.svn_report.specs.Reports.{Entries}

-- the next name of the second path after the first, if it is below it
abbrev pub next_name : Path → Path → List (List ℕ)
next_name [] [] = []
next_name [] (n ∷ q) = n ∷ []
next_name (m ∷ p) [] = []
next_name (m ∷ p) (n ∷ q) = if bytes_eq m n then next_name p q else []

abbrev pub names_in : Path → Entries → List (List ℕ)
names_in p [] = []
names_in p (e ∷ es) = next_name p e.0 ++ names_in p es

abbrev pub reported_names : Path → Entries → List (List ℕ)
reported_names p es = fold (insert_key name_cmp) [] (names_in p es)

-- an entry is at the path or below it
abbrev pub has_entry_within : Entries → Path → Bool
has_entry_within es p = list_any (λ e. is_within p e.0) es

-- every name comes after none
abbrev pub ComesAfter : Option (List ℕ) → List ℕ → Type 0
ComesAfter None n = Unit {0}
ComesAfter (Some m) n = name_cmp m n ≡ Less

-- the first name after one, or of all, at or below which there is an entry
abbrev pub IsNextName : Path → Entries → Option (List ℕ) → Option (List ℕ) → Type 0
IsNextName p es after found =
    MatchOption found ((n : List ℕ) → ComesAfter after n → has_entry_within es (child p n) ≡ false)
    (λ n. ComesAfter after n × (has_entry_within es (child p n) ≡ true)
    × ((m : List ℕ) → ComesAfter after m → has_entry_within es (child p m) ≡ true → name_cmp m n ≡ Less → ⊥))

abbrev pub comes_after : Option (List ℕ) → List ℕ → Bool
comes_after None n = true
comes_after (Some m) n = is_lt (name_cmp m n)

abbrev pub names_after : Option (List ℕ) → List (List ℕ) → List (List ℕ)
names_after after [] = []
names_after after (n ∷ ns) = if comes_after after n then n ∷ ns else names_after after ns

-- the next name, if there is one, and those that come after it
abbrev pub names_from : Option (List ℕ) → List (List ℕ) → List (List ℕ)
names_from None ns = []
names_from (Some n) ns = n ∷ names_after (Some n) ns
