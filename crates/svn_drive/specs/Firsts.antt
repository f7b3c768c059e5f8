-- Names in order, and how the first is taken.
--     entries_at h node      the entries of a node
--     InOrder ns      names that are in order, each once
--     earlier a b      the earlier of two names
--     TakesValue name es taken rest      the value under the name is taken where that is the first
use Rattle.std.specs.Prelude.{◌≡◌, ◌≢◌, ℕ, List, [], ◌∷◌, fold, Option, Some, None, if◌then◌else◌}
use denote.Ref.{Bor}
use Rattle.std.specs.Map.{keys_of}
use Rattle.std.specs.BTreeSet.{insert_key}
use Rattle.std.specs.Ordering.{is_lt}
use Rattle.svn_types.specs.Names.{name_cmp}
use Rattle.svn_repo.specs.History.{History}
use Rattle.svn_repo.specs.Readings.{entries_of}

-- the entries of a node; of none, none
abbrev pub entries_at : History → Option ℕ → List (List ℕ × ℕ)
entries_at h None = []
entries_at h (Some n) = entries_of h n

abbrev pub shown_entry : Bor (List ℕ) × Bor ℕ → List ℕ × ℕ
shown_entry e = (e.0.now, e.1.now)

-- the names are in order, each once
abbrev pub InOrder : List (List ℕ) → Type 0
InOrder ns = fold (insert_key name_cmp) [] ns ≡ ns

-- ---- the first name of several lists

abbrev pub first_of : List (List ℕ) → Option (List ℕ)
first_of [] = None
first_of (n ∷ ns) = Some n

abbrev pub first_key : {V : Type 0} → List (List ℕ × V) → Option (List ℕ)
first_key es = first_of (keys_of es)

abbrev pub earlier : Option (List ℕ) → Option (List ℕ) → Option (List ℕ)
earlier None b = b
earlier (Some m) None = Some m
earlier (Some m) (Some n) = if is_lt (name_cmp n m) then Some n else Some m

-- ---- one name is taken

-- the name was the first and is taken, or it isn't the first
abbrev pub TakesValue : {V : Type 0} → List ℕ → List (List ℕ × V) → Option V → List (List ℕ × V) → Type 0
TakesValue name es (Some v) rest = es ≡ (name, v) ∷ rest
TakesValue name es None rest = (rest ≡ es) × (first_key es ≢ Some name)
