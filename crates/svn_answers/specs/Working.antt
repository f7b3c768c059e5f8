-- The files of a working copy, compared with their pristine texts.
--     is_translated props      the client writes a file with these properties in other bytes than its pristine text has
--     AreCompared file text same      whether both have the same bytes, where those are known
--     IsAtItsEnd before at_end      whether no byte is left, where they are known
--     IsNext before after wanted same      whether the next bytes are the wanted ones, which are then read
use Rattle.std.specs.Prelude.{◌≡◌, ℕ, Bool, true, false, ◌||◌, List, [], ◌∷◌, ◌++◌, Option, IfSome, bytes_eq, codes}
use Rattle.std.specs.List.{list_any}
use Rattle.std.specs.Io.KnownBytes.{Consumes}

-- line ends, keywords, and symbolic links (`svn_subst.h`)
abbrev pub is_translation : List ℕ → Bool
is_translation name =
    bytes_eq name (codes "svn:eol-style") || bytes_eq name (codes "svn:keywords") || bytes_eq name (codes "svn:special")

abbrev pub is_translated : List (List ℕ × List ℕ) → Bool
is_translated props = list_any (λ (e : List ℕ × List ℕ). is_translation e.0) props

abbrev pub AreCompared : Option (List ℕ) → Option (List ℕ) → Bool → Type 0
AreCompared file text same = IfSome file (λ bytes. IfSome text (λ others. same ≡ bytes_eq bytes others))

abbrev pub IsAtItsEnd : Option (List ℕ) → Bool → Type 0
IsAtItsEnd before at_end = IfSome before (λ bytes. at_end ≡ bytes_eq bytes [])

abbrev pub IsNext : Option (List ℕ) → Option (List ℕ) → List ℕ → Bool → Type 0
IsNext before after wanted true = Consumes before after wanted
IsNext before after wanted false = IfSome before (λ bytes. (rest : List ℕ) → bytes ≡ wanted ++ rest → ⊥)
