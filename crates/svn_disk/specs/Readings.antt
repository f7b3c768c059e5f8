-- What text of a repository a file on disk may be: its bytes without values of keywords, and with other line ends (svn_subst.h).
--     Rewrites R shown kept      part by part, what is kept is what is shown, or R says how it is written otherwise
--     IsKeyword shown kept      a keyword with a value, and how it is kept: without the value, or with blanks in its place
--     AreEnds shown kept      both end a line
--     IsReading shown text      a file with these bytes may be this text
use Rattle.std.specs.Prelude.{◌≡◌, ◌⊎◌, ℕ, Bool, true, ◌||◌, not, nat_eq, bytes_eq, List, [], ◌∷◌, ◌++◌, length, replicate, codes, ⊤}
use Rattle.std.specs.List.{list_all, flat_map}

abbrev pub EachPart : (List ℕ → List ℕ → Type 0) → List (List ℕ × List ℕ) → Type 0
EachPart R [] = ⊤
EachPart R (part ∷ parts) = ((part.0 ≡ part.1) ⊎ R part.0 part.1) × EachPart R parts

pub record Rewrites (R : List ℕ → List ℕ → Type 0) (shown kept : List ℕ) : Type 0 where
  pub parts : List (List ℕ × List ℕ)
  pub each : EachPart R parts
  pub shown_is : flat_map (λ part. part.0) parts ≡ shown
  pub kept_is : flat_map (λ part. part.1) parts ≡ kept

-- ---- keywords

-- no dollar sign, and no byte that ends a line
abbrev pub is_plain : ℕ → Bool
is_plain b = not (nat_eq b 36 || nat_eq b 10 || nat_eq b 13)

-- with blanks in place of its value, it is as long as it was
pub record IsBlanked (name shown kept : List ℕ) : Type 0 where
  pub blanks : ℕ
  pub kept_is : kept ≡ codes "$" ++ name ++ codes "::" ++ replicate blanks 32 ++ codes "$"
  pub long : length kept ≡ length shown

pub record IsKeyword (shown kept : List ℕ) : Type 0 where
  pub name : List ℕ
  pub value : List ℕ
  pub plain : list_all is_plain (name ++ codes ":" ++ value) ≡ true
  pub shown_is : shown ≡ codes "$" ++ name ++ codes ":" ++ value ++ codes "$"
  pub kept_is : (kept ≡ codes "$" ++ name ++ codes "$") ⊎ IsBlanked name shown kept

-- ---- line ends

abbrev pub is_end : List ℕ → Bool
is_end bytes = bytes_eq bytes (10 ∷ []) || bytes_eq bytes (13 ∷ []) || bytes_eq bytes (13 ∷ 10 ∷ [])

abbrev pub AreEnds : List ℕ → List ℕ → Type 0
AreEnds shown kept = (is_end shown ≡ true) × (is_end kept ≡ true)

-- ---- both

pub record IsReading (shown text : List ℕ) : Type 0 where
  pub plain : List ℕ
  pub without : Rewrites IsKeyword shown plain
  pub ends : Rewrites AreEnds plain text
