-- Lists that are cut at the elements that pass a test: bytes at a separator, a text at its first slash.
use Rattle.std.proofs.Common.{◌≡◌, ℕ, ◌<◌, false, cond, List, ◌∷◌, length, arith}
use Rattle.std.proofs.Common.{Option, Some, None, MatchOption, ◌+◌, length-drop, ap, sym, ◌∙◌, nat_eq, nat_lt}
use Rattle.std.specs.List.{slice_split, position, position_or_len, before_first, after_first}
use Rattle.std.proofs.lemmas.List.Splits.{slice_split_first}
use Rattle.std.proofs.lemmas.Bool.Decides.{nat_tests}
use Rattle.std.proofs.lemmas.Bool.{lt-ltb}
use Rattle.memchr.specs.Find.{IsFirstByte, is_byte}
use denote.Ref.{Bor}
use Rattle.svn_lists.proofs.Splits.{slice_split_whole, position_is}
use Rattle.svn_types.specs.Names.{is_slash}
use Rattle.svn_types.specs.NameSplits.{IsNameSplit}

not_less_itself : (n : ℕ) → nat_lt n n ≡ false
not_less_itself n = grind (arith, nat_tests)

-- the first place of a byte, as a search finds it
pub first_place : (b : ℕ) (xs : List ℕ) (r : Option ℕ) → IsFirstByte (is_byte b) xs r → r ≡ position (λ x. nat_eq x b) xs
first_place b xs None h =
    sym (position_is (λ x. nat_eq x b) xs (length xs) (omega arith) (λ k. h k (omega arith)) (λ l. absurd (omega (arith, l)))
    ∙ ap (λ c. cond c (Some (length xs)) None) (not_less_itself (length xs)))
first_place b xs (Some i) h =
    sym (position_is (λ x. nat_eq x b) xs i (omega (arith, h.0.high)) (λ k. h.0.before k (omega arith)) (λ _. h.1)
    ∙ ap (λ c. cond c (Some i) None) (lt-ltb i (length xs) h.0.high))

-- what `split_once` says, in terms of the parts
pub name_split : (s : List ℕ) (r : Option (Bor (List ℕ) × Bor (List ℕ)))
    → MatchOption r (position_or_len is_slash s ≡ length s)
    (λ x. (x.0.now ≡ before_first is_slash s) × (x.1.now ≡ after_first is_slash s) × (position_or_len is_slash s < length s))
    → IsNameSplit s r
name_split s None h = slice_split_whole is_slash s h
name_split s (Some x) h = (
  slice_split_first is_slash s 0 h.2 ∙ sym (ap (λ y. y ∷ slice_split is_slash (after_first is_slash s)) h.0)
      ∙ sym (ap (λ y. x.0.now ∷ slice_split is_slash y) h.1),
  rw h.1 (omega (arith, length-drop (position_or_len is_slash s + 1) s, h.2)),
)
