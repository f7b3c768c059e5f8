-- What an index has after a text was noted.
use Rattle.std.proofs.Common.{◌≡◌, ℕ, ◌-◌, List, Bool, true, false, cond, Option, Some, sym, ap, ◌∙◌, ◌⊎◌, inl, inr}
use Rattle.std.specs.Ordering.{nat_cmp}
use Rattle.std.specs.Cmp.Lexicographic.{slice_cmp}
use Rattle.std.specs.BTreeMap.{get_by, is_at, UpdatesBy}
use Rattle.svn_dump.specs.declared.index.DumpIndex.{DumpIndex}
use Rattle.svn_dump.specs.declared.index.TextPlace.{TextPlace}
use Rattle.svn_dump.specs.Indexes.{place_of, NotesText}

new_place : (here : Bool) (value place : TextPlace) (before after : Option TextPlace) (end : ℕ) → value.begin ≡ end - value.len
    → after ≡ cond here (Some value) before → after ≡ Some place → (before ≡ Some place) ⊎ (place.begin ≡ end - place.len)
new_place true value place before after end begins updated is =
    let same : value ≡ place = some_same value place (sym updated ∙ is) in
    inr (sym (ap (λ (p : TextPlace). p.begin) same) ∙ begins ∙ ap (λ (p : TextPlace). end - p.len) same)
  where
    some_same : (a b : TextPlace) → Some a ≡ Some b → a ≡ b
    some_same a b e = cc
new_place false value place before after end begins updated is = inl (sym updated ∙ is)

-- one more place
pub one_noted : (old new : DumpIndex) (key : List ℕ) (value : TextPlace) (end : ℕ) → value.begin ≡ end - value.len
    → UpdatesBy (slice_cmp nat_cmp) (slice_cmp nat_cmp key) old.texts new.texts (Some value) → NotesText end old new
one_noted old new key value end begins updates = λ sum place is.
    new_place (is_at (slice_cmp nat_cmp key) sum) value place (place_of old sum) (place_of new sum) end begins (updates.0 sum) is

-- no other place
pub none_noted : (old new : DumpIndex) (end : ℕ) → new.texts ≡ old.texts → NotesText end old new
none_noted old new end same = λ sum place is. inl (sym (ap (λ m. get_by (slice_cmp nat_cmp sum) m) same) ∙ is)
