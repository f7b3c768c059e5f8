-- Pristine texts have places of their own.
use Rattle.std.proofs.Common.{◌≡◌, ℕ, Bool, true, false, ◌&&◌, not, List, [], ◌∷◌, ◌++◌, take, drop, length, get_or, cond, refl, sym, ◌∙◌, ap, subst, true≢false, append_assoc}
use Rattle.std.specs.Prelude.{bytes_eq, codes, nat_eq, ◌<◌, Option, Some, None}
use Rattle.std.specs.List.{list_all, slice_split, All}
use Rattle.std.specs.Option.{unwrap_or}
use Rattle.std.proofs.lemmas.Bool.{and_parts, eqb-true, not-true}
use Rattle.std.proofs.lemmas.List.{take-append-drop, append_cancel_right}
use Rattle.std.proofs.lemmas.List.Folds.{list_all-append}
use Rattle.std.proofs.lemmas.List.Sums.{AllPass-from_list_all}
use Rattle.std.proofs.lemmas.List.Splits.{slice_split_at, slice_split_none}
use Rattle.std.proofs.lemmas.Slice.Eq.{bytes_eq-Decides}
use Rattle.svn_types.specs.Names.{Path, is_slash, path_of_text}
use Rattle.svn_types.specs.Paths.{is_within}
use Rattle.svn_types.proofs.NameLemmas.{Name}
use Rattle.svn_digits.specs.StandIns.{is_stand_in, is_lower_digit}
use Rattle.svn_wcdb.specs.Pristines.{pristine_path}
use Rattle.svn_disk.specs.Places.{text_below, text_place}

abbrev digits : List ℕ → List ℕ
digits name = drop 6 name

abbrev ending : List ℕ
ending = codes ".svn-base"

abbrev is_plain : ℕ → Bool
is_plain b = not (is_slash b)

digit_plain : (b : ℕ) → is_lower_digit b ≡ true → is_plain b ≡ true
digit_plain b h = by (is_slash b) refl
  where
    by : (x : Bool) → is_slash b ≡ x → not x ≡ true
    by false e = refl
    by true e = absurd (true≢false (sym h ∙ ap is_lower_digit (eqb-true b 47 e)))

digits_plain : (xs : List ℕ) → list_all is_lower_digit xs ≡ true → list_all is_plain xs ≡ true
digits_plain [] h = refl
digits_plain (x ∷ xs) h =
    let parts = and_parts (is_lower_digit x) (list_all is_lower_digit xs) h in
    ap (λ b. b && list_all is_plain xs) (digit_plain x parts.0) ∙ digits_plain xs parts.1

-- no byte is a slash
no_slash : (xs : List ℕ) → list_all is_plain xs ≡ true → All (λ x. is_slash x ≡ false) xs
no_slash xs h k d below = not-true (is_slash (get_or xs k d)) (AllPass-from_list_all is_plain xs h k d below)

first_plain : (xs : List ℕ) → list_all is_plain xs ≡ true → list_all is_plain (take 2 xs) ≡ true
first_plain xs h =
    (and_parts (list_all is_plain (take 2 xs)) (list_all is_plain (drop 2 xs))
    (sym (list_all-append is_plain (take 2 xs) (drop 2 xs)) ∙ ap (list_all is_plain) (take-append-drop 2 xs) ∙ h)).0

split_of : (xs ys : List ℕ) → path_of_text (xs ++ 47 ∷ ys) ≡ slice_split is_slash (xs ++ 47 ∷ ys)
split_of [] ys = refl
split_of (x ∷ xs) ys = refl

-- two names: the first two digits, and all of them with the ending
two_names : (d : List ℕ) → list_all is_plain d ≡ true → path_of_text (((take 2 d ++ codes "/") ++ d) ++ ending) ≡ take 2 d ∷ (d ++ ending) ∷ []
two_names d h =
    let whole : list_all is_plain (d ++ ending) ≡ true = list_all-append is_plain d ending ∙ ap (λ b. b && list_all is_plain ending) h in
    ap path_of_text (append_assoc (take 2 d ++ codes "/") d ending ∙ append_assoc (take 2 d) (codes "/") (d ++ ending))
    ∙ split_of (take 2 d) (d ++ ending)
    ∙ slice_split_at is_slash (take 2 d) 47 (d ++ ending) (no_slash (take 2 d) (first_plain d h)) refl
    ∙ ap (λ (p : Path). take 2 d ∷ p) (slice_split_none is_slash (d ++ ending) (no_slash (d ++ ending) whole))

module _ (name : List ℕ) (is : is_stand_in name ≡ true) where
  parts : (list_all is_lower_digit (digits name) ≡ true) × (take 6 name ≡ codes "$sha1$")
  parts =
      let a = and_parts (nat_eq (length name) 46 && bytes_eq (take 6 name) (codes "$sha1$")) (list_all is_lower_digit (drop 6 name)) is in
      let b = and_parts (nat_eq (length name) 46) (bytes_eq (take 6 name) (codes "$sha1$")) a.0 in
      (a.1, (bytes_eq-Decides (take 6 name) (codes "$sha1$")).0 b.1)

  below_is : text_below name ≡ take 2 (digits name) ∷ (digits name ++ ending) ∷ []
  below_is =
      ap (λ b. path_of_text (unwrap_or (cond b (Some (((take 2 (digits name) ++ codes "/") ++ digits name) ++ ending)) None) [])) is
      ∙ two_names (digits name) (digits_plain (digits name) parts.0)

  whole_is : codes "$sha1$" ++ digits name ≡ name
  whole_is = ap (λ xs. xs ++ digits name) (sym parts.1) ∙ take-append-drop 6 name

below_none : (name : List ℕ) → is_stand_in name ≡ false → text_below name ≡ []
below_none name is =
    ap (λ b. path_of_text (unwrap_or (cond b (Some (((take 2 (digits name) ++ codes "/") ++ digits name) ++ ending)) None) [])) is

same_below : (name t : List ℕ) → is_stand_in name ≡ true → is_within (text_below name) (text_below t) ≡ true → name ≡ t
same_below name t is h = by (is_stand_in t) refl
  where
    within : is_within (take 2 (digits name) ∷ (digits name ++ ending) ∷ []) (text_below t) ≡ true
    within = ap (λ (p : Path). is_within p (text_below t)) (sym (below_is name is)) ∙ h

    by : (b : Bool) → is_stand_in t ≡ b → name ≡ t
    by false e = absurd (true≢false (sym within ∙ ap (is_within (take 2 (digits name) ∷ (digits name ++ ending) ∷ [])) (below_none t e)))
    by true e =
        let both = ap (is_within (take 2 (digits name) ∷ (digits name ++ ending) ∷ [])) (sym (below_is t e)) ∙ within in
        let one = and_parts (bytes_eq (take 2 (digits name)) (take 2 (digits t))) (bytes_eq (digits name ++ ending) (digits t ++ ending) && true) both in
        let two = and_parts (bytes_eq (digits name ++ ending) (digits t ++ ending)) true one.1 in
        let same = append_cancel_right (digits name) (digits t) ending ((bytes_eq-Decides (digits name ++ ending) (digits t ++ ending)).0 two.0) in
        sym (whole_is name is) ∙ ap (λ xs. codes "$sha1$" ++ xs) same ∙ whole_is t e

-- what is at or below the place of a text, and is that of another, is the same
pub same_place : (n : Name) (name t : List ℕ) → is_stand_in name ≡ true → is_within (text_place n name) (text_place n t) ≡ true → name ≡ t
same_place n name t is h = same_below name t is (and_parts (bytes_eq n n) (is_within (text_below name) (text_below t)) h).1

-- a text is in a folder of the pristine texts
pub place_beside : (n : Name) (name : List ℕ) → not (is_within (text_place n name) (n ∷ codes "wc.db" ∷ [])) ≡ true
place_beside n name = not_false (bytes_eq n n)
  where
    not_false : (a : Bool) → not (a && false) ≡ true
    not_false true = refl
    not_false false = refl
