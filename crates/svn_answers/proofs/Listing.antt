-- Texts with a comma between two, written one after another.
use Rattle.std.proofs.Common.{◌≡◌, ℕ, zero, suc, ◌+◌, ◌<◌, ◌≤◌, Bool, true, false, nat_eq, if◌then◌else◌, List, [], ◌∷◌, ◌++◌, length, take, get_or}
use Rattle.std.proofs.Common.{append-nil, append_assoc, arith, refl, sym, ap, subst, ◌∙◌}
use Rattle.std.specs.Fmt.{HasWritten, IsPlainFormatter}
use Rattle.std.specs.declared.fmt.Formatter.{Formatter}
use Rattle.std.specs.List.{flat_map}
use Rattle.std.proofs.Output.{has_written_append, has_written_of_eq}
use Rattle.std.proofs.lemmas.Bool.{ne_eqb}
use Rattle.std.proofs.lemmas.List.{flat_map_more, take_more}
use Rattle.svn_answers.specs.declared.passed_over.Count.{Count}
use Rattle.svn_answers.specs.PassedOver.{comma_if, count_text, count_texts, listed}

abbrev pub has_some : List (List ℕ) → Bool
has_some [] = false
has_some (t ∷ texts) = true

listed_more : (texts : List (List ℕ)) (t : List ℕ) → listed (texts ++ t ∷ []) ≡ listed texts ++ (comma_if (has_some texts) ++ t)
listed_more [] t = refl
listed_more (s ∷ []) t = refl
listed_more (s ∷ u ∷ texts) t =
    ap (λ (l : List ℕ). s ++ (comma_if true ++ l)) (listed_more (u ∷ texts) t)
    ∙ sym (append_assoc s (comma_if true ++ listed (u ∷ texts)) (comma_if true ++ t))

some_more : (texts : List (List ℕ)) (t : List ℕ) → has_some (texts ++ t ∷ []) ≡ true
some_more [] t = refl
some_more (s ∷ texts) t = refl

-- ---- the texts of one more sort

texts_next : (xs : List Count) (i : ℕ) (d : Count) → i < length xs
    → flat_map count_texts (take (i + 1) xs) ≡ flat_map count_texts (take i xs) ++ count_texts (get_or xs i d)
texts_next xs i d within =
    ap (flat_map count_texts) (take_more xs i d within) ∙ sym (flat_map_more count_texts [] (take i xs) (get_or xs i d))

where_some : (n : ℕ) (texts : List (List ℕ)) → 0 < n → (if nat_eq n 0 then [] else texts) ≡ texts
where_some n texts some = ap (λ (b : Bool). if b then [] else texts) (ne_eqb n 0 (λ is. absurd (omega (arith, some, is))))

where_none : (n : ℕ) (texts : List (List ℕ)) → n ≤ 0 → (if nat_eq n 0 then [] else texts) ≡ []
where_none zero texts none = refl
where_none (suc n) texts none = absurd (omega (arith, none))

module _ {W : Type 0} (took : W → List ℕ → W → Type 0) where
  -- the texts are written, and it is known whether there are any
  abbrev pub AreWritten : Formatter W → List (List ℕ) → Formatter W → Bool → Type 0
  AreWritten f texts g more = (IsPlainFormatter f → HasWritten took f (listed texts) g) × (more ≡ has_some texts)

  pub one_written : (f g h : Formatter W) (xs : List Count) (i : ℕ) (d : Count) (more : Bool) → i < length xs → 0 < (get_or xs i d).number
      → AreWritten f (flat_map count_texts (take i xs)) g more
      → (IsPlainFormatter g → HasWritten took g (comma_if more ++ count_text (get_or xs i d)) h)
      → AreWritten f (flat_map count_texts (take (i + 1) xs)) h true
  one_written f g h xs i d more within some before write =
      let t : List ℕ = count_text (get_or xs i d) in
      let texts : List (List ℕ) = flat_map count_texts (take i xs) in
      let next : flat_map count_texts (take (i + 1) xs) ≡ texts ++ t ∷ [] =
      texts_next xs i d within ∙ ap (λ (l : List (List ℕ)). texts ++ l) (where_some (get_or xs i d).number (t ∷ []) some) in
      let same : listed texts ++ (comma_if more ++ t) ≡ listed (texts ++ t ∷ []) =
      ap (λ (b : Bool). listed texts ++ (comma_if b ++ t)) before.1 ∙ sym (listed_more texts t) in
      subst (λ (l : List (List ℕ)). AreWritten f l h true) (sym next) (
        (λ plain.
            has_written_of_eq took f (listed texts ++ (comma_if more ++ t)) (listed (texts ++ t ∷ [])) h same
            (has_written_append took f (listed texts) g (comma_if more ++ t) h (before.0 plain) (write ((before.0 plain).plain)))),
        sym (some_more texts t),
      )

  pub none_written : (f g : Formatter W) (xs : List Count) (i : ℕ) (d : Count) (more : Bool) → i < length xs → (get_or xs i d).number ≤ 0
      → AreWritten f (flat_map count_texts (take i xs)) g more → AreWritten f (flat_map count_texts (take (i + 1) xs)) g more
  none_written f g xs i d more within none before =
      let texts : List (List ℕ) = flat_map count_texts (take i xs) in
      let next : flat_map count_texts (take (i + 1) xs) ≡ texts =
      texts_next xs i d within
      ∙ ap (λ (l : List (List ℕ)). texts ++ l) (where_none (get_or xs i d).number (count_text (get_or xs i d) ∷ []) none)
      ∙ append-nil texts in
      subst (λ (l : List (List ℕ)). AreWritten f l g more) (sym next) before
