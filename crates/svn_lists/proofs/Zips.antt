-- Two lists side by side, and pairs that they make.
use Rattle.std.proofs.Common.{List, [], ap, arith, drop, length, refl, suc, sym, take, zero, ℕ, ◌∙◌, ◌∷◌, ◌≡◌}
use Rattle.std.specs.List.{insert, remove, zip}
use Rattle.std.specs.Map.{keys_of, values_of}
use Rattle.std.proofs.lemmas.List.{length-map}
use Rattle.std.proofs.lemmas.Slice.Zip.{length-zip}

module _ {K V : Type 0} where
  pub zip_parts : (es : List (K × V)) → zip (keys_of es) (values_of es) ≡ es
  zip_parts [] = refl
  zip_parts (e ∷ es) = ap (λ (l : List (K × V)). e ∷ l) (zip_parts es)

  pub zip-take : (i : ℕ) (ks : List K) (vs : List V) → zip (take i ks) (take i vs) ≡ take i (zip ks vs)
  zip-take zero ks vs = refl
  zip-take (suc i) [] vs = refl
  zip-take (suc i) (k ∷ ks) [] = refl
  zip-take (suc i) (k ∷ ks) (v ∷ vs) = ap (λ (l : List (K × V)). (k, v) ∷ l) (zip-take i ks vs)

  pub zip-drop : (i : ℕ) (ks : List K) (vs : List V) → length vs ≡ length ks → zip (drop i ks) (drop i vs) ≡ drop i (zip ks vs)
  zip-drop zero ks vs even = refl
  zip-drop (suc i) [] vs even = refl
  zip-drop (suc i) (k ∷ ks) [] even = absurd (omega arith)
  zip-drop (suc i) (k ∷ ks) (v ∷ vs) even = zip-drop i ks vs (omega arith)

  pub length-pairs : (ks : List K) (vs : List V) → length vs ≡ length ks → length (zip ks vs) ≡ length vs
  length-pairs ks vs even = omega (arith, length-zip ks vs)

  pub zip-insert : (ks : List K) (vs : List V) (i : ℕ) (k : K) (v : V) → length vs ≡ length ks
      → zip (insert ks i k) (insert vs i v) ≡ insert (zip ks vs) i (k, v)
  zip-insert ks vs zero k v even = refl
  zip-insert [] [] (suc i) k v even = refl
  zip-insert [] (w ∷ vs) (suc i) k v even = absurd (omega arith)
  zip-insert (x ∷ ks) [] (suc i) k v even = absurd (omega arith)
  zip-insert (x ∷ ks) (w ∷ vs) (suc i) k v even = ap (λ (l : List (K × V)). (x, w) ∷ l) (zip-insert ks vs i k v (omega arith))

  pub zip-remove : (ks : List K) (vs : List V) (i : ℕ) → length vs ≡ length ks → zip (remove ks i) (remove vs i) ≡ remove (zip ks vs) i
  zip-remove [] [] zero even = refl
  zip-remove [] [] (suc i) even = refl
  zip-remove [] (w ∷ vs) i even = absurd (omega arith)
  zip-remove (x ∷ ks) [] i even = absurd (omega arith)
  zip-remove (x ∷ ks) (w ∷ vs) zero even = refl
  zip-remove (x ∷ ks) (w ∷ vs) (suc i) even = ap (λ (l : List (K × V)). (x, w) ∷ l) (zip-remove ks vs i (omega arith))

  -- some pairs of a list, made of as many of its names and values
  pub taken_pairs : (es : List (K × V)) (i : ℕ) (ks : List K) (vs : List V) → ks ≡ take i (keys_of es) → vs ≡ take i (values_of es)
      → zip ks vs ≡ take i es
  taken_pairs es i ks vs names values =
      (λ j. zip (names j) (values j)) ∙ zip-take i (keys_of es) (values_of es) ∙ ap (take i) (zip_parts es)

  pub dropped_pairs : (es : List (K × V)) (i : ℕ) (ks : List K) (vs : List V) → ks ≡ drop i (keys_of es) → vs ≡ drop i (values_of es)
      → zip ks vs ≡ drop i es
  dropped_pairs es i ks vs names values =
      (λ j. zip (names j) (values j))
      ∙ zip-drop i (keys_of es) (values_of es) (length-map es (λ (e : K × V). e.1) ∙ sym (length-map es (λ (e : K × V). e.0)))
      ∙ ap (drop i) (zip_parts es)
