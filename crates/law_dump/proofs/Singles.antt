-- A value that one element of a list alone gives.
use Rattle.std.proofs.Common.{◌≡◌, ℕ, List, [], ◌∷◌, ◌++◌, Option, Some, None, Ok, refl, ap, subst, ◌∙◌}
use Rattle.std.specs.List.{AllByRecursion, cons_option, filter_map}
use Rattle.svn_dump.specs.Headers.{single}
use Rattle.law_dump.proofs.Choices.{ok_same}

module _ {X : Type 0} (f : X → Option (List ℕ)) where
  abbrev pub Nowhere : List X → Type 0
  Nowhere xs = AllByRecursion (λ (x : X). f x ≡ None) xs

  pub record Only (xs : List X) (value : List ℕ) : Type 0 where
    pub before : List X
    pub one : X
    pub after : List X
    pub parts : xs ≡ before ++ one ∷ after
    pub is : f one ≡ Some value
    pub none_before : Nowhere before
    pub none_after : Nowhere after

  abbrev pub OnlyIf : List X → Option (List ℕ) → Type 0
  OnlyIf xs None = Nowhere xs
  OnlyIf xs (Some value) = Only xs value

  -- ---- what is found is given

  nowhere : (xs : List X) → filter_map f xs ≡ [] → Nowhere xs
  nowhere [] h = tt
  nowhere (x ∷ xs) h = by (f x) refl h (nowhere xs)
    where
      by : (o : Option (List ℕ)) → f x ≡ o → cons_option o (filter_map f xs) ≡ [] → (filter_map f xs ≡ [] → Nowhere xs) → Nowhere (x ∷ xs)
      by None e h more = (e, more h)
      by (Some v) e h more = absurd (clash h)
        where
          clash : v ∷ filter_map f xs ≡ [] → ⊥
          clash e = cc

  later : (x : X) (xs : List X) (o : Option (List ℕ)) → f x ≡ None → OnlyIf xs o → OnlyIf (x ∷ xs) o
  later x xs None e h = (e, h)
  later x xs (Some value) e h = record {
    before = x ∷ h.before;
    one = h.one;
    after = h.after;
    parts = ap (λ (l : List X). x ∷ l) h.parts;
    is = h.is;
    none_before = (e, h.none_before);
    none_after = h.none_after;
  }

  pub found_only : (xs : List X) (o : Option (List ℕ)) → single (filter_map f xs) ≡ Ok o → OnlyIf xs o
  found_only [] o h = subst (OnlyIf []) (ok_same None o h) tt
  found_only (x ∷ xs) o h = by (f x) refl h (found_only xs o)
    where
      once : (v : List ℕ) (values : List (List ℕ)) → single (v ∷ values) ≡ Ok o → (values ≡ []) × (Some v ≡ o)
      once v [] h = (refl, ok_same (Some v) o h)
      once v (w ∷ values) h = cc

      by : (r : Option (List ℕ)) → f x ≡ r → single (cons_option r (filter_map f xs)) ≡ Ok o
          → (single (filter_map f xs) ≡ Ok o → OnlyIf xs o) → OnlyIf (x ∷ xs) o
      by None e h more = later x xs o e (more h)
      by (Some v) e h more =
          let one = once v (filter_map f xs) h in
          subst (OnlyIf (x ∷ xs)) one.1
          (record { before = []; one = x; after = xs; parts = refl; is = e; none_before = tt; none_after = nowhere xs one.0 })

  -- ---- what is given is found

  none_found : (xs : List X) → Nowhere xs → filter_map f xs ≡ []
  none_found [] h = refl
  none_found (x ∷ xs) h = ap (λ o. cons_option o (filter_map f xs)) h.0 ∙ none_found xs h.1

  pub only_found : (xs : List X) (o : Option (List ℕ)) → OnlyIf xs o → single (filter_map f xs) ≡ Ok o
  only_found xs None h = ap single (none_found xs h)
  only_found xs (Some value) h = ap (λ (l : List X). single (filter_map f l)) h.parts ∙ ap single (at_end h.before h.none_before)
    where
      at_end : (before : List X) → Nowhere before → filter_map f (before ++ h.one ∷ h.after) ≡ value ∷ []
      at_end [] none =
          ap (λ o. cons_option o (filter_map f h.after)) h.is ∙ ap (λ (l : List (List ℕ)). value ∷ l) (none_found h.after h.none_after)
      at_end (x ∷ before) none = ap (λ o. cons_option o (filter_map f (before ++ h.one ∷ h.after))) none.0 ∙ at_end before none.1
