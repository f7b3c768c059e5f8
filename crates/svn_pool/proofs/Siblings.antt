-- Places and what is there, as a pool is put in before what is at a place, and as a pool is taken out, so that what
-- followed it is at its place: places and pools stay inverse, and agree with the parents.
use Rattle.std.proofs.Common.{◌≡◌, ◌≢◌, ◌⊎◌, ℕ, zero, suc, ◌+◌, ◌<◌, ◌≤◌, Option, None, Some, IsSome, is_some, refl, sym, ap, ◌∙◌}
use Rattle.std.proofs.Common.{inl, inr, arith}
use Rattle.std.proofs.lemmas.Bool.{cases_eq}
use Rattle.std.proofs.lemmas.Option.{none-some, same_Some}
use Rattle.svn_lists.proofs.Options.{cases_number}
use Rattle.svn_pool.specs.Linked.{IsInverse, IsKin}
use Rattle.svn_pool.specs.declared.links.Anchor.{Anchor}
use Rattle.svn_pool.specs.declared.links.Anchor.TheVariants.{First, Next}

first_is : (a b : ℕ) → First a ≡ First b → a ≡ b
first_is a b e = cc

next_is : (a b : ℕ) → Next a ≡ Next b → a ≡ b
next_is a b e = cc

pub first_or_next : (a b : ℕ) → First a ≡ Next b → ⊥
first_or_next a b e = cc

pub same_place : (x y : Anchor) → (x ≡ y) ⊎ (x ≢ y)
same_place (First a) (First b) = elim (cases_eq a b) [ inl is ↦ inl (ap First is) | inr apart ↦ inr (λ e. apart (first_is a b e)) ]
same_place (First a) (Next b) = inr (λ e. first_or_next a b e)
same_place (Next a) (First b) = inr (λ e. first_or_next b a (sym e))
same_place (Next a) (Next b) = elim (cases_eq a b) [ inl is ↦ inl (ap Next is) | inr apart ↦ inr (λ e. apart (next_is a b e)) ]

-- a change of what is at x and after the pool s; z is what follows s on the side where s is there
module _ (standing after : Anchor → Option ℕ) (place new : ℕ → Option Anchor) (inverse : IsInverse standing place) (x : Anchor)
    (s : ℕ) (z : Option ℕ) (apart : Next s ≢ x) (others : (y : Anchor) → y ≢ x → y ≢ Next s → after y ≡ standing y)
    (other : (c : ℕ) → c ≢ s → z ≢ Some c → new c ≡ place c) where
  -- s goes: z is at its place
  module _ (was : standing x ≡ Some s) (next : standing (Next s) ≡ z) (now : after x ≡ z) (none : after (Next s) ≡ None)
      (gone : new s ≡ None) (moved : (c : ℕ) → z ≡ Some c → new c ≡ Some x) where
    there_without : (y : Anchor) (c : ℕ) → after y ≡ Some c → new c ≡ Some y
    there_without y c e = elim (same_place y x) [
      | inl is ↦ moved c (sym now ∙ sym (ap after is) ∙ e) ∙ ap Some (sym is)
      | inr not_x ↦ elim (same_place y (Next s)) [
        | inl is ↦ absurd (none-some c (sym none ∙ sym (ap after is) ∙ e))
        | inr not_n ↦
            let before : standing y ≡ Some c = sym (others y not_x not_n) ∙ e in
            let at : place c ≡ Some y = inverse.there y c before in
            let not_s : c ≢ s = λ is. not_x (same_Some y x (sym at ∙ ap place is ∙ inverse.there x s was)) in
            let not_z : z ≢ Some c = λ is. not_n (same_Some y (Next s) (sym at ∙ inverse.there (Next s) c (next ∙ is))) in
            other c not_s not_z ∙ at
      ]
    ]

    back_without : (y : Anchor) (c : ℕ) → new c ≡ Some y → after y ≡ Some c
    back_without y c e = elim (cases_eq c s) [
      | inl is ↦ absurd (none-some y (sym gone ∙ sym (ap new is) ∙ e))
      | inr not_s ↦ elim (cases_number z c) [
        | inl is ↦ ap after (same_Some y x (sym e ∙ moved c is)) ∙ now ∙ is
        | inr not_z ↦
            let before : standing y ≡ Some c = inverse.back y c (sym (other c not_s not_z) ∙ e) in
            let not_x : y ≢ x = λ is. not_s (same_Some c s (sym before ∙ ap standing is ∙ was)) in
            let not_n : y ≢ Next s = λ is. not_z (sym next ∙ sym (ap standing is) ∙ before) in
            others y not_x not_n ∙ before
      ]
    ]

    pub inverse_without : IsInverse after new
    inverse_without = record { there = there_without; back = back_without }

    -- the parents are as they were, but that s has none
    module _ (parent later : ℕ → Option ℕ) (kin : IsKin parent place) (no_parent : later s ≡ None)
        (kept : (c : ℕ) → c ≢ s → later c ≡ parent c) where
      not_it : (c p : ℕ) → later c ≡ Some p → c ≢ s
      not_it c p e is = none-some p (sym no_parent ∙ sym (ap later is) ∙ e)

      not_gone : (c : ℕ) (y : Anchor) → new c ≡ Some y → c ≢ s
      not_gone c y e is = none-some y (sym gone ∙ sym (ap new is) ∙ e)

      s_at : place s ≡ Some x
      s_at = inverse.there x s was

      -- what follows s has its parent
      followed : (c : ℕ) → z ≡ Some c → IsSome (parent c) × (parent s ≡ parent c) × (c < s)
      followed c is = kin.next c s (inverse.there (Next s) c (next ∙ is))

      placed_without : (c p : ℕ) → later c ≡ Some p → IsSome (new c)
      placed_without c p e = elim (cases_number z c) [
        | inl is ↦ ap is_some (moved c is)
        | inr not_z ↦
            let not_s = not_it c p e in ap is_some (other c not_s not_z) ∙ kin.placed c p (sym (kept c not_s) ∙ e)
      ]

      first_without : (c p : ℕ) → new c ≡ Some (First p) → later c ≡ Some p
      first_without c p e =
          let not_s = not_gone c (First p) e in
          elim (cases_number z c) [
            | inl is ↦
                let at : x ≡ First p = same_Some x (First p) (sym (moved c is) ∙ e) in
                kept c not_s ∙ sym (followed c is).1 ∙ kin.first s p (s_at ∙ ap Some at)
            | inr not_z ↦ kept c not_s ∙ kin.first c p (sym (other c not_s not_z) ∙ e)
          ]

      next_without : (c q : ℕ) → new c ≡ Some (Next q) → IsSome (later c) × (later q ≡ later c) × (c < q)
      next_without c q e =
          let not_s = not_gone c (Next q) e in
          elim (cases_number z c) [
            | inl is ↦
                let at : x ≡ Next q = same_Some x (Next q) (sym (moved c is) ∙ e) in
                let mine = kin.next s q (s_at ∙ ap Some at) in
                let its = followed c is in
                let lt : s < q = mine.2 in
                let less : c < s = its.2 in
                let not_q : q ≢ s = λ same. omega (arith, same, lt) in
                (ap is_some (kept c not_s) ∙ its.0, kept q not_q ∙ mine.1 ∙ its.1 ∙ sym (kept c not_s), omega (arith, lt, less))
            | inr not_z ↦
                let before : place c ≡ Some (Next q) = sym (other c not_s not_z) ∙ e in
                let its = kin.next c q before in
                let not_q : q ≢ s =
                λ same. not_z (sym next ∙ sym (ap (λ (k : ℕ). standing (Next k)) same) ∙ inverse.back (Next q) c before) in
                (ap is_some (kept c not_s) ∙ its.0, kept q not_q ∙ its.1 ∙ sym (kept c not_s), its.2)
          ]

      pub kin_without : IsKin later new
      kin_without = record { placed = placed_without; first = first_without; next = next_without }

  -- s comes, before z
  module _ (unplaced : place s ≡ None) (free : standing (Next s) ≡ None) (was : standing x ≡ z) (now : after x ≡ Some s)
      (next : after (Next s) ≡ z) (here : new s ≡ Some x) (moved : (c : ℕ) → z ≡ Some c → new c ≡ Some (Next s)) where
    there_with : (y : Anchor) (c : ℕ) → after y ≡ Some c → new c ≡ Some y
    there_with y c e = elim (same_place y x) [
      | inl is ↦ let same : c ≡ s = same_Some c s (sym e ∙ ap after is ∙ now) in ap new same ∙ here ∙ ap Some (sym is)
      | inr not_x ↦ elim (same_place y (Next s)) [
        | inl is ↦ moved c (sym next ∙ sym (ap after is) ∙ e) ∙ ap Some (sym is)
        | inr not_n ↦
            let before : standing y ≡ Some c = sym (others y not_x not_n) ∙ e in
            let at : place c ≡ Some y = inverse.there y c before in
            let not_s : c ≢ s = λ is. none-some y (sym unplaced ∙ sym (ap place is) ∙ at) in
            let not_z : z ≢ Some c = λ is. not_x (same_Some y x (sym at ∙ inverse.there x c (was ∙ is))) in
            other c not_s not_z ∙ at
      ]
    ]

    back_with : (y : Anchor) (c : ℕ) → new c ≡ Some y → after y ≡ Some c
    back_with y c e = elim (cases_eq c s) [
      | inl is ↦ ap after (same_Some y x (sym e ∙ ap new is ∙ here)) ∙ now ∙ ap Some (sym is)
      | inr not_s ↦ elim (cases_number z c) [
        | inl is ↦ ap after (same_Some y (Next s) (sym e ∙ moved c is)) ∙ next ∙ is
        | inr not_z ↦
            let before : standing y ≡ Some c = inverse.back y c (sym (other c not_s not_z) ∙ e) in
            let not_x : y ≢ x = λ is. not_z (sym was ∙ sym (ap standing is) ∙ before) in
            let not_n : y ≢ Next s = λ is. none-some c (sym free ∙ sym (ap standing is) ∙ before) in
            others y not_x not_n ∙ before
      ]
    ]

    pub inverse_with : IsInverse after new
    inverse_with = record { there = there_with; back = back_with }

    -- s is the first child of p, younger than the others
    module _ (parent later : ℕ → Option ℕ) (kin : IsKin parent place) (p : ℕ) (at : x ≡ First p) (its : later s ≡ Some p)
        (kept : (c : ℕ) → c ≢ s → later c ≡ parent c) (younger : (c q : ℕ) → parent c ≡ Some q → c < s) where
      -- z was p's first child
      led : (c : ℕ) → z ≡ Some c → parent c ≡ Some p
      led c is = kin.first c p (inverse.there x c (was ∙ is) ∙ ap Some at)

      apart_from : (c q : ℕ) → parent c ≡ Some q → c ≢ s
      apart_from c q e is = let lt = younger c q e in omega (arith, is, lt)

      placed_with : (c q : ℕ) → later c ≡ Some q → IsSome (new c)
      placed_with c q e = elim (cases_eq c s) [
        | inl is ↦ ap is_some (ap new is ∙ here)
        | inr not_s ↦ elim (cases_number z c) [
          | inl is ↦ ap is_some (moved c is)
          | inr not_z ↦ ap is_some (other c not_s not_z) ∙ kin.placed c q (sym (kept c not_s) ∙ e)
        ]
      ]

      first_with : (c q : ℕ) → new c ≡ Some (First q) → later c ≡ Some q
      first_with c q e = elim (cases_eq c s) [
        | inl is ↦
            let same : First p ≡ First q = same_Some (First p) (First q) (ap Some (sym at) ∙ sym here ∙ sym (ap new is) ∙ e) in
            ap later is ∙ its ∙ ap Some (first_is p q same)
        | inr not_s ↦ elim (cases_number z c) [
          | inl is ↦ absurd (first_or_next q s (sym (same_Some (Next s) (First q) (sym (moved c is) ∙ e))))
          | inr not_z ↦ kept c not_s ∙ kin.first c q (sym (other c not_s not_z) ∙ e)
        ]
      ]

      next_with : (c q : ℕ) → new c ≡ Some (Next q) → IsSome (later c) × (later q ≡ later c) × (c < q)
      next_with c q e = elim (cases_eq c s) [
        | inl is ↦ absurd (first_or_next p q (same_Some (First p) (Next q) (ap Some (sym at) ∙ sym here ∙ sym (ap new is) ∙ e)))
        | inr not_s ↦ elim (cases_number z c) [
          | inl is ↦
              let same : q ≡ s = sym (next_is s q (same_Some (Next s) (Next q) (sym (moved c is) ∙ e))) in
              let lt = younger c p (led c is) in (
                ap is_some (kept c not_s ∙ led c is),
                ap later same ∙ its ∙ sym (led c is) ∙ sym (kept c not_s),
                omega (arith, same, lt),
              )
          | inr not_z ↦
              let old = kin.next c q (sym (other c not_s not_z) ∙ e) in
              let not_q : q ≢ s = λ same. by_parent (parent c) refl old.0 (λ r is. apart_from q r (old.1 ∙ is) same) in
              (ap is_some (kept c not_s) ∙ old.0, kept q not_q ∙ old.1 ∙ sym (kept c not_s), old.2)
        ]
      ]
        where
          by_parent : (o : Option ℕ) → parent c ≡ o → IsSome o → ((r : ℕ) → parent c ≡ Some r → ⊥) → ⊥
          by_parent None is live never = let clash : ⊥ = cc in clash
          by_parent (Some r) is live never = never r is

      pub kin_with : IsKin later new
      kin_with = record { placed = placed_with; first = first_with; next = next_with }

module _ (parent : ℕ → Option ℕ) (place : ℕ → Option Anchor) (standing : Anchor → Option ℕ) (inverse : IsInverse standing place)
    (kin : IsKin parent place) (small : (c p : ℕ) → parent c ≡ Some p → c < 18446744073709551616) (p : ℕ)
    (none : standing (First p) ≡ None) where
  -- with n serials left above c
  no_child_within : (n c : ℕ) → 18446744073709551616 ≤ c + n → parent c ≡ Some p → ⊥
  no_child_within zero c left is = let lt = small c p is in absurd (omega (arith, left, lt))
  no_child_within (suc n) c left is = by (place c) refl (kin.placed c p is) (no_child_within n)
    where
      by : (o : Option Anchor) → place c ≡ o → IsSome o → ((q : ℕ) → 18446744073709551616 ≤ q + n → parent q ≡ Some p → ⊥) → ⊥
      by None at some later = let clash : ⊥ = cc in clash
      by (Some (First r)) at some later =
          none-some c
          (sym none ∙ ap (λ (k : ℕ). standing (First k)) (sym (same_Some r p (sym (kin.first c r at) ∙ is))) ∙ inverse.back (First r) c at)
      by (Some (Next q)) at some later =
          let newer = kin.next c q at in
          let lt = newer.2 in
          later q (omega (arith, left, lt)) (newer.1 ∙ is)

  -- if p has no first child, no pool has the parent p
  pub no_child : (c : ℕ) → parent c ≡ Some p → ⊥
  no_child c is = no_child_within 18446744073709551616 c (omega arith) is
