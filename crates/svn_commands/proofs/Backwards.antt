-- Segments, put together from young to old.
use Rattle.std.proofs.Common.{◌≡◌, ℕ, zero, suc, ◌-◌, ◌<◌, true, List, [], ◌∷◌, ◌++◌, Option, Some, None, append_assoc, arith, refl, sym, ap, ◌∙◌, subst}
use Rattle.svn_types.specs.Names.{Path}
use Rattle.svn_commands.specs.declared.history.Segment.{Segment}
use Rattle.svn_replies.specs.declared.served.Served.{Served}
use Rattle.svn_commands.specs.Segments.{AreSegments, begins, goes_on, copied_from, is_older, first_of_line, first_here, segment_here, gap}

here_is : (s : Served) (r f : ℕ) (p q : Path) → f ≡ first_here s r p → q ≡ p → ◌≡◌ {A = Segment} (record { first = f; last = r; path = Some q }) (segment_here s r p)
here_is s r f p q first path = λ i. record { first = first i; last = r; path = Some (path i) }

module _ (s : Served) (youngest : ℕ) (named : Path) (done : List Segment) (r f : ℕ) (p q : Path)
    (leads : (rest : List Segment) → AreSegments s r p rest → AreSegments s youngest named (done ++ rest)) (first : f ≡ first_here s r p) (path : q ≡ p) where
  with_here : (new : List Segment) → new ≡ done ++ record { first = f; last = r; path = Some q } ∷ [] → new ≡ done ++ segment_here s r p ∷ []
  with_here new is = is ∙ ap (λ (g : Segment). done ++ g ∷ []) (here_is s r f p q first path)

  -- the last one
  pub all_segments : (new : List Segment) → new ≡ done ++ record { first = f; last = r; path = Some q } ∷ [] → copied_from s f p ≡ None
      → AreSegments s youngest named new
  all_segments new is none =
      subst (AreSegments s youngest named) (sym (with_here new is))
      (leads (segment_here s r p ∷ []) (begins (ap (λ k. copied_from s k p) (sym first) ∙ none)))

  -- one that was copied
  pub more_segments : (mid new : List Segment) (source : ℕ) (from : Path) → mid ≡ done ++ record { first = f; last = r; path = Some q } ∷ []
      → new ≡ mid ++ gap source f → copied_from s f p ≡ Some (source, from) → (rest : List Segment) → AreSegments s source from rest
      → AreSegments s youngest named (new ++ rest)
  more_segments mid new source from is put copied rest older =
      let joined = ap (λ (l : List Segment). l ++ rest) (put ∙ ap (λ (l : List Segment). l ++ gap source f) (with_here mid is))
      ∙ append_assoc (done ++ segment_here s r p ∷ []) (gap source f) rest
      ∙ append_assoc done (segment_here s r p ∷ []) (gap source f ++ rest)
      ∙ ap (λ k. done ++ segment_here s r p ∷ (gap source k ++ rest)) first in
      subst (AreSegments s youngest named) (sym joined)
      (leads (segment_here s r p ∷ (gap source (first_here s r p) ++ rest))
      (goes_on (source, from) rest (ap (λ k. copied_from s k p) (sym first) ∙ copied) older))

-- a node that is older is there in the revision before
pub older_step : (s : Served) (line : Option ℕ) (r : ℕ) (p : Path) → 0 < r → is_older s line r p ≡ true
    → first_of_line s line (r - 1) p ≡ first_of_line s line r p
older_step s line zero p some older = absurd (omega arith)
older_step s line (suc r) p some older =
    let before : suc r - 1 ≡ r = omega arith in
    let step : first_of_line s line (suc r) p ≡ first_of_line s line r p = rw older refl in
    ap (λ k. first_of_line s line k p) before ∙ sym step
