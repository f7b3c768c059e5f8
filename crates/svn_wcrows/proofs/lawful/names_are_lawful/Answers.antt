use Rattle.std.proofs.Common.{◌≡◌, ◌<◌, ◌+◌, ◌∙◌, ℕ, List, length, get_or, IsUtf8, inl, inr, sym, ap, subst, arith}
use Rattle.std.proofs.lemmas.Bool.{cases_lt}
use Rattle.std.proofs.lemmas.List.{get_or_default}
use Rattle.svn_types.specs.Names.{IsName}
use Rattle.svn_wcrows.proofs.lawful.names_are_lawful.Goals as goal

abbrev Lawful : List ℕ → Type 0
Lawful n = IsName n × IsUtf8 n

one_more : (names : List (List ℕ)) (i : ℕ) (n : List ℕ) → n ≡ get_or names i n → i < length names → Lawful n
    → ((k : ℕ) (d : List ℕ) → k < i → Lawful (get_or names k d)) → (k : ℕ) (d : List ℕ) → k < i + 1 → Lawful (get_or names k d)
one_more names i n is within lawful before k d less =
    elim (cases_lt k i) [
      | inl earlier ↦ before k d earlier
      | inr later ↦
          let same : k ≡ i = omega (arith, less, later) in
          subst Lawful (is ∙ get_or_default names i n d within ∙ ap (λ j. get_or names j d) (sym same)) lawful
    ]

pub loop-name-preserved : goal.loop-name-preserved
loop-name-preserved c =
    one_more c.args.names.now c.loop-name.name-index c.name-item.result c.name-item.is (omega arith)
    (c.as_str-text.ensures.name, subst IsUtf8 c.as_str-text.ensures.value c.as_str-text.utf8) c.loop-name.invariant

pub returns-clause-texts : goal.returns-clause-texts
returns-clause-texts c = λ k d h. (c.loop-name.invariant k d (omega (arith, h))).1
