use Rattle.std.proofs.Common.{◌≡◌, ◌<◌, ◌+◌, ◌∙◌, ℕ, List, length, get_or, inl, inr, sym, ap, subst, arith}
use Rattle.std.proofs.lemmas.Bool.{cases_lt}
use Rattle.std.proofs.lemmas.List.{get_or_default}
use Rattle.law_dump.specs.Laws.{IsPath}
use Rattle.svn_wcrows.specs.declared.work.Work.{Work}
use Rattle.svn_wcrows.specs.Work.{place_of}
use Rattle.svn_wcrows.proofs.work.work_is_lawful.Goals as goal

abbrev Lawful : Work → Type 0
Lawful work = IsPath (place_of work)

one_more : (items : List Work) (i : ℕ) (work : Work) → work ≡ get_or items i work → i < length items → Lawful work
    → ((k : ℕ) (d : Work) → k < i → Lawful (get_or items k d)) → (k : ℕ) (d : Work) → k < i + 1 → Lawful (get_or items k d)
one_more items i work is within lawful before k d less =
    elim (cases_lt k i) [
      | inl earlier ↦ before k d earlier
      | inr later ↦
          let same : k ≡ i = omega (arith, less, later) in
          subst Lawful (is ∙ get_or_default items i work d within ∙ ap (λ j. get_or items j d) (sym same)) lawful
    ]

pub loop-work-preserved : goal.loop-work-preserved
loop-work-preserved c =
    one_more c.args.items.now c.loop-work.work-index c.work-item.result c.work-item.is (omega arith)
    (subst IsPath c.path.ensures c.path_is_lawful.ensures) c.loop-work.invariant
