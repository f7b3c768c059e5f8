-- Steps one after the other, and a crash during them.
use Rattle.std.proofs.Common.{◌≡◌, ◌⊎◌, inl, inr, ⊎_elim, List, [], ◌∷◌, ◌++◌, refl}
use Rattle.svn_types.specs.Names.{Path}
use Rattle.svn_folder.specs.declared.step.Step.{Step}
use Rattle.svn_folder.specs.States.{Seen, State}
use Rattle.svn_folder.specs.Steps.{after, run}
use Rattle.svn_folder.specs.Crashes.{RunMayLeave}
use Rattle.svn_folder.specs.Laws.{AreApart, steps_are_joined}

pub run_join : (s : State) (steps more : List Step) → run s (steps ++ more) ≡ run (run s steps) more
run_join s [] more = refl
run_join s (step ∷ steps) more = run_join (after step s) steps more

-- a crash during both is one during the former or the latter
pub left_split : (s : State) (steps more : List Step) (left : Seen) → RunMayLeave s (steps ++ more) left
    → RunMayLeave s steps left ⊎ RunMayLeave (run s steps) more left
left_split s [] more left may = inr may
left_split s (step ∷ steps) more left (inl may) = inl (inl may)
left_split s (step ∷ steps) more left (inr (inl may)) = inl (inr (inl may))
left_split s (step ∷ steps) more left (inr (inr may)) =
    ⊎_elim (λ former. inl (inr (inr former))) (λ latter. inr latter) (left_split (after step s) steps more left may)

-- a crash during the former is one during both
pub left_former : (s : State) (steps more : List Step) (left : Seen) → RunMayLeave s steps left → RunMayLeave s (steps ++ more) left
left_former s [] [] left may = may
left_former s [] (step ∷ more) left may = inl may
left_former s (step ∷ steps) more left (inl may) = inl may
left_former s (step ∷ steps) more left (inr (inl may)) = inr (inl may)
left_former s (step ∷ steps) more left (inr (inr may)) = inr (inr (left_former (after step s) steps more left may))

-- a crash during the latter is one during both
pub left_latter : (s : State) (steps more : List Step) (left : Seen) → RunMayLeave (run s steps) more left → RunMayLeave s (steps ++ more) left
left_latter s [] more left may = may
left_latter s (step ∷ steps) more left may = inr (inr (left_latter (after step s) steps more left may))

pub joined : steps_are_joined
joined s steps more =
    (run_join s steps more, λ left. (left_split s steps more left, λ either. ⊎_elim (left_former s steps more left) (left_latter s steps more left) either))

pub apart_join : (steps more : List Step) (p : Path) → AreApart steps p → AreApart more p → AreApart (steps ++ more) p
apart_join [] more p h k = k
apart_join (step ∷ steps) more p h k = (h.0, apart_join steps more p h.1 k)
