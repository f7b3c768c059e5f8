use Rattle.svn_lists.proofs.Results.{OnOk_then}
use Rattle.svn_repo.specs.History.{History}
use Rattle.svn_model.specs.Nodes.{get_in, IsTrueOf}
use Rattle.svn_update.proofs.TruthLemmas.{stays_true}
use Rattle.svn_update.proofs.state.State.forget.Goals as goal

pub invariant_of-self-2 : goal.invariant_of-self-2
invariant_of-self-2 c =
    let h = c.self.inside.repo in
    let old = c.in-Some.copy in
    let new = c.forget-forgotten.new.self in
    stays_true h c.self.inside.copy old new c.forget-forgotten.result c.self.invariant c.in-Some.is
    (OnOk_then {P = ((g : History) → IsTrueOf g (get_in old) → IsTrueOf g (get_in new))}
    {Q = (IsTrueOf h (get_in old) → IsTrueOf h (get_in new))} c.forget-forgotten.result c.forget-forgotten.ensures.truth (λ keeps. keeps h))
    c.forget-forgotten.ensures.unchanged
