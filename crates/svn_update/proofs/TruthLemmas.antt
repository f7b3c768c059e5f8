-- The working copy of a script stays true of its repository.
use Rattle.std.proofs.Common.{◌≡◌, ℕ, List, length, sym, subst, Option, Some, None, Result, Ok, Err, IfOk, OnOk, OnErr}
use Rattle.svn_repo.specs.Changes.{IsCommit}
use Rattle.svn_repo.specs.History.{History}
use Rattle.svn_repo.specs.Laws.{NodesExist}
use Rattle.svn_repo.specs.declared.change.Change.{Change}
use Rattle.svn_model.specs.Nodes.{get_in, IsTrueOf}
use Rattle.law_copy.specs.CopyLaws.{commits_keep_copies_true}
use Rattle.svn_run.specs.UpdateTheorem.{Nodes}
use Rattle.svn_update.specs.ScriptStates.{CopyIsTrue}

-- the copy that there is, is true
pub found_true : (h : History) (copy : Option Nodes) (w : Nodes) → CopyIsTrue h copy → copy ≡ Some w → IsTrueOf h (get_in w)
found_true h copy w t there = subst (CopyIsTrue h) there t

-- what keeps a true copy true where it is done, and the copy as it was where it is refused, leaves a true one
pub stays_true : {T E : Type 0} (h : History) (copy : Option Nodes) (old new : Nodes) (r : Result T E) → CopyIsTrue h copy → copy ≡ Some old
    → OnOk r (IsTrueOf h (get_in old) → IsTrueOf h (get_in new)) → OnErr r (new ≡ old) → IsTrueOf h (get_in new)
stays_true h copy old new (Ok x) t there keeps same = keeps (found_true h copy old t there)
stays_true h copy old new (Err e) t there keeps same =
    subst (λ (w : Nodes). IsTrueOf h (get_in w)) (sym same) (found_true h copy old t there)

-- a repository has what the copy came from after each commit, made or refused
pub commits_true : {E : Type 0} (h h' : History) (changes : List Change) (copy : Option Nodes) (r : Result ℕ E) → commits_keep_copies_true
    → NodesExist h → IfOk r (λ rev. (rev ≡ length h.roots) × IsCommit h h' changes) → OnErr r (h' ≡ h) → CopyIsTrue h copy
    → CopyIsTrue h' copy
commits_true h h' changes None r law exist made same t = tt
commits_true h h' changes (Some w) (Ok rev) law exist made same t = law h h' changes (get_in w) exist made.1 t
commits_true h h' changes (Some w) (Err e) law exist made same t = subst (λ (g : History). IsTrueOf g (get_in w)) (sym same) t
