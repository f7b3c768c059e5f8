-- A folder whose copy is brought to one that is true of the repository, and to the one where a run arrived.
use Rattle.std.specs.Prelude.{◌≡◌, ℕ, List, Option}
use Rattle.std.proofs.Common.{inl, inr, subst, sym}
use Rattle.svn_types.specs.Names.{Path}
use Rattle.svn_repo.specs.History.{History}
use Rattle.svn_model.specs.declared.base_node.BaseNode.{BaseNode}
use Rattle.svn_model.specs.Nodes.{get_in, IsTrueOf}
use Rattle.svn_folder.specs.Pasts.{Past}
use Rattle.svn_folder.specs.States.{Seen, State}
use Rattle.svn_disk.specs.Crashes.{IsThere, IsOldOrNew, IsThereOrTrue, IsTrueThere, LeavesFrom, AfterFrom}
use Rattle.svn_run.specs.UpdateTheorem.{asked}
use Rattle.svn_disk_update.specs.declared.target.Aim.{Aim}
use Rattle.svn_disk_update.specs.Reaching.{IsReached}
use Rattle.svn_disk_update.specs.Arriving.{request_at, IsArrived}

-- ---- less is said of what a crash leaves

pub leaves_along : (I : State → Type 0) (P Q : Seen → Type 0) (old new : Past) → ((left : Seen) → P left → Q left) → LeavesFrom I P old new → LeavesFrom I Q old new
leaves_along I P Q old new along leaves s steps is begins left may = along left (leaves s steps is begins left may)

pub after_along : (I : State → Type 0) (P Q : Seen → Type 0) (old new : Past) → ((left : Seen) → P left → Q left) → AfterFrom I P old new → AfterFrom I Q old new
after_along I P Q old new along after s steps is begins left may = along left (after s steps is begins left may)

-- ---- a copy that is true

pub true_there : (h : History) (copy : List (Path × BaseNode)) → IsTrueOf h (get_in copy) → (left : Seen) → IsThere copy left → IsTrueThere h left
true_there h copy is_true left there = record { copy = copy; is_true = is_true; there = there }

pub old_or_true : (h : History) (old new : List (Path × BaseNode)) → IsTrueOf h (get_in new) → (left : Seen) → IsOldOrNew old new left → IsThereOrTrue old h left
old_or_true h old new is_true left (inl there) = inl there
old_or_true h old new is_true left (inr there) = inr (true_there h new is_true left there)

-- ---- the copy where a run arrived

-- the revision and the stop that are told are those of the run
pub arrived : (h : History) (nodes : List (Path × BaseNode)) (what : Aim) (rev told : ℕ) (stopped ended : Option ℕ) (copy : List (Path × BaseNode))
    → told ≡ rev → ended ≡ stopped → IsReached (asked h nodes (request_at what rev)) copy stopped → (left : Seen) → IsThere copy left
    → IsArrived h nodes (request_at what told) ended left
arrived h nodes what rev told stopped ended copy is_rev is_stop reached left there =
    let at_stop : IsReached (asked h nodes (request_at what rev)) copy ended =
    subst (λ (x : Option ℕ). IsReached (asked h nodes (request_at what rev)) copy x) (sym is_stop) reached in
    record {
      copy = copy;
      reached = subst (λ (r : ℕ). IsReached (asked h nodes (request_at what r)) copy ended) (sym is_rev) at_stop;
      there = there;
    }
