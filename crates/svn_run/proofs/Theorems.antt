-- The theorems of a run on one thread and of one on two, from their parts.
use Rattle.std.proofs.Common.{◌≡◌, ℕ, refl, sym, subst}
use Rattle.std.specs.Prelude.{Some, None, Ok, Err}
use Rattle.svn_link.specs.Ends.{Passed}
use Rattle.svn_model.specs.Nodes.{get_in, InPathOrder}
use Rattle.law_update.specs.Laws.{IsTrueCopy}
use Rattle.svn_run.specs.declared.outcome.Outcome.{Outcome}
use Rattle.svn_run.specs.declared.outcome.RunFault.{RunFault}
use Rattle.svn_run.specs.declared.outcome.RunFault.TheVariants.{Memory}
use Rattle.svn_run.specs.Coming.{CameTo, CameInTurn}
use Rattle.svn_run.specs.RunLaws.{RunLaws}
use Rattle.svn_run.specs.UpdateTheorem.{Nodes, Asked, fault_in_turn, fault_in_threads, IsRefusal, IsWantOfMemory, IsWantInThreads}
use Rattle.svn_run.specs.UpdateTheorem.{made_in, late_in, calls_made, IsSound, TurnTheorem, ThreadsTheorem}
use Rattle.svn_run.proofs.Beginning.{has_target, begins_in_turn}
use Rattle.svn_run.proofs.Composing.{drive_for, sound, ran}

module _ (laws : RunLaws) (a : Asked) (true_copy : IsTrueCopy a.history a.copy) where
  -- a copy that is as it was
  unmoved : (left : Nodes) → left ≡ a.copy → IsSound a left
  unmoved left same = subst (IsSound a) (sym same) (record { truth = true_copy.true_of; shape = true_copy.shape })

  -- no run leads to the target
  pub refused_in_turn : (e : RunFault) → fault_in_turn a ≡ Some e → TurnTheorem a a.copy (Err e)
  refused_in_turn e h = record {
    refused = subst (λ o. IsRefusal o IsWantOfMemory e) (sym h) refl;
    unchanged = refl;
    begun = tt;
    ran = tt;
    one_more = tt;
    never_late = tt;
    sound = unmoved a.copy refl;
  }

  module _ (none : fault_in_turn a ≡ None) where
    -- memory ran out
    pub without_memory : (left : Nodes) (e : RunFault) → left ≡ a.copy → e ≡ Memory → TurnTheorem a left (Err e)
    without_memory left e same is = record {
      refused = subst (λ o. IsRefusal o IsWantOfMemory e) (sym none) is;
      unchanged = same;
      begun = tt;
      ran = tt;
      one_more = tt;
      never_late = tt;
      sound = unmoved left same;
    }

    -- it ended
    pub came_in_turn : (left : Nodes) (o : Outcome) → InPathOrder left
        → CameInTurn (drive_for a) a.request.mode a.request.options.cancel_after (get_in a.copy) left o → late_in o ≡ None
        → TurnTheorem a left (Ok o)
    came_in_turn left o in_order ended never = record {
      refused = tt;
      unchanged = tt;
      begun = none;
      ran = ran laws a true_copy (has_target a none) left o ended.came in_order;
      one_more = ended.one_more;
      never_late = never;
      sound = sound laws a true_copy (has_target a none) left o ended.came;
    }

  -- ---- two threads

  module _ (capacity : ℕ) where
    -- no run leads to the target, or the capacity isn't one
    pub refused_in_threads : (e : RunFault) → fault_in_threads a capacity ≡ Some e → ThreadsTheorem a capacity a.copy (Err e)
    refused_in_threads e h = record {
      refused = subst (λ o. IsRefusal o IsWantInThreads e) (sym h) refl;
      unchanged = refl;
      begun = tt;
      ran = tt;
      sound = unmoved a.copy refl;
    }

    module _ (none : fault_in_threads a capacity ≡ None) where
      -- memory ran out, or no thread could be made
      pub wanting : (left : Nodes) (e : RunFault) → left ≡ a.copy → IsWantInThreads e → ThreadsTheorem a capacity left (Err e)
      wanting left e same want = record {
        refused = subst (λ o. IsRefusal o IsWantInThreads e) (sym none) want;
        unchanged = same;
        begun = tt;
        ran = tt;
        sound = unmoved left same;
      }

      -- it ended
      pub came_in_threads : (left : Nodes) (o : Outcome) (passed : Passed) → InPathOrder left
          → CameTo (drive_for a) a.request.mode a.request.options.cancel_after (get_in a.copy) left o
          → passed.sent ≡ calls_made (drive_for a) (made_in o) → passed.taken ≡ calls_made (drive_for a) (made_in o)
          → ThreadsTheorem a capacity left (Ok (o, passed))
      came_in_threads left o passed in_order came sent taken =
          let has = has_target a (begins_in_turn a capacity none) in
          record {
            refused = tt;
            unchanged = tt;
            begun = none;
            ran = record { ran = ran laws a true_copy has left o came in_order; sent = sent; taken = taken };
            sound = sound laws a true_copy has left o came;
          }
