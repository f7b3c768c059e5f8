-- The calls of a drive: the copy accepts each after those before it.
use Rattle.std.proofs.Common.{ℕ, zero, suc, List, [], ◌∷◌, ◌++◌, take, append-nil, append_assoc, sym, subst}
use Rattle.std.specs.Prelude.{Ok}
use Rattle.md5.specs.Md5.{md5}
use Rattle.svn_editor.specs.declared.call.Call.{Call}
use Rattle.svn_editor.specs.declared.mode.Mode.{Mode}
use Rattle.svn_edit.specs.declared.pending.Pending.{Pending}
use Rattle.svn_edit.specs.Carrying.{CarriedOut, Carries}
use Rattle.law_copy.specs.Laws.{calls_are_applied_in_turn}
use Rattle.svn_model.specs.Nodes.{WorkingCopy}
use Rattle.svn_model.specs.Effects.{effect, after, IsAccepted, AllAcceptedFrom, AllAccepted}
use Rattle.svn_run.specs.UpdateTheorem.{Nodes}

-- the first of them
pub accepted_first : (mode : Mode) (k : ℕ) (earlier : List Call) (w : WorkingCopy) (calls : List Call) → AllAcceptedFrom md5 mode earlier w calls
    → AllAcceptedFrom md5 mode earlier w (take k calls)
accepted_first mode zero earlier w calls h = tt
accepted_first mode (suc k) earlier w [] h = tt
accepted_first mode (suc k) earlier w (c ∷ calls) h =
    (h.0, accepted_first mode k (earlier ++ c ∷ []) (effect mode earlier c w) calls h.1)

module _ (more : calls_are_applied_in_turn) (mode : Mode) (w0 : WorkingCopy) where
  -- those after the first
  pub accepted_rest : (earlier : List Call) (c : Call) (calls : List Call) → AllAcceptedFrom md5 mode earlier (after mode w0 earlier) (c ∷ calls)
      → AllAcceptedFrom md5 mode (earlier ++ c ∷ []) (after mode w0 (earlier ++ c ∷ [])) calls
  accepted_rest earlier c calls h =
      subst (λ (w : WorkingCopy). AllAcceptedFrom md5 mode (earlier ++ c ∷ []) w calls) (sym (more mode w0 earlier c)) h.1

  last_from : (earlier calls : List Call) (c : Call) → AllAcceptedFrom md5 mode earlier (after mode w0 earlier) (calls ++ c ∷ [])
      → IsAccepted md5 mode (earlier ++ calls) (after mode w0 (earlier ++ calls)) c
  last_from earlier [] c h =
      subst (λ (l : List Call). IsAccepted md5 mode l (after mode w0 l) c) (sym (append-nil earlier)) h.0
  last_from earlier (d ∷ calls) c h =
      subst (λ (l : List Call). IsAccepted md5 mode l (after mode w0 l) c) (append_assoc earlier (d ∷ []) calls)
      (last_from (earlier ++ d ∷ []) calls c (accepted_rest earlier d (calls ++ c ∷ []) h))

  -- the last of them
  pub accepted_last : (calls : List Call) (c : Call) → AllAccepted md5 mode w0 (calls ++ c ∷ []) → IsAccepted md5 mode calls (after mode w0 calls) c
  accepted_last calls c h = last_from [] calls c h

-- and all before the last
pub accepted_before : (mode : Mode) (earlier : List Call) (w : WorkingCopy) (calls : List Call) (c : Call)
    → AllAcceptedFrom md5 mode earlier w (calls ++ c ∷ []) → AllAcceptedFrom md5 mode earlier w calls
accepted_before mode earlier w [] c h = tt
accepted_before mode earlier w (d ∷ calls) c h =
    (h.0, accepted_before mode (earlier ++ d ∷ []) (effect mode earlier d w) calls c h.1)

-- what is accepted next is applied
pub accepted_next : (mode : Mode) (w0 : WorkingCopy) (calls : List Call) (edit : Pending) (nodes : Nodes) (c : Call) (new : Pending) (left : Nodes)
    → Carries mode edit nodes c (Ok tt) new left → CarriedOut mode w0 edit nodes calls → IsAccepted md5 mode calls (after mode w0 calls) c
    → CarriedOut mode w0 new left (calls ++ c ∷ [])
accepted_next mode w0 calls edit nodes c new left carries carried accepted =
    carries.carried w0 calls carried (accepted nodes carries.order carried.copy)
