-- What a call that is in order makes of an edit, by what its function says: calls that give a token, that are noted, that close a token.
use Rattle.std.proofs.Common.{◌≡◌, ◌≢◌, ℕ, false, true≢false, List, [], refl, sym, ◌∙◌, subst}
use Rattle.std.specs.Prelude.{Some, None, Result, Ok, OnOk, OnErr, IfErr}
use Rattle.md5.specs.Md5.{md5}
use Rattle.svn_lists.proofs.Results.{OnOk_then, ok_by, OnErr_from}
use Rattle.svn_types.specs.declared.kind.Kind.{Kind}
use Rattle.svn_types.specs.Names.{Path}
use Rattle.svn_editor.specs.declared.call.Call.{Call}
use Rattle.svn_editor.specs.declared.call.Call.TheVariants.{SetTargetRevision, DeleteEntry, CloseEdit, AbortEdit}
use Rattle.svn_editor.specs.declared.fault.EditFault.{EditFault}
use Rattle.svn_editor.specs.declared.fault.EditFault.TheVariants.{Memory}
use Rattle.svn_editor.specs.Calls.{Given, given_by, named_by, closes, is_last, is_abort}
use Rattle.svn_editor.specs.declared.mode.Mode.{Mode}
use Rattle.svn_editor.specs.declared.mode.Mode.TheVariants.{Update}
use Rattle.svn_editor.specs.Steps.{Action, Delete, target_of}
use Rattle.svn_pool.specs.Ancestry.{IsCleared}
use Rattle.svn_model.specs.declared.base_node.BaseNode.{BaseNode}
use Rattle.svn_model.specs.Nodes.{get_in}
use Rattle.svn_model.specs.Effects.{step_fault, step_effect, settled, settle_fault, effect, edit_fault}
use Rattle.law_copy.proofs.Appending.{next_target, target-more}
use Rattle.law_copy.proofs.OnePath.{noted}
use Rattle.svn_edit.specs.declared.baton.Baton.{Baton}
use Rattle.svn_edit.specs.declared.pending.Pending.{Pending}
use Rattle.svn_edit.specs.Noted.{note_of, strings_of}
use Rattle.svn_edit.specs.Applying.{Applied, KeepsTarget, MakesBaton, BatonNoted, batons_of, pool_above, OpensBase}
use Rattle.svn_edit.specs.Leaving.{KeepsPools}
use Rattle.svn_edit.specs.Opening.{GivesToken}
use Rattle.svn_edit.specs.Taking.{Takes, AppliesCall, HoldsCall, LeavesCallPools}
use Rattle.svn_edit.proofs.PoolStrings.{one_left}
use Rattle.svn_edit.proofs.HeldBatons.{held_still}
use Rattle.svn_edit.proofs.Holding.{given_holds, holds_still, applied_read, applied_refusal}
use Rattle.svn_edit.proofs.Closes.{note_holds}
use Rattle.svn_edit.proofs.Bases.{made_bases, said_bases, gone_bases, still_bases, no_base}
use Rattle.svn_edit.proofs.Switching.{end_applied, end_left}
use Rattle.svn_edit.proofs.LeftPools.{unchanged_left, given_left}

module _ (mode : Mode) (old new : Pending) (nodes nodes2 : List (Path × BaseNode)) (c : Call) (r : Result (Unit {0}) EditFault) (going : is_last c ≡ false)
    (aborts : is_abort c ≡ false) (keeps : KeepsTarget old new) (applied : AppliesCall mode old nodes c r nodes2)
    (refused : OnErr r (nodes2 ≡ nodes)) (pools : LeavesCallPools old c r new) where
  -- a call that gives a token
  pub given_taken : (g : Given) → given_by c ≡ Some g → ((n : ℕ) → next_target n c ≡ n) → noted c ≡ None → (beneath : ℕ)
      → beneath ≡ pool_above old.pools.root (batons_of old) (Some g) → OnOk r (MakesBaton beneath g.path g.token old new)
      → OnOk r (OpensBase c (batons_of new) nodes2) → Takes mode old nodes c r new nodes2
  given_taken g gives still says beneath place made base = record {
    applied = applied;
    refused = refused;
    holds = given_holds old new c c g r refl still gives says aborts keeps beneath place made;
    last = λ h. absurd (true≢false (sym h ∙ going));
    abort = λ h. absurd (true≢false (sym h ∙ aborts));
    left = λ h. absurd (true≢false (sym h ∙ going));
    bases = made_bases old new c c g r beneath refl gives made;
    base = base;
    pools = pools;
  }

  -- one that is noted
  pub noted_taken : (m : ℕ) (k : Kind) (act : Action) → named_by c ≡ Some (m, k) → given_by c ≡ None → ((n : ℕ) → next_target n c ≡ n)
      → noted c ≡ Some (m, act) → ((t : ℕ) → closes t c ≡ false)
      → OnOk r ((b : Baton) → batons_of old m ≡ Some b → BatonNoted m b (note_of act) (strings_of act) old.pools (batons_of old) new.pools
      (batons_of new))
      → Takes mode old nodes c r new nodes2
  noted_taken m k act named gives still says shut notes = record {
    applied = applied;
    refused = refused;
    holds = OnOk_then r notes (λ h calls next last. note_holds old new calls c c m k act refl next aborts named
        (still _) gives says
        shut keeps h);
    last = λ h. absurd (true≢false (sym h ∙ going));
    abort = λ h. absurd (true≢false (sym h ∙ aborts));
    left = λ h. absurd (true≢false (sym h ∙ going));
    bases = said_bases old new c c m k (note_of act) (strings_of act) r refl aborts named notes;
    base = ok_by r (λ ok. no_base c c (batons_of new) nodes2 refl gives);
    pools = pools;
  }

  -- one that closes a token
  pub closed_taken : given_by c ≡ None → HoldsCall old c r new
      → OnOk r ((u : ℕ) (b : Baton) → batons_of new u ≡ Some b → batons_of old u ≡ Some b) → Takes mode old nodes c r new nodes2
  closed_taken gives holds others = record {
    applied = applied;
    refused = refused;
    holds = holds;
    last = λ h. absurd (true≢false (sym h ∙ going));
    abort = λ h. absurd (true≢false (sym h ∙ aborts));
    left = λ h. absurd (true≢false (sym h ∙ going));
    bases = gone_bases old new c r others;
    base = ok_by r (λ ok. no_base c c (batons_of new) nodes2 refl gives);
    pools = pools;
  }

-- the first call
pub target_taken : (mode : Mode) (old : Pending) (nodes : List (Path × BaseNode)) (rev : ℕ)
    → Takes mode old nodes (SetTargetRevision rev) (Ok tt) (record old { target = rev }) nodes
target_taken mode old nodes rev = record {
  applied = λ calls next noted. (refl, λ p. refl);
  refused = tt;
  holds = λ calls next last. record {
    target = sym (target-more calls (SetTargetRevision rev) next.lawful next.in_order);
    batons = held_still old.pools (batons_of old) calls (SetTargetRevision rev) next.holds.batons refl refl (λ t. refl);
  };
  last = λ h. absurd (true≢false (sym h));
  abort = λ h. absurd (true≢false (sym h));
  left = λ h. absurd (true≢false (sym h));
  bases = λ calls next last. still_bases old (SetTargetRevision rev);
  base = no_base (SetTargetRevision rev) (SetTargetRevision rev) (batons_of old) nodes refl refl;
  pools = tt;
}

-- a delete
pub deleted_taken : (mode : Mode) (old : Pending) (nodes nodes2 : List (Path × BaseNode)) (p : Path) (rev parent : ℕ) (r : Result (Unit {0}) EditFault)
    → Applied (step_fault md5 mode [] (get_in nodes) p (Delete rev))
    (step_effect mode old.target [] (record { path = p; action = Delete rev }) (get_in nodes)) nodes r nodes2
    → Takes mode old nodes (DeleteEntry p rev parent) r old nodes2
deleted_taken mode old nodes nodes2 p rev parent r applied = record {
  applied = λ calls next noted. applied_read md5 mode old calls c c nodes nodes2 r refl next
      (step_fault md5 mode [] (get_in nodes) p (Delete rev)) (λ t. step_effect mode t [] (record { path = p; action = Delete rev }) (get_in nodes)) refl refl applied;
  refused = applied_refusal _ _ nodes nodes2 r applied;
  holds = ok_by r (λ ok calls next last. holds_still old calls c c refl next refl refl refl (λ t. refl));
  last = λ h. absurd (true≢false (sym h));
  abort = λ h. absurd (true≢false (sym h));
  left = λ h. absurd (true≢false (sym h));
  bases = ok_by r (λ ok calls next last. still_bases old c);
  base = ok_by r (λ ok. no_base c c (batons_of old) nodes2 refl refl);
  pools = unchanged_left old old c r (OnErr_from r refl);
}
  where
    c : Call
    c = DeleteEntry p rev parent

-- the last call, which takes no memory in an update
pub ended_taken : (mode : Mode) (old : Pending) (nodes nodes2 : List (Path × BaseNode)) (r : Result (Unit {0}) EditFault)
    → (mode ≡ Update → r ≡ Ok tt)
    → Applied (settle_fault mode nodes) (λ p. settled mode old.target p (get_in nodes p)) nodes r nodes2
    → Takes mode old nodes CloseEdit r old nodes2
ended_taken mode old nodes nodes2 r taken applied = record {
  applied = λ calls next noted. end_applied md5 mode old calls CloseEdit nodes nodes2 r refl next applied;
  refused = applied_refusal _ _ nodes nodes2 r applied;
  holds = ok_by r (λ ok calls next last. absurd (true≢false last));
  last = λ h update. subst (λ (x : Result (Unit {0}) EditFault). IfErr x (λ e. e ≢ Memory)) (sym (taken update)) tt;
  abort = λ h. absurd (true≢false (sym h));
  left = λ h. ok_by r (λ ok calls next. end_left old calls CloseEdit refl next);
  bases = ok_by r (λ ok calls next last. absurd (true≢false last));
  base = ok_by r (λ ok. no_base CloseEdit CloseEdit (batons_of old) nodes2 refl refl);
  pools = unchanged_left old old CloseEdit r (OnErr_from r refl);
}

-- giving up
pub aborted_taken : (mode : Mode) (old new : Pending) (nodes : List (Path × BaseNode))
    → IsCleared old.pools new.pools old.pools.root → Takes mode old nodes AbortEdit (Ok tt) new nodes
aborted_taken mode old new nodes cleared = record {
  applied = λ calls next noted. (refl, λ p. refl);
  refused = tt;
  holds = λ calls next last. absurd (true≢false last);
  last = λ h update. tt;
  abort = λ h. tt;
  left = λ h calls next.
      let held = next.holds.batons in
      one_left old.pools new.pools _ held.root held.beneath cleared;
  bases = λ calls next last. absurd (true≢false last);
  base = no_base AbortEdit AbortEdit (batons_of new) nodes refl refl;
  pools = tt;
}

-- an open or an add, by what its function says
pub token_taken : (mode : Mode) (old new : Pending) (nodes nodes2 : List (Path × BaseNode)) (c d : Call) (r : Result (Unit {0}) EditFault) (g : Given)
    (beneath : ℕ) (act : Action) → d ≡ c → is_last c ≡ false → is_abort c ≡ false → given_by c ≡ Some g
    → ((n : ℕ) → next_target n c ≡ n) → noted c ≡ None → beneath ≡ pool_above old.pools.root (batons_of old) (Some g)
    → ((calls : List Call) → edit_fault md5 mode calls c nodes ≡ step_fault md5 mode [] (get_in nodes) g.path act)
    → ((calls : List Call) → effect mode calls c (get_in nodes)
    ≡ step_effect mode (target_of calls) [] (record { path = g.path; action = act }) (get_in nodes))
    → GivesToken mode beneath g.path g.token act old nodes r new nodes2 → (batons_of old g.token ≡ None → OnErr r (KeepsPools old new))
    → OnOk r (OpensBase c (batons_of new) nodes2) → Takes mode old nodes d r new nodes2
token_taken mode old new nodes nodes2 c d r g beneath act is going aborts gives still says place faults effects h unchanged base =
    subst (λ (k : Call). Takes mode old nodes k r new nodes2) (sym is)
    (given_taken mode old new nodes nodes2 c r going aborts h.keeps
    (λ calls next noted. applied_read md5 mode old calls c c nodes nodes2 r refl next
    (step_fault md5 mode [] (get_in nodes) g.path act) (λ t. step_effect mode t [] (record { path = g.path; action = act }) (get_in nodes))
    (faults calls) (effects calls) h.applied)
    (applied_refusal _ _ nodes nodes2 r h.applied)
    (given_left old new c c g r refl gives aborts unchanged) g gives still says beneath place h.opened base)
