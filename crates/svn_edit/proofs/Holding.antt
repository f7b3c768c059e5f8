-- What an edit holds after one more call.
use Rattle.std.proofs.Common.{◌≡◌, ℕ, Bool, true, false, true≢false, cond, List, [], ◌∷◌, ◌++◌, refl, sym, ◌∙◌, ap, subst}
use Rattle.std.specs.Prelude.{Option, Some, None, Result, Ok, Err, OnOk, OnErr, IfErr}
use Rattle.std.specs.Option.{option_or, option_map}
use Rattle.svn_lists.proofs.Results.{OnOk_then}
use Rattle.svn_types.specs.Names.{Path}
use Rattle.svn_editor.specs.declared.call.Call.{Call}
use Rattle.svn_editor.specs.declared.fault.EditFault.{EditFault}
use Rattle.svn_editor.specs.declared.fault.EditFault.TheVariants.{EntryExists, Memory, Order}
use Rattle.svn_editor.specs.declared.call.Call.TheVariants.{AbortEdit}
use Rattle.svn_editor.specs.declared.fault.OrderFault.{OrderFault}
use Rattle.svn_editor.specs.declared.fault.OrderFault.TheVariants.{Memory as NoMemory}
use Rattle.svn_editor.specs.Calls.{Given, given_by, closes, is_abort, is_last}
use Rattle.svn_editor.specs.Order.{order_fault, Answers}
use Rattle.svn_editor.specs.Faults.{as_edit_fault}
use Rattle.svn_types.specs.declared.kind.Kind.{Kind}
use Rattle.svn_types.specs.Paths.{path_eq}
use Rattle.svn_editor.specs.declared.mode.Mode.{Mode}
use Rattle.svn_editor.specs.Steps.{Add, target_of}
use Rattle.svn_editor.proofs.Accepted.{accepted, not_ended}
use Rattle.svn_order.proofs.Lawful.{sound}
use Rattle.svn_model.specs.declared.base_node.BaseNode.{BaseNode}
use Rattle.svn_edit.specs.declared.edit.Edit.{Edit}
use Rattle.svn_edit.specs.declared.pending.Pending.{Pending}
use Rattle.svn_model.specs.Nodes.{WorkingCopy, get_in, is_present}
use Rattle.svn_model.specs.Effects.{effect, after, edit_fault, refusal, added_node, joined_path, step_fault, step_effect}
use Rattle.svn_nodes.specs.NodeTests.{deep_fault}
use Rattle.svn_edit.specs.Applying.{Applied, KeepsTarget, MakesBaton, batons_of, pool_above, Holds, IsNext, StandsAfter}
use Rattle.svn_edit.specs.Applying.{HoldsBatons}
use Rattle.svn_edit.specs.Carrying.{CarriedOut}
use Rattle.svn_model.specs.Answering.{IsAnswer, AnswersCall}
use Rattle.law_copy.proofs.Appending.{after-more, next_target, target-more}
use Rattle.law_copy.proofs.OnePath.{noted, pathed}
use Rattle.law_copy.proofs.StepEffects.{effect_alone}
use Rattle.svn_edit.proofs.HeldBatons.{held_still, held_made}

-- a call without effect and fault, whose only refusal is for memory
pub applied_none : (fault : Option EditFault) (w : WorkingCopy) (nodes : List (Path × BaseNode)) (r : Result (Unit {0}) EditFault)
    → fault ≡ None → ((p : Path) → get_in nodes p ≡ w p) → IfErr r (λ e. e ≡ Memory)
    → Applied fault w nodes r nodes
applied_none fault w nodes (Ok done) none same h = (none, same)
applied_none fault w nodes (Err e) none same h = (subst (IsAnswer fault) (sym h) tt, refl)

-- a refusal leaves the nodes
pub applied_refused : (fault : Option EditFault) (w : WorkingCopy) (nodes nodes2 : List (Path × BaseNode))
    (r : Result (Unit {0}) EditFault) (e : EditFault) → r ≡ Err e → IsAnswer fault e → nodes2 ≡ nodes → Applied fault w nodes r nodes2
applied_refused fault w nodes nodes2 r e is h same =
    subst (λ (x : Result (Unit {0}) EditFault). Applied fault w nodes x nodes2) (sym is) (h, same)

-- where a node is present, that is reported, and no other fault
pub add_answer : (present : Bool) (fault : Option EditFault) (f r : EditFault) → (present ≡ false → IsAnswer fault f)
    → r ≡ cond present EntryExists f → IsAnswer (cond present (Some EntryExists) fault) r
add_answer true fault f r h is = subst (IsAnswer (Some EntryExists)) (sym is) refl
add_answer false fault f r h is = subst (IsAnswer fault) (sym is) (h refl)

-- what an add makes of the nodes, read as its step
pub applied_add : (checksum : List ℕ → List ℕ) (mode : Mode) (target : ℕ) (kind : Kind) (at : Path) (nodes nodes2 : List (Path × BaseNode))
    (r : Result (Unit {0}) EditFault) → let w = get_in nodes in let q = joined_path w at in
    Applied (cond (is_present (w at)) (Some EntryExists) (deep_fault q)) (λ p. cond (path_eq at p) (Some (added_node kind target q)) (w p))
    nodes r nodes2 → Applied (step_fault checksum mode [] w at (Add kind))
    (step_effect mode target [] (record { path = at; action = Add kind }) w) nodes r nodes2
applied_add checksum mode target kind at nodes nodes2 r h =
    subst (λ (v : WorkingCopy). Applied (step_fault checksum mode [] (get_in nodes) at (Add kind)) v nodes r nodes2)
    (λ i p. sym (effect_alone mode target [] at (Add kind) (get_in nodes) (λ o. refl) p) i) h

pub applied_some : (fault : Option EditFault) (w : WorkingCopy) (nodes nodes2 : List (Path × BaseNode)) (r : Result (Unit {0}) EditFault)
    → fault ≡ None → OnOk r ((p : Path) → get_in nodes2 p ≡ w p)
    → IfErr r (λ e. (e ≡ Memory) × (nodes2 ≡ nodes)) → Applied fault w nodes r nodes2
applied_some fault w nodes nodes2 (Ok done) none same h = (none, same)
applied_some fault w nodes nodes2 (Err e) none same h = (subst (IsAnswer fault) (sym h.0) tt, h.1)

-- ---- what is held

module _ (old new : Pending) (calls : List Call) (c d : Call) (is : d ≡ c) (next : IsNext old calls d)
    (keeps : KeepsTarget old new) (still : next_target (target_of calls) c ≡ target_of calls) where
  pub in_order : order_fault calls c ≡ None
  in_order = ap (order_fault calls) (sym is) ∙ next.in_order

  pub holds_by : HoldsBatons new.pools (batons_of new) (calls ++ c ∷ []) → Holds new (calls ++ d ∷ [])
  holds_by h = record {
    target = keeps ∙ next.holds.target ∙ sym (ap (λ (x : Call). target_of (calls ++ x ∷ [])) is
        ∙ target-more calls c next.lawful in_order ∙ still);
    batons = subst (λ (x : Call). HoldsBatons new.pools (batons_of new) (calls ++ x ∷ [])) (sym is) h;
  }

-- a call that gives a token
pub given_holds : (old new : Pending) (c d : Call) (g : Given) (r : Result (Unit {0}) EditFault) → d ≡ c → ((n : ℕ) → next_target n c ≡ n)
    → given_by c ≡ Some g → noted c ≡ None → is_abort c ≡ false → KeepsTarget old new → (beneath : ℕ)
    → beneath ≡ pool_above old.pools.root (batons_of old) (Some g) → OnOk r (MakesBaton beneath g.path g.token old new)
    → OnOk r ((calls : List Call) → IsNext old calls d → is_last d ≡ false → Holds new (calls ++ d ∷ []))
given_holds old new c d g r is still gives says going keeps beneath place made = OnOk_then r made (λ baton calls next last.
    holds_by old new calls c d is next keeps (still (target_of calls))
    (held_made old.pools (batons_of old) calls c g next.holds.batons (sound calls next.lawful) (pathed calls next.lawful)
    (accepted calls c going (in_order old new calls c d is next keeps (still (target_of calls)))) gives says new.pools (batons_of new)
    (subst (λ n. MakesBaton n g.path g.token old new) place baton)))

-- a call that changes no baton
pub holds_still : (old : Pending) (calls : List Call) (c d : Call) → d ≡ c → IsNext old calls d
    → next_target (target_of calls) c ≡ target_of calls → given_by c ≡ None → noted c ≡ None → ((t : ℕ) → closes t c ≡ false)
    → Holds old (calls ++ d ∷ [])
holds_still old calls c d is next still none says shut =
    holds_by old old calls c d is next refl still
    (held_still old.pools (batons_of old) calls c next.holds.batons none says shut)

-- ---- results

pub order_none : (fault : Option OrderFault) → Answers fault (Ok tt) → fault ≡ None
order_none None h = refl
order_none (Some f) h = absurd h

pub refusal_is : (checksum : List ℕ → List ℕ) (mode : Mode) (calls : List Call) (c : Call) (nodes : List (Path × BaseNode))
    → order_fault calls c ≡ None → refusal checksum mode calls c nodes ≡ edit_fault checksum mode calls c nodes
refusal_is checksum mode calls c nodes h = ap (λ (o : Option OrderFault). option_or (option_map Order o)
    (edit_fault checksum mode calls c nodes)) h

pub applied_answer : (fault : Option EditFault) (w : WorkingCopy) (nodes nodes2 : List (Path × BaseNode)) (r : Result (Unit {0}) EditFault)
    → Applied fault w nodes r nodes2 → AnswersCall fault r
applied_answer fault w nodes nodes2 (Ok done) h = h.0
applied_answer fault w nodes nodes2 (Err e) h = h.0

pub applied_copy : (fault : Option EditFault) (w : WorkingCopy) (nodes nodes2 : List (Path × BaseNode)) (r : Result (Unit {0}) EditFault)
    → Applied fault w nodes r nodes2 → OnOk r ((p : Path) → get_in nodes2 p ≡ w p)
applied_copy fault w nodes nodes2 (Ok done) h = h.1
applied_copy fault w nodes nodes2 (Err e) h = tt

pub applied_refusal : (fault : Option EditFault) (w : WorkingCopy) (nodes nodes2 : List (Path × BaseNode)) (r : Result (Unit {0}) EditFault)
    → Applied fault w nodes r nodes2 → OnErr r (nodes2 ≡ nodes)
applied_refusal fault w nodes nodes2 (Ok done) h = tt
applied_refusal fault w nodes nodes2 (Err e) h = h.1

-- the copy after one more call
pub copy_more : (mode : Mode) (w0 : WorkingCopy) (calls : List Call) (c : Call) (nodes nodes2 : List (Path × BaseNode))
    → ((p : Path) → get_in nodes p ≡ after mode w0 calls p)
    → ((p : Path) → get_in nodes2 p ≡ effect mode calls c (get_in nodes) p) → (p : Path)
    → get_in nodes2 p ≡ after mode w0 (calls ++ c ∷ []) p
copy_more mode w0 calls c nodes nodes2 before same p =
    let whole : get_in nodes ≡ after mode w0 calls = λ i q. before q i in
    same p ∙ ap (λ (w : WorkingCopy). effect mode calls c w p) whole ∙ sym (ap (λ (w : WorkingCopy). w p) (after-more mode w0 calls c))

-- an edit without its order check
pub carried_of : (mode : Mode) (w0 : WorkingCopy) (edit : Edit) (nodes : List (Path × BaseNode)) (calls : List Call)
    → StandsAfter mode w0 edit nodes calls → CarriedOut mode w0 edit.pending nodes calls
carried_of mode w0 edit nodes calls s = record {
  lawful = s.order.lawful;
  copy = s.copy;
  going = s.going;
  noted = s.noted;
}

-- an edit that goes on holds what it should
pub next_is : (mode : Mode) (w0 : WorkingCopy) (edit : Pending) (nodes : List (Path × BaseNode)) (calls : List Call) (c : Call)
    → CarriedOut mode w0 edit nodes calls → order_fault calls c ≡ None → IsNext edit calls c
next_is mode w0 edit nodes calls c s h = record { holds = s.going (not_ended calls c h); lawful = s.lawful; in_order = h }

-- ---- results

pub err_kept : (nodes nodes2 : List (Path × BaseNode)) (r : Result (Unit {0}) EditFault) → IfErr r (λ e. (e ≡ Memory) × (nodes2 ≡ nodes))
    → OnErr r (nodes2 ≡ nodes)
err_kept nodes nodes2 (Ok done) h = tt
err_kept nodes nodes2 (Err e) h = h.1

abbrev pub refused_by : OrderFault → Result (Unit {0}) OrderFault
refused_by e = Err e

-- an order fault is the refusal
pub order_refused : (fault : Option OrderFault) (e : OrderFault) (rest : Option EditFault) → Answers fault (refused_by e)
    → IsAnswer (option_or (option_map Order fault) rest) (as_edit_fault e)
order_refused fault NoMemory rest h = tt
order_refused None e rest h = cc
order_refused (Some f) e rest h = ap (λ (x : OrderFault). Some (Order x)) (sym h)

-- ---- one step read with the target of the edit

pub applied_read : (checksum : List ℕ → List ℕ) (mode : Mode) (edit : Pending) (calls : List Call) (c d : Call)
    (nodes nodes2 : List (Path × BaseNode)) (r : Result (Unit {0}) EditFault) → d ≡ c → IsNext edit calls d
    → (fault : Option EditFault) (W : ℕ → WorkingCopy) → edit_fault checksum mode calls c nodes ≡ fault
    → effect mode calls c (get_in nodes) ≡ W (target_of calls) → Applied fault (W edit.target) nodes r nodes2
    → Applied (edit_fault checksum mode calls d nodes) (effect mode calls d (get_in nodes)) nodes r nodes2
applied_read checksum mode edit calls c d nodes nodes2 r is next fault W faults effects h =
    let read : fault ≡ edit_fault checksum mode calls d nodes = sym faults ∙ ap (λ (x : Call). edit_fault checksum mode calls x nodes) (sym is) in
    let after : W edit.target ≡ effect mode calls d (get_in nodes) = ap W next.holds.target ∙ sym effects
    ∙ ap (λ (x : Call). effect mode calls x (get_in nodes)) (sym is) in
    subst (λ (x : Option EditFault). Applied x (effect mode calls d (get_in nodes)) nodes r nodes2) read
    (subst (λ (v : WorkingCopy). Applied fault v nodes r nodes2) after h)

-- what isn't Memory isn't returned as such
pub not_memory : (e : OrderFault) → (e ≡ NoMemory → ⊥) → as_edit_fault e ≡ Memory → ⊥
not_memory NoMemory n = absurd (n refl)
not_memory e n = λ m. cc

pub abort_is_last : (c : Call) → is_abort c ≡ true → is_last c ≡ true
abort_is_last AbortEdit h = refl
abort_is_last _ h = absurd (true≢false (sym h))
