-- What a call that is in order and not refused makes of an edit that tests neither.
use Rattle.std.proofs.Common.{◌≡◌, ℕ, Bool, true, false, true≢false, cond, ◌||◌, List, [], ◌∷◌, ◌++◌, refl, sym, ◌∙◌, ap, subst}
use Rattle.std.specs.Prelude.{Option, Some, None, Result, Ok, Err, OnOk, OnErr, IfErr}
use Rattle.std.specs.List.{list_any}
use Rattle.std.specs.Option.{option_or, option_map}
use Rattle.std.proofs.lemmas.Option.{none-some}
use Rattle.md5.specs.Md5.{md5}
use Rattle.std.proofs.Math.Bool.{or-true}
use Rattle.std.proofs.lemmas.Bool.{false_from_ne_true}
use Rattle.svn_lists.proofs.Results.{at_ok, OnOk_then, ok_by, OnErr_from}
use Rattle.svn_lists.proofs.Somewhere.{any_push}
use Rattle.svn_types.specs.Names.{Path}
use Rattle.svn_types.specs.Paths.{path_eq}
use Rattle.svn_types.specs.declared.kind.Kind.TheVariants.{File}
use Rattle.svn_editor.specs.declared.call.Call.{Call}
use Rattle.svn_editor.specs.declared.call.Call.TheVariants.{AddFile, OpenFile, ApplyText, CloseFile, AbortEdit}
use Rattle.svn_editor.specs.declared.fault.EditFault.{EditFault}
use Rattle.svn_editor.specs.declared.fault.EditFault.TheVariants.{EntryExists, TooLong, BaseChecksum, Memory, Order}
use Rattle.svn_editor.specs.declared.fault.OrderFault.{OrderFault}
use Rattle.svn_editor.specs.declared.mode.Mode.{Mode}
use Rattle.svn_editor.specs.declared.mode.Mode.TheVariants.{Update}
use Rattle.svn_editor.specs.Calls.{Given, given_by, path_of, is_abort, is_last}
use Rattle.svn_editor.specs.Order.{order_fault}
use Rattle.svn_editor.specs.Steps.{Open, Add, Text, steps_of, target_of}
use Rattle.svn_editor.proofs.Accepted.{not_ended}
use Rattle.svn_order.proofs.Lawful.{lawful_more}
use Rattle.svn_model.specs.declared.base_node.BaseNode.{BaseNode}
use Rattle.svn_model.specs.declared.base_node.BaseNode.TheVariants.{NotPresent}
use Rattle.svn_model.specs.Nodes.{WorkingCopy, InPathOrder, get_in, is_present, node_text}
use Rattle.svn_model.specs.Effects.{is_too_long, is_wrong_sum, joined_path, effect, step_fault, edit_fault, refusal}
use Rattle.svn_model.specs.Answering.{IsAnswer, AnswersCall}
use Rattle.law_copy.proofs.Appending.{next_target}
use Rattle.law_copy.proofs.OnePath.{noted}
use Rattle.law_copy.proofs.StepEffects.{effect_alone, effect_none}
use Rattle.svn_edit.specs.declared.baton.Baton.{Baton}
use Rattle.svn_edit.specs.declared.baton.Note.TheVariants.{Text as NewText}
use Rattle.svn_edit.specs.declared.pending.Pending.{Pending}
use Rattle.svn_nodes.specs.NodeTests.{IsSumOf, deep_fault}
use Rattle.svn_edit.specs.Applying.{Applied, KeepsTarget, LetsGo, MakesBaton, BatonNoted, IsNext, IsNoted, OpensBase, batons_of, pool_above}
use Rattle.svn_edit.specs.Carrying.{CarriedOut, Carries}
use Rattle.svn_edit.specs.Closing.{ClosesFile}
use Rattle.svn_edit.specs.Taking.{Takes, HoldsCall, KeepsCallBases}
use Rattle.svn_edit.proofs.Bases.{file_of, noted_more, made_bases, said_bases, gone_bases, file_base, no_base, sum_of_none}
use Rattle.svn_edit.proofs.Closes.{named_known, note_holds, text_applied}
use Rattle.svn_edit.proofs.FileCloses.{file_applied, file_holds}
use Rattle.svn_edit.proofs.Holding.{next_is, given_holds, applied_none, applied_copy, applied_refusal, copy_more}

abbrev Answer : Type 0
Answer = Result (Unit {0}) EditFault

-- no refusal is one by neither rule
split : (order : Option OrderFault) (rest : Option EditFault) → option_or (option_map Order order) rest ≡ None
    → (order ≡ None) × (rest ≡ None)
split None rest h = (refl, h)
split (Some f) rest h = absurd (none-some (Order f) (sym h))

is_memory : (e : EditFault) → IsAnswer None e → e ≡ Memory
is_memory Memory h = refl
is_memory e h = absurd (none-some e h)

memory_alone : (w : WorkingCopy) (nodes nodes2 : List (Path × BaseNode)) (r : Answer) (e : EditFault) → r ≡ Err e
    → Applied None w nodes r nodes2 → e ≡ Memory
memory_alone w nodes nodes2 r e is h = is_memory e (subst (λ (x : Answer). Applied None w nodes x nodes2) is h).0

err_of : {P : EditFault → Type 0} (r : Answer) → ((e : EditFault) → r ≡ Err e → P e) → IfErr r P
err_of (Ok done) f = tt
err_of (Err e) f = f e refl

-- the nodes are what the effect of a call that is known makes of them, or memory ran out and they stay
abbrev pub AppliesKnown : Mode → Pending → List (Path × BaseNode) → Call → Answer → List (Path × BaseNode) → Type 0
AppliesKnown mode old nodes c r nodes2 =
    (calls : List Call) → IsNext old calls c → IsNoted calls (batons_of old) nodes
    → edit_fault md5 mode calls c nodes ≡ None → Applied None (effect mode calls c (get_in nodes)) nodes r nodes2

module _ (mode : Mode) (old new : Pending) (nodes nodes2 : List (Path × BaseNode)) (c : Call) (r : Answer) (order : InPathOrder nodes)
    (applied : AppliesKnown mode old nodes c r nodes2) (refused : OnErr r (nodes2 ≡ nodes)) (holds : HoldsCall old c r new)
    (bases : KeepsCallBases old c r new) (base : OnOk r (OpensBase c (batons_of new) nodes2)) where
  -- one call more
  module _ (w0 : WorkingCopy) (calls : List Call) (s : CarriedOut mode w0 old nodes calls)
      (free : refusal md5 mode calls c nodes ≡ None) where
    in_order : order_fault calls c ≡ None
    in_order = (split (order_fault calls c) (edit_fault md5 mode calls c nodes) free).0

    next : IsNext old calls c
    next = next_is mode w0 old nodes calls c s in_order

    before : list_any is_last calls ≡ false
    before = not_ended calls c in_order

    effects : Applied None (effect mode calls c (get_in nodes)) nodes r nodes2
    effects = applied calls next (s.noted before) (split (order_fault calls c) (edit_fault md5 mode calls c nodes) free).1

    -- the call isn't the last
    going : list_any is_last (calls ++ c ∷ []) ≡ false → is_last c ≡ false
    going h = false_from_ne_true (is_last c) (λ e. true≢false (sym (any_push is_last calls c ∙ ap (λ x. list_any is_last calls || x) e
        ∙ or-true (list_any is_last calls)) ∙ h))

    one_more : r ≡ Ok tt → CarriedOut mode w0 new nodes2 (calls ++ c ∷ [])
    one_more ok =
        let copied = at_ok r ok (applied_copy None (effect mode calls c (get_in nodes)) nodes nodes2 r effects) in
        record {
          lawful = lawful_more calls c s.lawful in_order;
          copy = copy_more mode w0 calls c nodes nodes2 s.copy copied;
          going = λ h. at_ok r ok holds calls next (going h);
          noted = λ h. noted_more mode old new calls c nodes nodes2 next (going h) copied (at_ok r ok holds calls next (going h))
              (at_ok r ok bases calls next (going h)) (at_ok r ok base) (s.noted before);
        }

  pub carries : (is_abort c ≡ true → (r ≡ Ok tt) × (nodes2 ≡ nodes)) → Carries mode old nodes c r new nodes2
  carries abort = record {
    carried = ok_by r (λ ok w0 calls s free. one_more w0 calls s free ok);
    memory = err_of r (λ e is w0 calls s free. memory_alone (effect mode calls c (get_in nodes)) nodes nodes2 r e is
        (effects w0 calls s free));
    refused = refused;
    abort = abort;
    order = order;
  }

-- a call that is applied as one where neither is known
pub taken_carries : (mode : Mode) (old new : Pending) (nodes nodes2 : List (Path × BaseNode)) (c : Call) (r : Answer) → InPathOrder nodes
    → (c ≡ AbortEdit → ⊥) → Takes mode old nodes c r new nodes2 → Carries mode old nodes c r new nodes2
taken_carries mode old new nodes nodes2 c r order not_abort t =
    carries mode old new nodes nodes2 c r order
    (λ calls next noted free. subst (λ (f : Option EditFault). Applied f (effect mode calls c (get_in nodes)) nodes r nodes2) free
    (t.applied calls next noted))
    t.refused t.holds t.bases t.base (λ h. absurd (true≢false (sym h ∙ other c not_abort)))
  where
    other : (d : Call) → (d ≡ AbortEdit → ⊥) → is_abort d ≡ false
    other AbortEdit n = absurd (n refl)
    other _ n = refl

-- giving up
pub abort_carries : (mode : Mode) (old : Pending) (nodes : List (Path × BaseNode)) → InPathOrder nodes → Carries mode old nodes AbortEdit (Ok tt) old nodes
abort_carries mode old nodes order =
    carries mode old old nodes nodes AbortEdit (Ok tt) order (λ calls next noted free. (refl, λ p. refl)) tt
    (λ calls next last. absurd (true≢false last)) (λ calls next last. absurd (true≢false last))
    (no_base AbortEdit AbortEdit (batons_of old) nodes refl refl) (λ h. (refl, refl))

-- a file that gets a baton, with nothing noted of its text
module _ (mode : Mode) (old new : Pending) (nodes nodes2 : List (Path × BaseNode)) (c : Call) (g : Given) (r : Answer) (order : InPathOrder nodes)
    (gives : given_by c ≡ Some g) (still : (n : ℕ) → next_target n c ≡ n) (says : noted c ≡ None) (aborts : is_abort c ≡ false)
    (place : old.pools.root ≡ pool_above old.pools.root (batons_of old) (Some g))
    (opened : OnOk r (MakesBaton old.pools.root g.path g.token old new))
    (base : OnOk r ((b : Baton) → batons_of new g.token ≡ Some b → b.base ≡ None)) (keeps : KeepsTarget old new) where
  file_carries : AppliesKnown mode old nodes c r nodes2 → OnErr r (nodes2 ≡ nodes) → Carries mode old nodes c r new nodes2
  file_carries applied refused =
      carries mode old new nodes nodes2 c r order applied refused
      (given_holds old new c c g r refl still gives says aborts keeps old.pools.root place opened)
      (made_bases old new c c g r old.pools.root refl gives opened)
      (file_base c c g (batons_of new) nodes2 r refl gives
      (OnOk_then r base (λ none b there. sum_of_none b.base nodes2 g.path (none b there))))
      (λ h. absurd (true≢false (sym h ∙ aborts)))

-- a known file is opened
pub opened_carries : (mode : Mode) (old new : Pending) (nodes : List (Path × BaseNode)) (p : Path) (parent base token : ℕ) (r : Answer)
    → InPathOrder nodes → OnOk r (MakesBaton old.pools.root p token old new)
    → OnOk r ((b : Baton) → batons_of new token ≡ Some b → b.base ≡ None) → KeepsTarget old new → IfErr r (λ e. e ≡ Memory)
    → Carries mode old nodes (OpenFile p parent base token) r new nodes
opened_carries mode old new nodes p parent base token r order opened none keeps fault =
    file_carries mode old new nodes nodes (OpenFile p parent base token)
    (record { kind = File; path = p; parent = Some parent; token = token }) r order refl (λ n. refl) refl refl refl opened none keeps
    (λ calls next noted free. applied_none None (effect mode calls (OpenFile p parent base token) (get_in nodes)) nodes r refl
    (effect_none mode (target_of calls) (steps_of calls) p (Open File base) (get_in nodes) (λ o. refl) refl) fault)
    (OnErr_from r refl)

-- one is added
pub added_carries : (mode : Mode) (old new : Pending) (nodes nodes2 : List (Path × BaseNode)) (p : Path) (parent token : ℕ) (r : Answer)
    → InPathOrder nodes → OnOk r (MakesBaton old.pools.root p token old new)
    → OnOk r ((b : Baton) → batons_of new token ≡ Some b → b.base ≡ None) → KeepsTarget old new
    → Applied (cond (is_present (get_in nodes p)) (Some EntryExists) None) (λ q. cond (path_eq p q) (Some NotPresent) (get_in nodes q)) nodes
    r nodes2 → Carries mode old nodes (AddFile p parent token) r new nodes2
added_carries mode old new nodes nodes2 p parent token r order opened none keeps h =
    file_carries mode old new nodes nodes2 (AddFile p parent token)
    (record { kind = File; path = p; parent = Some parent; token = token }) r order refl (λ n. refl) refl refl refl opened none keeps
    (λ calls next noted free. subst (λ (v : WorkingCopy). Applied None v nodes r nodes2)
    (λ i q. sym (effect_alone mode (target_of calls) (steps_of calls) p (Add File) (get_in nodes) (λ o. refl) q) i)
    (subst (λ (f : Option EditFault). Applied f (λ q. cond (path_eq p q) (Some NotPresent) (get_in nodes q)) nodes r nodes2)
    (absent (is_present (get_in nodes p)) (deep_fault (joined_path (get_in nodes) p)) free) h))
    (applied_refusal _ _ nodes nodes2 r h)
  where
    absent : (present : Bool) (deep : Option EditFault) → cond present (Some EntryExists) deep ≡ None
        → cond present (Some EntryExists) None ≡ None
    absent true deep is = is
    absent false deep is = refl

-- a text comes whose checksum is not looked at
pub text_carries : (mode : Mode) (old new : Pending) (nodes : List (Path × BaseNode)) (t : ℕ) (sum : Option (List ℕ)) (text : List ℕ) (r : Answer)
    → InPathOrder nodes → KeepsTarget old new
    → ((b : Baton) → batons_of old t ≡ Some b → IsSumOf b.base nodes b.path
    → AnswersCall (step_fault md5 Update [] (get_in nodes) b.path (Text None text)) r)
    → OnOk r ((b : Baton) → batons_of old t ≡ Some b
    → BatonNoted t b NewText (text ∷ []) old.pools (batons_of old) new.pools (batons_of new))
    → Carries mode old nodes (ApplyText t sum text) r new nodes
text_carries mode old new nodes t sum text r order keeps answers notes =
    carries mode old new nodes nodes (ApplyText t sum text) r order
    (λ calls next noted free.
    let bare : IsNext old calls (ApplyText t None text) =
    record { holds = next.holds; lawful = next.lawful; in_order = sym (text_order calls) ∙ next.in_order } in
    let k = named_known old calls (ApplyText t sum text) (ApplyText t sum text) t File refl next refl refl in
    subst (λ (f : Option EditFault). Applied f (effect mode calls (ApplyText t sum text) (get_in nodes)) nodes r nodes)
    (short (is_too_long (Some text)) (is_wrong_sum sum (md5 (node_text (get_in nodes (path_of calls t))))) free)
    (text_applied md5 mode old calls t None text (ApplyText t None text) nodes r refl bare
    (λ b there. answers b there (noted t b k.given_as there k.is (file_of k.given_as.kind k.kind)))))
    (OnErr_from r refl)
    (OnOk_then r notes (λ h calls next last. note_holds old new calls (ApplyText t sum text) (ApplyText t sum text) t File
    (Text sum text) refl next refl refl refl refl refl (λ u. refl) keeps h))
    (said_bases old new (ApplyText t sum text) (ApplyText t sum text) t File NewText (text ∷ []) r refl refl refl notes)
    (ok_by r (λ ok. no_base (ApplyText t sum text) (ApplyText t sum text) (batons_of new) nodes refl refl))
    (λ h. absurd (true≢false (sym h)))
  where
    short : (long wrong : Bool) → cond long (Some TooLong) (cond wrong (Some BaseChecksum) None) ≡ None → cond long (Some TooLong) None ≡ None
    short true wrong is = is
    short false wrong is = refl

    text_order : (calls : List Call) → order_fault calls (ApplyText t sum text) ≡ order_fault calls (ApplyText t None text)
    text_order [] = refl
    text_order (c ∷ calls) = refl

-- a file is closed, and no checksum is looked at
pub closed_carries : (mode : Mode) (old new : Pending) (nodes nodes2 : List (Path × BaseNode)) (t : ℕ) (sum : Option (List ℕ)) (r : Answer)
    → InPathOrder nodes → KeepsTarget old new → OnOk r (LetsGo t old new)
    → OnOk r ((u : ℕ) (b : Baton) → batons_of new u ≡ Some b → batons_of old u ≡ Some b)
    → ((b : Baton) → batons_of old t ≡ Some b → ClosesFile mode old b None nodes r nodes2) → OnErr r (nodes2 ≡ nodes)
    → Carries mode old nodes (CloseFile t sum) r new nodes2
closed_carries mode old new nodes nodes2 t sum r order keeps gone others closes refused =
    carries mode old new nodes nodes2 (CloseFile t sum) r order
    (λ calls next noted free. file_applied old new calls t None (CloseFile t None) refl
    (record { holds = next.holds; lawful = next.lawful; in_order = sym (close_order calls) ∙ next.in_order }) mode nodes nodes2 r closes)
    refused
    (OnOk_then r gone (λ g calls next last. file_holds old new calls t sum (CloseFile t sum) refl next keeps g))
    (gone_bases old new (CloseFile t sum) r others)
    (ok_by r (λ ok. no_base (CloseFile t sum) (CloseFile t sum) (batons_of new) nodes2 refl refl))
    (λ h. absurd (true≢false (sym h)))
  where
    close_order : (calls : List Call) → order_fault calls (CloseFile t sum) ≡ order_fault calls (CloseFile t None)
    close_order [] = refl
    close_order (c ∷ calls) = refl
