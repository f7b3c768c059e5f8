-- What is known of a copy after a call of an applier: that no path is switched, and that it is level.
use Rattle.std.proofs.Common.{◌≡◌, Bool, true, false, List, [], ◌∷◌, ◌++◌, refl, sym, ap, ◌∙◌, subst, None, true≢false, ◌↔◌, IsTrue}
use Rattle.std.specs.Prelude.{Result, Ok, Err}
use Rattle.std.specs.Coded.{Coded-set, coded_list, coded_ℕ}
use Rattle.svn_types.specs.Names.{Path}
use Rattle.svn_editor.specs.declared.call.Call.{Call}
use Rattle.svn_editor.specs.declared.call.Call.TheVariants.{CloseEdit, AbortEdit}
use Rattle.svn_editor.specs.declared.fault.EditFault.{EditFault}
use Rattle.svn_editor.specs.declared.mode.Mode.{Mode}
use Rattle.svn_editor.specs.declared.mode.Mode.TheVariants.{Update, SwitchTo}
use Rattle.svn_model.specs.declared.base_node.BaseNode.{BaseNode}
use Rattle.svn_model.specs.Nodes.{WorkingCopy, get_in, IsWorkingCopy}
use Rattle.svn_model.specs.Effects.{effect, refusal}
use Rattle.md5.specs.Md5.{md5}
use Rattle.svn_edit.specs.declared.edit.Edit.{Edit}
use Rattle.svn_edit.specs.declared.edit.Stage.{Stage}
use Rattle.svn_edit.specs.declared.edit.Stage.TheVariants.{Going, Refused, Ended}
use Rattle.svn_edit.specs.Applying.{StandsAfter, StaysRefused}
use Rattle.law_copy.proofs.Appending.{after-more}
use Rattle.svn_wc.specs.Taking.{TakesCall, GoesOn, IsInShape}
use Rattle.svn_wc.specs.Unswitched.{IsUnswitched, IsLevel}
use Rattle.svn_wc.proofs.Completing.{level_after}
use Rattle.svn_wc.proofs.Unswitched.{effect_unswitched, switch_unswitched}

pub IsUnswitched-prop : (w : WorkingCopy) (a b : IsUnswitched w) → a ≡ b
IsUnswitched-prop w a b i = λ p present. Coded-set (coded_list (coded_list coded_ℕ)) _ _ (a p present) (b p present) i

module _ (mode : Mode) (was_level : Bool) (old new : Edit) (w w' : List (Path × BaseNode)) (c : Call) where
  module _ (g : GoesOn mode was_level old w) where
    taken_effect : StandsAfter mode g.start new w' (g.calls ++ c ∷ []) → get_in w' ≡ effect mode g.calls c (get_in w)
    taken_effect after =
        (λ i p. after.copy p i) ∙ after-more mode g.start g.calls c ∙ ap (effect mode g.calls c) (λ i p. sym (g.stands.copy p) i)

  -- after a refusal the last call is refused too
  not_taken : (c : Call) (answer : Result (Unit {0}) EditFault) → c ≡ CloseEdit → StaysRefused c answer new → answer ≡ Ok tt → ⊥
  not_taken AbortEdit answer is h ok = cc
  not_taken CloseEdit answer is h ok = let e = sym h.0 ∙ ok in cc
  not_taken c answer is h ok = cc

  same : w' ≡ w → IsUnswitched (get_in w) → IsUnswitched (get_in w')
  same e u = subst (λ (nodes : List (Path × BaseNode)). IsUnswitched (get_in nodes)) (sym e) u

  -- an update
  pub kept_unswitched : (answer : Result (Unit {0}) EditFault) → TakesCall mode old w c answer new w' → IsInShape mode was_level old w
      → IsWorkingCopy (get_in w') → mode ≡ Update → IsUnswitched (get_in w) → IsUnswitched (get_in w')
  kept_unswitched answer takes shape after update unswitched = by old.stage refl answer takes
    where
      by : (stage : Stage) → old.stage ≡ stage → (answer : Result (Unit {0}) EditFault) → TakesCall mode old w c answer new w'
          → IsUnswitched (get_in w')
      by Going is (Ok done) t =
          let g = shape is in
          let stands = t.accepted g.start g.calls g.stands in
          let new_copy : get_in w' ≡ effect Update g.calls c (get_in w) =
          taken_effect g stands ∙ ap (λ (m : Mode). effect m g.calls c (get_in w)) update in
          subst IsUnswitched (sym new_copy) (effect_unswitched (get_in w) g.calls c unswitched (subst IsWorkingCopy new_copy after))
      by Going is (Err e) t = let g = shape is in same (t.refused g.start g.calls g.stands) unswitched
      by Refused is answer t = same (t.was_refused is).1 unswitched
      by Ended is answer t = same (t.ended is).1 unswitched

  -- the last call of a switch
  pub closed_unswitched : (answer : Result (Unit {0}) EditFault) → TakesCall mode old w c answer new w' → IsInShape mode was_level old w
      → IsWorkingCopy (get_in w') → (root : Path) → mode ≡ SwitchTo root → c ≡ CloseEdit → answer ≡ Ok tt
      → IsUnswitched (get_in w')
  closed_unswitched answer takes shape after root switch close ok = by old.stage refl answer takes ok
    where
      by : (stage : Stage) → old.stage ≡ stage → (answer : Result (Unit {0}) EditFault) → TakesCall mode old w c answer new w'
          → answer ≡ Ok tt → IsUnswitched (get_in w')
      by Going is (Ok done) t ok =
          let g = shape is in
          let stands = t.accepted g.start g.calls g.stands in
          let new_copy : get_in w' ≡ effect (SwitchTo root) g.calls CloseEdit (get_in w) =
          taken_effect g stands ∙ (λ i. effect (switch i) g.calls (close i) (get_in w)) in
          subst IsUnswitched (sym new_copy) (switch_unswitched (get_in w) g.calls root (subst IsWorkingCopy new_copy after))
      by Going is (Err e) t ok = absurd cc
      by Refused is answer t ok = absurd (not_taken c answer close (t.was_refused is).0 ok)
      by Ended is answer t ok = let e = sym (t.ended is).0.0 ∙ ok in absurd cc

  -- what an applier notes
  pub still_unswitched : (answer : Result (Unit {0}) EditFault) → TakesCall mode old w c answer new w' → IsInShape mode was_level old w
      → IsWorkingCopy (get_in w') → (is_update : Bool) → IsTrue is_update ↔ (mode ≡ Update) → (was result : Bool)
      → (is_update ≡ true → result ≡ was) → (is_update ≡ false → result ≡ true → (c ≡ CloseEdit) × (answer ≡ Ok tt)) → result ≡ true
      → (was ≡ true → IsUnswitched (get_in w)) → IsUnswitched (get_in w')
  still_unswitched answer takes shape after true iff was result update switch known before =
      kept_unswitched answer takes shape after (iff.0 refl) (before (sym (update refl) ∙ known))
  still_unswitched answer takes shape after false iff was result update switch known before = by mode refl
    where
      by : (m : Mode) → mode ≡ m → IsUnswitched (get_in w')
      by Update is = absurd (true≢false (sym (iff.1 is)))
      by (SwitchTo root) is =
          let closed = switch refl known in closed_unswitched answer takes shape after root is closed.0 closed.1

  -- after the last call, a copy that was level is so again
  pub level_again : (answer : Result (Unit {0}) EditFault) → TakesCall mode old w c answer new w' → IsInShape mode was_level old w
      → was_level ≡ true → c ≡ CloseEdit → answer ≡ Ok tt → IsLevel (get_in w')
  level_again answer takes shape was close ok = by old.stage refl answer takes ok
    where
      by : (stage : Stage) → old.stage ≡ stage → (answer : Result (Unit {0}) EditFault) → TakesCall mode old w c answer new w'
          → answer ≡ Ok tt → IsLevel (get_in w')
      by Going is (Ok done) t ok =
          let g = shape is in
          let stands = t.accepted g.start g.calls g.stands in
          let new_copy : get_in w' ≡ effect mode g.calls CloseEdit (get_in w) =
          taken_effect g stands ∙ (λ i. effect mode g.calls (close i) (get_in w)) in
          let taken : refusal md5 mode g.calls CloseEdit w ≡ None =
          subst (λ (d : Call). refusal md5 mode g.calls d w ≡ None) close (t.answers g.start g.calls g.stands) in
          subst IsLevel (sym new_copy) (level_after md5 mode w g.calls g.stands.order.lawful taken (g.opened was))
      by Going is (Err e) t ok = absurd cc
      by Refused is answer t ok = absurd (not_taken c answer close (t.was_refused is).0 ok)
      by Ended is answer t ok = let e = sym (t.ended is).0.0 ∙ ok in absurd cc
