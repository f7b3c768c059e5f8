-- One more call: what it makes of the steps, the copy and the target.
use Rattle.std.proofs.Common.{◌≡◌, ℕ, Bool, true, false, cond, ◌&&◌, List, [], ◌∷◌, ◌++◌, refl, sym, ◌∙◌, ap, append_assoc, append-nil}
use Rattle.std.specs.Prelude.{Option, Some, None}
use Rattle.std.specs.List.{cons_option, list_any}
use Rattle.svn_lists.proofs.Options.{some-none}
use Rattle.svn_types.specs.Names.{Path}
use Rattle.svn_types.specs.Paths.{path_eq}
use Rattle.svn_editor.specs.declared.call.Call.{Call}
use Rattle.svn_editor.specs.declared.call.Call.TheVariants.{SetTargetRevision, AbortEdit}
use Rattle.svn_editor.specs.declared.fault.OrderFault.TheVariants.{Ended, TargetFirst}
use Rattle.svn_editor.specs.Calls.{is_last}
use Rattle.svn_editor.specs.Order.{order_fault, IsLawful}
use Rattle.svn_editor.specs.declared.mode.Mode.{Mode}
use Rattle.svn_editor.specs.Steps.{Action, Step, step_of, steps_after, steps_of, target_of}
use Rattle.svn_model.specs.Nodes.{WorkingCopy}
use Rattle.svn_model.specs.Effects.{effect, after_from, after}
use Rattle.svn_model.specs.Said.{says, said_at}

steps_after-more : (earlier calls : List Call) (c : Call)
    → steps_after earlier (calls ++ c ∷ []) ≡ steps_after earlier calls ++ cons_option (step_of (earlier ++ calls) c) []
steps_after-more earlier [] c = ap (λ (e : List Call). cons_option (step_of e c) []) (sym (append-nil earlier))
steps_after-more earlier (d ∷ calls) c =
    by (step_of earlier d)
    (steps_after-more (earlier ++ d ∷ []) calls c
    ∙ ap (λ (e : List Call). steps_after (earlier ++ d ∷ []) calls ++ cons_option (step_of e c) [])
    (append_assoc earlier (d ∷ []) calls))
  where
    by : (o : Option Step)
        → steps_after (earlier ++ d ∷ []) (calls ++ c ∷ []) ≡ steps_after (earlier ++ d ∷ []) calls
        ++ cons_option (step_of (earlier ++ d ∷ calls) c) []
        → cons_option o (steps_after (earlier ++ d ∷ []) (calls ++ c ∷ [])) ≡ cons_option o (steps_after (earlier ++ d ∷ []) calls)
        ++ cons_option (step_of (earlier ++ d ∷ calls) c) []
    by None e = e
    by (Some s) e = ap (λ (l : List Step). s ∷ l) e

pub steps-more : (calls : List Call) (c : Call) → steps_of (calls ++ c ∷ []) ≡ steps_of calls ++ cons_option (step_of calls c) []
steps-more calls c = steps_after-more [] calls c

pub after_from-more : (mode : Mode) (earlier : List Call) (w : WorkingCopy) (calls : List Call) (c : Call)
    → after_from mode earlier w (calls ++ c ∷ []) ≡ effect mode (earlier ++ calls) c (after_from mode earlier w calls)
after_from-more mode earlier w [] c = ap (λ (e : List Call). effect mode e c w) (sym (append-nil earlier))
after_from-more mode earlier w (d ∷ calls) c =
    after_from-more mode (earlier ++ d ∷ []) (effect mode earlier d w) calls c
    ∙ ap (λ (e : List Call). effect mode e c (after_from mode (earlier ++ d ∷ []) (effect mode earlier d w) calls))
    (append_assoc earlier (d ∷ []) calls)

pub after-more : (mode : Mode) (w : WorkingCopy) (calls : List Call) (c : Call)
    → after mode w (calls ++ c ∷ []) ≡ effect mode calls c (after mode w calls)
after-more mode w calls c = after_from-more mode [] w calls c

-- ---- the target

abbrev pub next_target : ℕ → Call → ℕ
next_target n (SetTargetRevision rev) = rev
next_target n _ = n

pub target-more : (calls : List Call) (c : Call) → IsLawful calls → order_fault calls c ≡ None
    → target_of (calls ++ c ∷ []) ≡ next_target (target_of calls) c
target-more [] (SetTargetRevision rev) l o = refl
target-more [] c l o = refl
target-more (SetTargetRevision rev ∷ calls) (SetTargetRevision r) l o = absurd (by (list_any is_last calls) o)
  where
    by : (b : Bool) → cond b (Some Ended) (Some TargetFirst) ≡ None → ⊥
    by true e = some-none Ended e
    by false e = some-none TargetFirst e
target-more (SetTargetRevision rev ∷ calls) c l o = refl
target-more (AbortEdit ∷ calls) c l o = absurd (some-none _ o)
target-more (d ∷ calls) c l o = absurd (some-none _ l.0)

-- ---- what is said

pub said-append : (p : Path) (xs ys : List Step) → said_at p (xs ++ ys) ≡ said_at p xs ++ said_at p ys
said-append p [] ys = refl
said-append p (x ∷ xs) ys = by (path_eq x.path p && says x.action) (said-append p xs ys)
  where
    by : (b : Bool) → said_at p (xs ++ ys) ≡ said_at p xs ++ said_at p ys
        → cond b (x.action ∷ said_at p (xs ++ ys)) (said_at p (xs ++ ys)) ≡ cond b (x.action ∷ said_at p xs) (said_at p xs) ++ said_at p ys
    by true e = ap (λ (l : List Action). x.action ∷ l) e
    by false e = e
