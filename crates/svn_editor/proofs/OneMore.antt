-- What one more call makes of what is said of a list of calls.
use Rattle.std.proofs.Common.{◌≡◌, ℕ, Bool, true, false, ◌&&◌, ◌||◌, List, [], ◌∷◌, ◌++◌, refl, sym, ◌∙◌, ap}
use Rattle.std.specs.Prelude.{Option, Some, None, fold}
use Rattle.std.specs.List.{list_any, cons_option}
use Rattle.std.proofs.lemmas.List.Elements.{filter_map-append}
use Rattle.std.proofs.lemmas.List.{append-nil}
use Rattle.std.proofs.Math.Bool.{and-false, or-true}
use Rattle.std.proofs.lemmas.Bool.{or_parts}
use Rattle.svn_lists.proofs.Somewhere.{any_push}
use Rattle.svn_editor.specs.declared.call.Call.{Call}
use Rattle.svn_editor.specs.Calls.{Given, given_by, all_given, opens_subdirectory, changes_dir, changed_late, current_after, current_file}

-- ---- calls

pub given_none : (calls : List Call) (c : Call) → given_by c ≡ None → all_given (calls ++ c ∷ []) ≡ all_given calls
given_none calls c h =
    filter_map-append given_by calls (c ∷ []) ∙ ap (λ ys. all_given calls ++ ys) (by (given_by c) h) ∙ append-nil (all_given calls)
  where
    by : (o : Option Given) → o ≡ None → cons_option o [] ≡ []
    by None e = refl
    by (Some g) e = cc

pub given_one : (calls : List Call) (c : Call) (g : Given) → given_by c ≡ Some g → all_given (calls ++ c ∷ []) ≡ all_given calls ++ g ∷ []
given_one calls c g h =
    filter_map-append given_by calls (c ∷ []) ∙ ap (λ o. all_given calls ++ cons_option o []) h

pub current_more : (calls : List Call) (c : Call) → current_file (calls ++ c ∷ []) ≡ current_after (current_file calls) c
current_more calls c = by None calls
  where
    by : (o : Option ℕ) (xs : List Call) → fold current_after o (xs ++ c ∷ []) ≡ current_after (fold current_after o xs) c
    by o [] = refl
    by o (x ∷ xs) = by (current_after o x) xs

pub late_more : (calls : List Call) (c : Call) (t : ℕ)
    → changed_late (calls ++ c ∷ []) t ≡ (changed_late calls t || list_any (opens_subdirectory t) calls && changes_dir t c)
late_more [] c t = by (opens_subdirectory t c)
  where
    by : (a : Bool) → (a && false || false) ≡ false
    by true = refl
    by false = refl
late_more (x ∷ calls) c t =
    ap (λ b. opens_subdirectory t x && b || changed_late (calls ++ c ∷ []) t) (any_push (changes_dir t) calls c)
    ∙ ap (λ b. opens_subdirectory t x && (list_any (changes_dir t) calls || changes_dir t c) || b) (late_more calls c t)
    ∙ by (opens_subdirectory t x) (list_any (changes_dir t) calls) (changes_dir t c) (changed_late calls t)
    (list_any (opens_subdirectory t) calls)
  where
    by : (a b c d e : Bool) → (a && (b || c) || (d || e && c)) ≡ ((a && b || d) || (a || e) && c)
    by false b c d e = refl
    by true true c d e = refl
    by true false true d e = sym (or-true d)
    by true false false d e = ap (λ x. d || x) (and-false e)

-- no property change is late where no subdirectory was opened
pub late_none : (calls : List Call) (t : ℕ) → list_any (opens_subdirectory t) calls ≡ false → changed_late calls t ≡ false
late_none [] t h = refl
late_none (x ∷ calls) t h =
    let parts = or_parts (opens_subdirectory t x) (list_any (opens_subdirectory t) calls) h in
    ap (λ b. b && list_any (changes_dir t) calls || changed_late calls t) parts.0 ∙ late_none calls t parts.1
