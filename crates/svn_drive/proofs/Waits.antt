-- The texts that wait: at a path that is entered or not, name by name, and at a whole run.
use Rattle.std.proofs.Common.{◌≡◌, ℕ, zero, suc, ◌+◌, ◌-◌, ◌≤◌, Bool, true, false, ◌&&◌, List, [], ◌∷◌, ◌++◌, length, refl, sym, ◌∙◌, ap}
use Rattle.std.proofs.Common.{append_assoc, append-nil}
use Rattle.std.specs.Prelude.{Option, Some, None, cond}
use Rattle.svn_types.proofs.NameLemmas.{Name}
use Rattle.svn_types.specs.Names.{Path}
use Rattle.svn_types.specs.Paths.{child}
use Rattle.svn_types.specs.declared.kind.Kind.{Kind}
use Rattle.svn_types.specs.declared.kind.Kind.TheVariants.{File, Directory}
use Rattle.svn_repo.specs.History.{History}
use Rattle.svn_repo.specs.Readings.{is_directory, is_directory_at, kind_of}
use Rattle.svn_editor.specs.declared.call.Call.{Call}
use Rattle.svn_editor.specs.declared.call.Call.TheVariants.{SetTargetRevision, CloseEdit}
use Rattle.svn_drive.specs.declared.visit.Texted.{Texted}
use Rattle.svn_model.specs.Follow.{DriveInput, target_node}
use Rattle.svn_model.specs.Tree.{names_below, is_entered, is_late, enters_directory, file_end, late_of, late_at, late_actions}
use Rattle.svn_model.specs.TreeCalls.{calls_at, tree_size, in_turn, calls_below, late_calls, height_at, visit_size, visit_calls}
use Rattle.svn_model.specs.TreeCalls.{drive_calls}
use Rattle.svn_drive.specs.Waiting.{waiting, visit_late, entered_late}
use Rattle.svn_drive.specs.declared.walk.Walk.{Walk}
use Rattle.svn_drive.specs.Walking.{IsEntered, IsTold, request_of, text_action, close_action, has_text_of, late_texts_of}
use Rattle.svn_drive.proofs.FileEnds.{ends_as, late_as}
use Rattle.svn_drive.proofs.Visits.{own_height, below-open}

pub waiting-append : (h : History) (xs ys : List Texted) → waiting h (xs ++ ys) ≡ waiting h xs ++ waiting h ys
waiting-append h [] ys = refl
waiting-append h (x ∷ xs) ys = ap (λ l. waiting h (x ∷ []) ++ l) (waiting-append h xs ys)

-- ---- a file

module _ (w : Walk) (p : Path) (n : ℕ) (file : Texted) (e : IsEntered (request_of w) p n File) (told : IsTold w p n file) (parent tok : ℕ)
    (tk : file.token ≡ tok) where
  abbrev pub file_late : List Call
  file_late = calls_at p parent tok (cond (is_late (request_of w) (late_texts_of w) p) (file_end (request_of w) p n) [])

  by_answers : (l b : Bool) → late_texts_of w ≡ l → has_text_of w.repo.now file ≡ b
      → file_late
      ≡ calls_at p parent file.token (cond (l && b)
      (cond b (text_action w.repo.now file ∷ close_action w.repo.now file ∷ []) (close_action w.repo.now file ∷ [])) [])
  by_answers l b q r =
      (λ i. calls_at p parent (sym tk i) (cond (late_as w p n file e told i) (ends_as w p n file e told i) []))
      ∙ (λ i. calls_at p parent file.token (cond (q i && r i)
      (cond (r i) (text_action w.repo.now file ∷ close_action w.repo.now file ∷ []) (close_action w.repo.now file ∷ [])) []))

  none_and : (l : Bool) → (l && false) ≡ false
  none_and true = refl
  none_and false = refl

  pub file_closed : has_text_of w.repo.now file ≡ false → file_late ≡ []
  file_closed q =
      by_answers (late_texts_of w) false refl q
      ∙ ap (λ b. calls_at p parent file.token (cond b (close_action w.repo.now file ∷ []) [])) (none_and (late_texts_of w))

  pub file_waits : late_texts_of w ≡ true → has_text_of w.repo.now file ≡ true → (xs : List Texted)
      → waiting w.repo.now (xs ++ file ∷ []) ≡ waiting w.repo.now xs ++ file_late
  file_waits l q xs = waiting-append w.repo.now xs (file ∷ []) ∙ ap (λ x. waiting w.repo.now xs ++ x) (sym (by_answers true true l q))

-- ---- names

-- the next name's are postponed
pub waits_on : (f : Path → ℕ → List Call) (size : Path → ℕ) (p : Path) (next next' : ℕ) (name : Name) (rest : List Name)
    (was now all : List Call)
    → was ++ in_turn f size p next (name ∷ rest) ≡ all → now ≡ was ++ f (child p name) next → next' ≡ next + size (child p name)
    → now ++ in_turn f size p next' rest ≡ all
waits_on f size p next next' name rest was now all h k q =
    ap (λ x. x ++ in_turn f size p next' rest) k
    ∙ append_assoc was (f (child p name) next) (in_turn f size p next' rest)
    ∙ ap (λ n. was ++ (f (child p name) next ++ in_turn f size p n rest)) q
    ∙ h

-- ---- nothing waits where texts are in place

none_late : (d : DriveInput) (p : Path) → late_actions d false p ≡ []
none_late d p = by_target (target_node d p)
  where
    there : (n : ℕ) (b : Bool) (k : Kind) → cond b (late_of d false p n k) [] ≡ []
    there n true Directory = refl
    there n true File = refl
    there n false k = refl

    by_target : (o : Option ℕ) → late_at d false p o ≡ []
    by_target None = refl
    by_target (Some n) = there n (is_entered d p) (kind_of d.history n)

none_in_turn : (calls : Path → ℕ → List Call) (size : Path → ℕ) (p : Path) → ((m : Name) (next : ℕ) → calls (child p m) next ≡ [])
    → (ns : List Name) (next : ℕ) → in_turn calls size p next ns ≡ []
none_in_turn calls size p h [] next = refl
none_in_turn calls size p h (m ∷ ns) next =
    ap (λ l. l ++ in_turn calls size p (next + size (child p m)) ns) (h m next) ∙ none_in_turn calls size p h ns (next + size (child p m))

pub no_late_calls : (d : DriveInput) (n : ℕ) (p : Path) (up own : ℕ) → late_calls d false n p up own ≡ []
no_late_calls d zero p up own = refl
no_late_calls d (suc n) p up own =
    ap (λ l. calls_at p up own l ++ (cond (enters_directory d p) below [] ++ [])) (none_late d p)
    ∙ ap (λ l. l ++ []) (by (λ m next. no_late_calls d n (child p m) own next) (enters_directory d p))
  where
    below : List Call
    below = in_turn (λ q next. late_calls d false n q own next) (tree_size d n) p (own + 1) (names_below d p)

    by : ((m : Name) (next : ℕ) → late_calls d false n (child p m) own next ≡ []) → (b : Bool) → cond b below [] ≡ []
    by h true = none_in_turn (λ q next. late_calls d false n q own next) (tree_size d n) p h (names_below d p) (own + 1)
    by h false = refl

-- ---- at a path

module _ (d : DriveInput) (late : Bool) where
  pub late-height : (p : Path) (parent own h : ℕ) → height_at p ≡ h → visit_late d late p parent own ≡ late_calls d late h p parent own
  unfolding visit_late
  late-height p parent own h e = ap (λ n. late_calls d late n p parent own) e

  abbrev under : Path → ℕ → ℕ → List Call
  under p own next = in_turn (λ q n. visit_late d late q own n) (visit_size d) p next (names_below d p)

  abbrev beneath : Path → ℕ → List Call
  beneath p own = calls_below d (λ q n. visit_late d late q own n) (visit_size d) p (own + 1)

  late-open : (p : Path) (parent own : ℕ) → length p ≤ 128
      → visit_late d late p parent own ≡ calls_at p parent own (late_actions d late p) ++ (beneath p own ++ [])
  late-open p parent own l =
      late-height p parent own (suc (128 - length p)) (own_height d p l)
      ∙ ap (λ x. calls_at p parent own (late_actions d late p) ++ (x ++ []))
      (below-open d (late_calls d late) (visit_late d late) late-height p own l)

  -- what isn't entered has nothing that waits
  pub late-not_entered : (p : Path) (parent own : ℕ) → length p ≤ 128 → is_entered d p ≡ false → visit_late d late p parent own ≡ []
  late-not_entered p parent own l e =
      late-open p parent own l
      ∙ ap (λ x. calls_at p parent own x ++ (beneath p own ++ [])) (lates (target_node d p))
      ∙ ap (λ b. cond (b && is_directory_at d.history (target_node d p)) (under p own (own + 1)) [] ++ []) e
    where
      lates : (o : Option ℕ) → late_at d late p o ≡ []
      lates None = refl
      lates (Some n) = ap (λ b. cond b (late_of d late p n (kind_of d.history n)) []) e

  pub late-not_there : (p : Path) (parent own : ℕ) → length p ≤ 128 → target_node d p ≡ None → visit_late d late p parent own ≡ []
  late-not_there p parent own l e =
      late-open p parent own l
      ∙ ap
      (λ o. calls_at p parent own (late_at d late p o)
      ++ (cond (is_entered d p && is_directory_at d.history o) (under p own (own + 1)) [] ++ []))
      e
      ∙ by (is_entered d p)
    where
      by : (b : Bool) → cond (b && false) (under p own (own + 1)) [] ++ [] ≡ []
      by true = refl
      by false = refl

  pub late-entered : (p : Path) (parent own n : ℕ) (k : Kind) → length p ≤ 128 → IsEntered d p n k
      → visit_late d late p parent own ≡ entered_late d late p parent own n k
  late-entered p parent own n k l e =
      late-open p parent own l
      ∙ ap
      (λ o. calls_at p parent own (late_at d late p o)
      ++ (cond (is_entered d p && is_directory_at d.history o) (under p own (own + 1)) [] ++ []))
      e.target
      ∙ ap
      (λ b. calls_at p parent own (cond b (late_of d late p n (kind_of d.history n)) [])
      ++ (cond (b && is_directory (kind_of d.history n)) (under p own (own + 1)) [] ++ []))
      e.entered
      ∙ ap (λ z. calls_at p parent own (late_of d late p n z) ++ (cond (is_directory z) (under p own (own + 1)) [] ++ [])) e.kind
      ∙ by k
    where
      by : (z : Kind)
          → calls_at p parent own (late_of d late p n z) ++ (cond (is_directory z) (under p own (own + 1)) [] ++ [])
          ≡ entered_late d late p parent own n z
      by Directory = append-nil (under p own (own + 1))
      by File = append-nil (calls_at p parent own (cond (is_late d late p) (file_end d p n) []))

  -- ---- the calls of a whole drive

  from-height : (height : ℕ) → 129 ≡ height → late_calls d late 129 [] 0 0 ≡ visit_late d late [] 0 0
  from-height height e = ap (λ n. late_calls d late n [] 0 0) e ∙ sym (late-height [] 0 0 height e)

  pub drive_calls-open :
      drive_calls d late ≡ SetTargetRevision d.target ∷ (visit_calls d late [] 0 0 ++ (visit_late d late [] 0 0 ++ (CloseEdit ∷ [])))
  unfolding drive_calls
  drive_calls-open =
      ap (λ (l : List Call). SetTargetRevision d.target ∷ (visit_calls d late [] 0 0 ++ (l ++ (CloseEdit ∷ [])))) (from-height 129 refl)

-- nothing waits where texts are in place
pub late_none : (d : DriveInput) (late : Bool) (p : Path) (parent own : ℕ) → late ≡ false → visit_late d late p parent own ≡ []
late_none d late p parent own e =
    ap (λ b. visit_late d b p parent own) e ∙ late-height d false p parent own (height_at p) refl
    ∙ no_late_calls d (height_at p) p parent own
