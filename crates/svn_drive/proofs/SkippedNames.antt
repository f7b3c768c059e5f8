-- Names at which nothing is done, left out of a walk.
use Rattle.std.proofs.Common.{◌≡◌, ℕ, ◌+◌, true, List, [], ◌∷◌, ◌++◌, refl, ◌∙◌, ap, arith}
use Rattle.svn_types.specs.Names.{Path}
use Rattle.svn_types.specs.Paths.{child}
use Rattle.svn_types.proofs.NameLemmas.{Name}
use Rattle.svn_editor.specs.declared.call.Call.{Call}
use Rattle.svn_model.specs.Follow.{DriveInput}
use Rattle.svn_model.specs.TreeCalls.{in_turn, sizes, visit_calls, visit_size}
use Rattle.svn_drive.specs.declared.child_names.Below.{Below}
use Rattle.svn_drive.specs.Children.{SameWalk, names_of}
use Rattle.svn_drive.specs.Waiting.{visit_late}
use Rattle.svn_drive.specs.Walking.{IsIdle}
use Rattle.svn_drive.proofs.Idle.{idle_calls, idle_size, idle_late}

module _ (f : Path → ℕ → List Call) (size : Path → ℕ) (p : Path) (n : Name) (none : (next : ℕ) → f (child p n) next ≡ [])
    (small : size (child p n) ≡ 0) where
  skip_first : (next : ℕ) (rest : List Name) → in_turn f size p next (n ∷ rest) ≡ in_turn f size p next rest
  skip_first next rest =
      let same : next + size (child p n) ≡ next = omega (arith, small) in
      ap (λ l. l ++ in_turn f size p (next + size (child p n)) rest) (none next) ∙ ap (λ x. in_turn f size p x rest) same

  pub skip_in_turn : (done : List Name) (next : ℕ) (rest : List Name)
      → in_turn f size p next (done ++ n ∷ rest) ≡ in_turn f size p next (done ++ rest)
  skip_in_turn [] next rest = skip_first next rest
  skip_in_turn (m ∷ done) next rest = ap (λ l. f (child p m) next ++ l) (skip_in_turn done (next + size (child p m)) rest)

  pub skip_size : (done rest : List Name) → sizes size p (done ++ n ∷ rest) ≡ sizes size p (done ++ rest)
  skip_size [] rest =
      let same : size (child p n) + sizes size p rest ≡ sizes size p rest = omega (arith, small) in
      same
  skip_size (m ∷ done) rest = ap (λ x. size (child p m) + x) (skip_size done rest)

module _ (d : DriveInput) (p : Path) where
  pub walk_same : (ns ms : List Name) → ns ≡ ms → SameWalk d p ns ms
  walk_same ns ms e =
      record {
        calls = λ late own next. ap (λ (l : List Name). in_turn (λ q n. visit_calls d late q own n) (visit_size d) p next l) e;
        tokens = ap (λ (l : List Name). sizes (visit_size d) p l) e;
        waits = λ late own next. ap (λ (l : List Name). in_turn (λ q n. visit_late d late q own n) (visit_size d) p next l) e;
      }

  pub walk_then : (ns ms ks : List Name) → SameWalk d p ns ms → SameWalk d p ms ks → SameWalk d p ns ks
  walk_then ns ms ks x y =
      record {
        calls = λ late own next. x.calls late own next ∙ y.calls late own next;
        tokens = x.tokens ∙ y.tokens;
        waits = λ late own next. x.waits late own next ∙ y.waits late own next;
      }

  -- a name at which nothing is done
  pub walk_skips : (done : List Name) (n : Name) (rest : List Name) → IsIdle d (child p n) → SameWalk d p (done ++ n ∷ rest) (done ++ rest)
  walk_skips done n rest idle =
      record {
        calls = λ late own next.
            skip_in_turn (λ q x. visit_calls d late q own x) (visit_size d) p n
            (λ x. idle_calls d late (child p n) own x idle) (idle_size d late (child p n) own next idle) done next rest;
        tokens =
            skip_size (λ q x. visit_calls d true q 0 x) (visit_size d) p n (λ x. idle_calls d true (child p n) 0 x idle)
            (idle_size d true (child p n) 0 0 idle) done rest;
        waits = λ late own next.
            skip_in_turn (λ q x. visit_late d late q own x) (visit_size d) p n
            (λ x. idle_late d late (child p n) own x idle) (idle_size d late (child p n) own next idle) done next rest;
      }

-- one more name is kept
pub kept_last : (done : List Below) (b : Below) (rest : List Name) → names_of done ++ b.name.now ∷ rest ≡ names_of (done ++ b ∷ []) ++ rest
kept_last [] b rest = refl
kept_last (x ∷ done) b rest = ap (λ (l : List Name). x.name.now ∷ l) (kept_last done b rest)
