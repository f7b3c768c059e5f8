-- Calls that are written one after another.
use Rattle.std.proofs.Common.{◌≡◌, ℕ, List, [], ◌∷◌, ◌++◌, Option, Some, None, append_assoc, append-nil, sym, refl, ap, ◌∙◌}
use Rattle.std.specs.Io.KnownBytes.{Appends}
use Rattle.svn_types.specs.Names.{Path}
use Rattle.svn_editor.specs.declared.call.Call.{Call}
use Rattle.svn_wire_calls.specs.declared.entered.Entered.{Entered}
use Rattle.svn_wire_calls.specs.Entries.{AreWritten}
use Rattle.svn_wire_calls.specs.Laws.{CallsAreWritten}

-- no byte is written
pub none_appended : (known : Option (List ℕ)) → Appends known known []
none_appended None = tt
none_appended (Some xs) = sym (append-nil xs)

-- one piece, and then another
pub both_appended : (a b c : Option (List ℕ)) (xs ys : List ℕ) → Appends a b xs → Appends b c ys → Appends a c (xs ++ ys)
both_appended None b c xs ys h g = tt
both_appended (Some x) None c xs ys h g = absurd h
both_appended (Some x) (Some y) None xs ys h g = absurd g
both_appended (Some x) (Some y) (Some z) xs ys h g = g ∙ ap (λ (l : List ℕ). l ++ ys) h ∙ append_assoc x xs ys

module _ {E N X : Type 0} (writer : E → N) (contents : E → Option (List ℕ)) (teller : E → X) (tells : X → Path → Option Entered → Type 0)
    (stands_for sums : X → List ℕ → List ℕ → Type 0) where
  abbrev WrittenBy : X → List Call → List ℕ → Type 0
  WrittenBy x calls bytes = AreWritten (tells x) (stands_for x) (sums x) calls bytes

  -- what may be said is the same after each call
  written_by : (calls : List Call) (bytes : List ℕ) (before middle : E) → teller middle ≡ teller before
      → WrittenBy (teller middle) calls bytes → WrittenBy (teller before) calls bytes
  written_by calls bytes before middle same h = rw (← same) h

  nothing_written : (before after : E) → before ≡ after → Appends (contents before) (contents after) []
  nothing_written before after same = rw (← same) (none_appended (contents before))

  pub all_written : (before : E) → CallsAreWritten writer contents teller tells stands_for sums before
  all_written before [] after h = (sym (ap writer h), ([], refl, nothing_written before after h))
  all_written before (c ∷ calls) after h =
      let rest = all_written h.0 calls after h.2 in
      let first = h.1.2 in (
        rest.0 ∙ h.1.0,
        (
          first.0 ++ rest.1.0,
          (first.0, rest.1.0, first.1, written_by calls rest.1.0 before h.0 h.1.1 rest.1.1, refl),
          both_appended (contents before) (contents h.0) (contents after) first.0 rest.1.0 first.2 rest.1.2,
        ),
      )
