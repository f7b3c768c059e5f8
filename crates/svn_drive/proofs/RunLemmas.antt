-- Calls in a row: what one list leads to and the next goes on from.
use Rattle.std.proofs.Common.{◌≡◌, ◌≢◌, ℕ, zero, suc, ◌+◌, ◌<◌, ◌≤◌, List, [], ◌∷◌, ◌++◌, length, refl, sym, subst, inl, length-append, arith}
use Rattle.std.specs.Prelude.{Option, Result, Ok, Err}
use Rattle.svn_editor.specs.declared.call.Call.{Call}
use Rattle.svn_editor.specs.declared.fault.EditFault.{EditFault}
use Rattle.svn_editor.specs.Editing.{Leads}
use Rattle.svn_model.specs.declared.stop.Stop.{Stop}
use Rattle.svn_model.specs.declared.stop.Stop.TheVariants.{Cancelled, Full, Memory, Editor}
use Rattle.svn_model.specs.Ends.{StopsBefore, HaltsHere, Halts, Runs, LeavesSome}

-- what is left is as much, or more
pub leaves_as : (s : Stop) (a all b more : ℕ) → b + all ≤ a + more → LeavesSome s a all → LeavesSome s b more
leaves_as Cancelled a all b more le h = omega arith
leaves_as Full a all b more le h = omega arith
leaves_as Memory a all b more le h = omega arith
leaves_as (Editor fault) a all b more le h = omega arith

-- two calls are enough for any stop
leaves_two : (s : Stop) (made all : ℕ) → made + 1 < all → LeavesSome s made all
leaves_two Cancelled made all lt = omega arith
leaves_two Full made all lt = lt
leaves_two Memory made all lt = omega arith
leaves_two (Editor fault) made all lt = omega arith

-- and one for all but a missing number
pub leaves_one : (s : Stop) (made all : ℕ) → s ≢ Full → made < all → LeavesSome s made all
leaves_one Cancelled made all ne lt = lt
leaves_one Full made all ne lt = absurd (ne refl)
leaves_one Memory made all ne lt = lt
leaves_one (Editor fault) made all ne lt = lt

module _ {E : Type 0} (answers : E → Call → Result (Unit {0}) EditFault → E → Type 0) (limit : Option ℕ) where
  leads-append : (xs ys : List Call) (e m f : E) → Leads answers xs e m → Leads answers ys m f → Leads answers (xs ++ ys) e f
  leads-append [] ys e m f h k = subst (λ z. Leads answers ys z f) (sym h) k
  leads-append (x ∷ xs) ys e m f h k = (h.0, h.1, leads-append xs ys h.0 m f h.2 k)

  halts_after : (xs ys : List Call) (e m f : E) (k made : ℕ) (s : Stop) → Leads answers xs e m → Halts answers limit k ys m f made s
      → (n : ℕ) → n ≡ length xs + k → Halts answers limit n (xs ++ ys) e f made s
  halts_after [] ys e m f k made s h g n q =
      let same : k ≡ n = omega arith in
      subst (λ j. Halts answers limit j ys e f made s) same (subst (λ z. Halts answers limit k ys z f made s) (sym h) g)
  halts_after (x ∷ xs) ys e m f k made s h g zero q = absurd (omega arith)
  halts_after (x ∷ xs) ys e m f k made s h g (suc n) q =
      let less : n ≡ length xs + k = omega arith in
      (h.0, h.1, halts_after xs ys h.0 m f k made s h.2 g n less)

  halts_more : (k : ℕ) (xs ys : List Call) (e f : E) (made : ℕ) (s : Stop) → Halts answers limit k xs e f made s
      → Halts answers limit k (xs ++ ys) e f made s
  halts_more zero [] [] e f made s h = h
  halts_more zero [] (y ∷ ys) e f made s h = inl (h.0, subst (StopsBefore limit made) (sym h.1) tt)
  halts_more zero (x ∷ xs) ys e f made s h = h
  halts_more (suc k) [] ys e f made s h = absurd h
  halts_more (suc k) (x ∷ xs) ys e f made s h = (h.0, h.1, halts_more k xs ys h.0 f made s h.2)

  abbrev Run : List Call → Result (Unit {0}) Stop → E → E → ℕ → ℕ → Type 0
  Run calls r e f a b = Runs answers limit {X = Unit {0}} calls r e f a b

  -- nothing is called
  pub run_nothing : (e : E) (made : ℕ) → Run [] (Ok tt) e e made made
  run_nothing e made = (refl, (omega arith, λ h. h))

  pub halts_for_memory : (calls : List Call) (e : E) (made : ℕ) → HaltsHere answers limit calls e e made Memory
  halts_for_memory [] e made = (refl, refl)
  halts_for_memory (c ∷ calls) e made = inl (refl, tt)

  -- memory is refused before the next call
  pub run_memory : (calls : List Call) (e : E) (made : ℕ) → Run calls (Err Memory) e e made made
  run_memory calls e made = (0, (omega arith, λ h. h), halts_for_memory calls e made)

  -- all of the first, and what becomes of the second
  pub run_then : (xs ys : List Call) (r : Result (Unit {0}) Stop) (e m f : E) (a b c : ℕ) → Run xs (Ok tt) e m a b → Run ys r m f b c
      → Run (xs ++ ys) r e f a c
  run_then xs ys (Ok y) e m f a b c h k =
      let whole : length (xs ++ ys) ≡ length xs + length ys = length-append xs ys in
      (leads-append xs ys e m f h.0 k.0, (omega (arith, whole, h.1.0, k.1.0), λ w. k.1.1 (h.1.1 w)))
  run_then xs ys (Err s) e m f a b c h k =
      (length xs + k.0, (omega (arith, h.1.0, k.1.0), λ w. k.1.1 (h.1.1 w)), halts_after xs ys e m f k.0 c s h.0 k.2 (length xs + k.0) refl)

  -- a stop in the first
  pub run_stops : (xs ys : List Call) (s : Stop) (e f : E) (a b : ℕ) → Run xs (Err s) e f a b → Run (xs ++ ys) (Err s) e f a b
  run_stops xs ys s e f a b h = (h.0, h.1, halts_more h.0 xs ys e f b s h.2)

  -- all that were to be made are accepted
  pub run_made : (calls : List Call) (e f : E) (a b : ℕ) → Run calls (Ok tt) e f a b → b ≡ a + length calls
  run_made calls e f a b h = h.1.0

  halts_before : (k : ℕ) (calls : List Call) (e f : E) (made : ℕ) (s : Stop) → Halts answers limit k calls e f made s
      → LeavesSome s k (length calls + 1)
  halts_before zero [] e f made s h = subst (λ z. LeavesSome z 0 1) (sym h.1) (omega arith)
  halts_before zero (c ∷ calls) e f made s h = leaves_two s 0 (length (c ∷ calls) + 1) (omega arith)
  halts_before (suc k) [] e f made s h = absurd h
  halts_before (suc k) (c ∷ calls) e f made s h =
      leaves_as s k (length calls + 1) (suc k) (length (c ∷ calls) + 1) (omega arith) (halts_before k calls h.0 f made s h.2)

  -- a stop comes before a call that follows these
  pub run_before : (calls : List Call) (s : Stop) (e f : E) (a b : ℕ) → Run calls (Err s) e f a b → LeavesSome s b (a + length calls + 1)
  run_before calls s e f a b h =
      let made : b ≡ a + h.0 = h.1.0 in
      leaves_as s h.0 (length calls + 1) b (a + length calls + 1) (omega (arith, made)) (halts_before h.0 calls e f b s h.2)
