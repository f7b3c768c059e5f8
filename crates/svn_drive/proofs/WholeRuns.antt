-- What the calls of a whole drive lead to: its first call, the visit of the root, the texts that waited, and the last call.
use Rattle.std.proofs.Common.{◌≡◌, ◌≢◌, ℕ, ◌+◌, Bool, false, List, [], ◌∷◌, ◌++◌, length, length-append, ap, refl, sym, subst, ◌∙◌, inr, arith, ◌<◌}
use Rattle.std.specs.Prelude.{Option, None, Result, Ok, Err, IfErr}
use Rattle.svn_types.specs.Names.{Path}
use Rattle.svn_repo.specs.History.{History}
use Rattle.svn_editor.specs.declared.call.Call.{Call}
use Rattle.svn_editor.specs.declared.call.Call.TheVariants.{SetTargetRevision, CloseEdit, AbortEdit}
use Rattle.svn_editor.specs.declared.fault.EditFault.{EditFault}
use Rattle.svn_model.specs.declared.stop.Stop.{Stop}
use Rattle.svn_model.specs.declared.stop.Stop.TheVariants.{Full, Memory}
use Rattle.svn_drive.specs.declared.visit.Texted.{Texted}
use Rattle.svn_model.specs.Follow.{DriveInput}
use Rattle.svn_model.specs.TreeCalls.{visit_calls, drive_calls}
use Rattle.svn_model.specs.Checks.{target_fault}
use Rattle.svn_model.specs.Ends.{Drives, LeavesSome, end_of}
use Rattle.svn_drive.specs.Counts.{with_last}
use Rattle.svn_drive.specs.Waiting.{waiting, visit_late}
use Rattle.svn_drive.proofs.RunLemmas.{halts_for_memory, run_then, run_stops, run_nothing, run_made, run_before, leaves_as, leaves_one}
use Rattle.svn_drive.proofs.VisitRuns.{Run, run_as}
use Rattle.svn_drive.proofs.Waits.{drive_calls-open, late_none}

-- a drive that is given up for memory before its first call
pub never_begun : {E : Type 0} (answers : E → Call → Result (Unit {0}) EditFault → E → Type 0) (limit : Option ℕ) (d : DriveInput) (late : Bool)
    (e f : E) → target_fault d ≡ None → ((answer : Result (Unit {0}) EditFault) × answers e AbortEdit answer f)
    → Drives answers limit (target_fault d) (drive_calls d late) (end_of Memory 0) e f
never_begun answers limit d late e f none aborted =
    let calls = drive_calls d late in
    let long = ap (λ (l : List Call). length l) (drive_calls-open d late) in
    let some : 0 < length calls = omega arith in
    inr (inr (Memory, 0, e, none, halts_for_memory answers limit calls e 0, refl, aborted, some, λ n is. omega arith))

-- what was postponed at the root
pub lates_as : (d : DriveInput) (late : Bool) (h : History) (before after : List Texted) (q : Path) (parent next : ℕ) → before ≡ [] → q ≡ []
    → parent ≡ 0 → next ≡ 0 → waiting h after ≡ waiting h before ++ visit_late d late q parent next
    → waiting h after ≡ visit_late d late [] 0 0
lates_as d late h before after q parent next b p u n k = k ∙ (λ i. waiting h (b i) ++ visit_late d late (p i) (u i) (n i))

-- what follows for a stop
on_err : {P Q : Stop → Type 0} (r : Result (Unit {0}) Stop) → ((s : Stop) → P s → Q s) → IfErr r P → IfErr r Q
on_err (Ok x) f h = h
on_err (Err s) f h = f s h

module _ {E : Type 0} (answers : E → Call → Result (Unit {0}) EditFault → E → Type 0) (limit : Option ℕ) (d : DriveInput) (late : Bool) (e : E)
    (a : ℕ) where
  abbrev first : List Call
  first = SetTargetRevision d.target ∷ []

  abbrev visits : List Call
  visits = visit_calls d late [] 0 0

  abbrev lates : List Call
  lates = visit_late d late [] 0 0

  abbrev last : List Call
  last = CloseEdit ∷ []

  abbrev rest : List Call
  rest = visits ++ (lates ++ last)

  -- the calls of a drive, where that many were accepted before the last; and a stop comes before that
  abbrev pub Whole : Result (Unit {0}) Stop → E → ℕ → Type 0
  Whole r f b = Run answers limit (drive_calls d late) r e f a (with_last r b)
      × IfErr r (λ s. LeavesSome s b (a + length (drive_calls d late)))

  drive_length : length (drive_calls d late) ≡ length visits + length lates + 2
  drive_length =
      let all : length (drive_calls d late) ≡ length (first ++ rest) = ap length (drive_calls-open d late) in
      let after : length rest ≡ length visits + length (lates ++ last) = length-append visits (lates ++ last) in
      let end : length (lates ++ last) ≡ length lates + 1 = length-append lates last in
      omega (arith, all, after, end)

  as_drive : (r : Result (Unit {0}) Stop) (f : E) (b : ℕ) → Run answers limit (first ++ rest) r e f a (with_last r b)
      → IfErr r (λ s. LeavesSome s b (a + (length visits + length lates + 2))) → Whole r f b
  as_drive r f b h short = (
    run_as answers limit (first ++ rest) (drive_calls d late) r e f a (with_last r b) (drive_calls-open d late) h,
    on_err r (λ s some. subst (λ n. LeavesSome s b (a + n)) (sym drive_length) some) short,
  )

  pub run_refused : (s : Stop) (f : E) (b : ℕ) → Run answers limit first (Err s) e f a b → Whole (Err s) f b
  run_refused s f b h =
      as_drive (Err s) f b (run_stops answers limit first rest s e f a b h)
      (leaves_as s b (a + length first + 1) b (a + (length visits + length lates + 2)) (omega arith)
      (run_before answers limit first s e f a b h))

  at_root : (q : Path) (parent next : ℕ) (r : Result (Unit {0}) Stop) (m f : E) (b c : ℕ) → q ≡ [] → parent ≡ 0 → next ≡ 0
      → Run answers limit (visit_calls d late q parent next) r m f b c → Run answers limit visits r m f b c
  at_root q parent next r m f b c p u n h =
      run_as answers limit (visit_calls d late q parent next) visits r m f b c (sym (λ i. visit_calls d late (p i) (u i) (n i))) h

  pub run_visit_stopped : (s : Stop) (q : Path) (parent next : ℕ) (m f : E) (b c : ℕ) → q ≡ [] → parent ≡ 0 → next ≡ 0
      → Run answers limit first (Ok tt) e m a b → Run answers limit (visit_calls d late q parent next) (Err s) m f b c → Whole (Err s) f c
  run_visit_stopped s q parent next m f b c p u n h g =
      let visit = at_root q parent next (Err s) m f b c p u n g in
      let begun : b ≡ a + 1 = run_made answers limit first e m a b h in
      as_drive (Err s) f c
      (run_then answers limit first rest (Err s) e m f a b c h (run_stops answers limit visits (lates ++ last) s m f b c visit))
      (leaves_as s c (b + length visits + 1) c (a + (length visits + length lates + 2)) (omega (arith, begun))
      (run_before answers limit visits s m f b c visit))

  module _ (q : Path) (parent next : ℕ) (m n : E) (b c : ℕ) (p : q ≡ []) (u : parent ≡ 0) (z : next ≡ 0)
      (begun : Run answers limit first (Ok tt) e m a b) (visited : Run answers limit (visit_calls d late q parent next) (Ok tt) m n b c)
    where
      -- all calls before those that waited
      visits_made : c ≡ a + (length visits + 1)
      visits_made =
          let one : b ≡ a + 1 = run_made answers limit first e m a b begun in
          let more : c ≡ b + length visits =
          run_made answers limit visits m n b c (at_root q parent next (Ok tt) m n b c p u z visited) in
          omega (arith, one, more)

      after_visit : (r : Result (Unit {0}) Stop) (f : E) (x : ℕ) → Run answers limit (lates ++ last) r n f c (with_last r x)
          → IfErr r (λ s. LeavesSome s x (c + length lates + 1)) → Whole r f x
      after_visit r f x h short =
          as_drive r f x
          (run_then answers limit first rest r e m f a b (with_last r x) begun
          (run_then answers limit visits (lates ++ last) r m n f b c (with_last r x) (at_root q parent next (Ok tt) m n b c p u z visited) h))
          (on_err r
          (λ s some. leaves_as s x (c + length lates + 1) x (a + (length visits + length lates + 2)) (omega (arith, visits_made)) some)
          short)

      pub run_late_stopped : (s : Stop) (xs : List Call) (f : E) (x : ℕ) → xs ≡ lates → Run answers limit xs (Err s) n f c x
          → Whole (Err s) f x
      run_late_stopped s xs f x k h =
          let late_run = run_as answers limit xs lates (Err s) n f c x (sym k) h in
          after_visit (Err s) f x (run_stops answers limit lates last s n f c x late_run) (run_before answers limit lates s n f c x late_run)

      pub run_late : (r : Result (Unit {0}) Stop) (xs : List Call) (o f : E) (x : ℕ) → xs ≡ lates → Run answers limit xs (Ok tt) n o c x
          → Run answers limit last r o f x (with_last r x) → IfErr r (λ s. s ≢ Full) → Whole r f x
      run_late r xs o f x k h g has_number =
          let late_run = run_as answers limit xs lates (Ok tt) n o c x (sym k) h in
          let made : x ≡ c + length lates = run_made answers limit lates n o c x late_run in
          after_visit r f x (run_then answers limit lates last r n o f c x (with_last r x) late_run g)
          (on_err r (λ s ne. leaves_one s x (c + length lates + 1) ne (omega (arith, made))) has_number)

      pub run_in_place : (r : Result (Unit {0}) Stop) (f : E) → late ≡ false → Run answers limit last r n f c (with_last r c)
          → IfErr r (λ s. s ≢ Full) → Whole r f c
      run_in_place r f q' g has_number =
          run_late r [] n f c (sym (late_none d late [] 0 0 q')) (run_nothing answers limit n c) g has_number
