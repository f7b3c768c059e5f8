-- The texts that wait until all directories are closed, as calls.
--     waiting h files      the calls that give files their texts and close them
--     Postpones w calls result old new      once all is done, these calls wait too
--     visit_late d late p parent own      those of what waits at a path and below it
use Rattle.std.specs.Prelude.{◌≡◌, ℕ, ◌+◌, Bool, List, [], ◌∷◌, ◌++◌, if◌then◌else◌, Result, OnOk}
use Rattle.svn_types.specs.declared.kind.Kind.{Kind}
use Rattle.svn_types.specs.declared.kind.Kind.TheVariants.{File, Directory}
use Rattle.svn_types.specs.Names.{Path}
use Rattle.svn_repo.specs.History.{History}
use Rattle.svn_editor.specs.declared.call.Call.{Call}
use Rattle.svn_drive.specs.declared.visit.Texted.{Texted}
use Rattle.svn_drive.specs.declared.walk.Walk.{Walk}
use Rattle.svn_model.specs.declared.stop.Stop.{Stop}
use Rattle.svn_model.specs.Follow.{DriveInput}
use Rattle.svn_model.specs.Tree.{names_below, is_late, file_end}
use Rattle.svn_model.specs.TreeCalls.{call_at, calls_at, in_turn, late_calls, height_at, visit_size}
use Rattle.svn_drive.specs.Walking.{text_action, close_action}

abbrev pub waiting : History → List Texted → List Call
waiting h [] = []
waiting h (file ∷ files) = call_at [] 0 file.token (text_action h file) ∷ (call_at [] 0 file.token (close_action h file) ∷ waiting h files)

-- once all is done, these calls wait after those that waited before
abbrev pub Postpones : Walk → List Call → Result (Unit {0}) Stop → List Texted → List Texted → Type 0
Postpones w calls r old new = OnOk r (waiting w.repo.now new ≡ waiting w.repo.now old ++ calls)

unfoldable pub visit_late : DriveInput → Bool → Path → ℕ → ℕ → List Call
visit_late d late p parent own = late_calls d late (height_at p) p parent own

-- what waits of a path that is entered, and of what is below it
abbrev pub entered_late : DriveInput → Bool → Path → ℕ → ℕ → ℕ → Kind → List Call
entered_late d late p parent own n Directory = in_turn (λ q next. visit_late d late q own next) (visit_size d) p (own + 1) (names_below d p)
entered_late d late p parent own n File = calls_at p parent own (if is_late d late p then file_end d p n else [])
