-- Marks at what isn't on the disk, when a step is taken or refused.
use Rattle.std.proofs.Common.{◌≡◌, false, inl, inr, List, [], ◌∷◌, ◌++◌, refl, sym, ◌∙◌, ap, subst, true≢false}
use Rattle.std.specs.Prelude.{Ok, Err}
use Rattle.svn_types.specs.Names.{Path}
use Rattle.svn_folder.specs.declared.step.Step.{Step}
use Rattle.svn_folder.specs.declared.step.Step.TheVariants.{SyncFile}
use Rattle.svn_folder.specs.declared.unsynced.Done.TheVariants.{Bytes}
use Rattle.svn_folder.specs.declared.fault.FolderFault.{FolderFault}
use Rattle.svn_folder.specs.States.{State, empty}
use Rattle.svn_folder.specs.Steps.{run, after}
use Rattle.svn_folder.specs.Pasts.{Past, Unknown, Known, Broken, Takes, is_known}
use Rattle.svn_folder.specs.Syncing.{Marks, no_marks, IsSyncedBut, AreWithin, AreEnough, AreMarksOf, IsSyncedPast}
use Rattle.svn_folder.specs.Marking.{without, without_files}
use Rattle.svn_folder.specs.Files.{TakesAll, file_syncs}
use Rattle.svn_folder.proofs.Showing.{run_append}
use Rattle.svn_folder.proofs.Marked.{within_marks}
use Rattle.svn_folder.proofs.Unsyncing.{within_itself, file_kept, file_synced}
use Rattle.svn_folder.proofs.Settled.{empty_synced}

-- the state after all steps, where these are known
abbrev last_of : Past → State → State
last_of Unknown s = s
last_of (Known s steps) t = run s steps
last_of (Broken s steps) t = t

pub marks_kept : (past : Past) (marks new : Marks) → AreWithin marks new → AreMarksOf past marks → AreMarksOf past new
marks_kept past marks new within are s steps is = within_marks marks (run s steps) (are s steps is) new within

-- nothing is said of what isn't known
unknown_marks : (past : Past) (marks : Marks) → is_known past ≡ false → AreMarksOf past marks
unknown_marks past marks h s steps is = absurd (true≢false (sym (ap is_known is) ∙ h))

known_marks : (past : Past) (marks : Marks) (s : State) (steps : List Step) → past ≡ Known s steps → IsSyncedBut marks (run s steps) → AreMarksOf past marks
known_marks past marks s steps same on t more is = subst (IsSyncedBut marks) (ap (λ (p : Past). last_of p s) (sym same ∙ is)) on

pub marks_taken : (step : Step) (past new_past : Past) (marks between new : Marks) → AreEnough step marks between → AreWithin between new
    → Takes step past (Ok tt) new_past → AreMarksOf past marks → AreMarksOf new_past new
marks_taken step Unknown new_past marks between new enough within takes are = unknown_marks new_past new takes
marks_taken step (Known s steps) new_past marks between new enough within takes are =
    let now = enough (run s steps) (are s steps refl) takes.0 in
    known_marks new_past new s (steps ++ step ∷ []) takes.1
    (subst (IsSyncedBut new) (sym (run_append s steps step)) (within_marks between (after step (run s steps)) now new within))
marks_taken step (Broken s steps) new_past marks between new enough within takes are = unknown_marks new_past new takes

pub marks_refused : (step : Step) (past new_past : Past) (fault : FolderFault) (marks new : Marks) → AreWithin marks new
    → Takes step past (Err fault) new_past → AreMarksOf past marks → AreMarksOf new_past new
marks_refused step Unknown new_past fault marks new within takes are = unknown_marks new_past new takes
marks_refused step (Known s steps) new_past fault marks new within (inl same) are =
    known_marks new_past new s steps same (within_marks marks (run s steps) (are s steps refl) new within)
marks_refused step (Known s steps) new_past fault marks new within (inr failed) are = unknown_marks new_past new (ap is_known failed.1)
marks_refused step (Broken s steps) new_past fault marks new within takes are = unknown_marks new_past new takes

pub nothing_taken : (steps : List Step) → steps ≡ [] → IsSyncedPast (Known empty steps)
nothing_taken steps none =
    known_marks (Known empty steps) no_marks empty steps refl (subst (λ (l : List Step). IsSyncedBut no_marks (run empty l)) (sym none) empty_synced)

-- ---- several files are synced

pub marks_synced : (paths : List Path) (past new_past : Past) (marks : Marks) → TakesAll (file_syncs paths) past (Ok tt) new_past
    → AreMarksOf past marks → AreMarksOf new_past (without_files paths marks)
marks_synced [] past new_past marks (ok, same) are = subst (λ (x : Past). AreMarksOf x marks) (sym same) are
marks_synced (p ∷ paths) past new_past marks (inl refused) are = absurd (true≢false (sym refused.0))
marks_synced (p ∷ paths) past new_past marks (inr (between, taken, takes)) are =
    let rest = without (Bytes p) marks in
    marks_synced paths between new_past rest takes
    (marks_taken (SyncFile p) past between marks rest rest (file_synced marks p p refl) (within_itself rest) taken are)

pub marks_unsynced : (paths : List Path) (past new_past : Past) (fault : FolderFault) (marks : Marks) → TakesAll (file_syncs paths) past (Err fault) new_past
    → AreMarksOf past marks → AreMarksOf new_past marks
marks_unsynced [] past new_past fault marks takes are = absurd (true≢false (sym takes.0))
marks_unsynced (p ∷ paths) past new_past fault marks (inl (failed, takes)) are =
    marks_refused (SyncFile p) past new_past fault marks marks (within_itself marks) takes are
marks_unsynced (p ∷ paths) past new_past fault marks (inr (between, taken, takes)) are =
    marks_unsynced paths between new_past fault marks takes
    (marks_taken (SyncFile p) past between marks marks marks (file_kept marks p) (within_itself marks) taken are)
