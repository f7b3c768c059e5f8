-- Steps that sync show nothing new: what a caller of `sync_files` and `sync_all` rests on.
use Rattle.std.proofs.Common.{◌≡◌, true, inl, inr, List, [], ◌∷◌, ◌++◌, refl, sym, ◌∙◌, ap, subst, true≢false, append_assoc}
use Rattle.std.proofs.lemmas.List.{append-nil}
use Rattle.std.specs.Prelude.{Ok}
use Rattle.svn_types.specs.Names.{Path}
use Rattle.svn_folder.specs.declared.step.Step.{Step}
use Rattle.svn_folder.specs.declared.step.Step.TheVariants.{Make, SyncFile, SyncDirectory, Rename, RenameDirectory, RemoveFile, RemoveDirectory}
use Rattle.svn_folder.specs.States.{State}
use Rattle.svn_folder.specs.Pasts.{Past, Known}
use Rattle.svn_folder.specs.Files.{TakesAll, TakesSyncs, AreSyncs, is_sync}
use Rattle.svn_folder.specs.Laws.{is_apart, AreApart}

sync_apart : (step : Step) (p : Path) → is_sync step ≡ true → is_apart step p ≡ true
sync_apart (Make q e t) p h = absurd (true≢false (sym h))
sync_apart (SyncFile q) p h = refl
sync_apart (SyncDirectory q) p h = refl
sync_apart (Rename q r) p h = absurd (true≢false (sym h))
sync_apart (RenameDirectory m n) p h = absurd (true≢false (sym h))
sync_apart (RemoveFile q) p h = absurd (true≢false (sym h))
sync_apart (RemoveDirectory q) p h = absurd (true≢false (sym h))

-- they are apart from every path
pub syncs_apart : (steps : List Step) (p : Path) → AreSyncs steps → AreApart steps p
syncs_apart [] p h = tt
syncs_apart (step ∷ steps) p h = (sync_apart step p h.0, syncs_apart steps p h.1)

-- all steps that were taken come after those before
pub known_after : (steps before : List Step) (s : State) (new : Past) → TakesAll steps (Known s before) (Ok tt) new → new ≡ Known s (before ++ steps)
known_after [] before s new (ok, same) = same ∙ ap (Known s) (sym (append-nil before))
known_after (step ∷ steps) before s new (inl refused) = absurd (true≢false (sym refused.0))
known_after (step ∷ steps) before s new (inr (between, taken, takes)) =
    known_after steps (before ++ step ∷ []) s new (subst (λ (past : Past). TakesAll steps past (Ok tt) new) taken.1 takes)
    ∙ ap (Known s) (append_assoc before (step ∷ []) steps)

pub synced_after : (before : List Step) (s : State) (new : Past) → TakesSyncs (Known s before) (Ok tt) new
    → (steps : List Step) × AreSyncs steps × (new ≡ Known s (before ++ steps))
synced_after before s new takes = (takes.steps, takes.are_syncs, known_after takes.steps before s new takes.takes)
