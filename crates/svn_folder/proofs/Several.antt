-- Several steps, one after the other, as far as they are taken.
use Rattle.std.proofs.Common.{◌≡◌, true, false, inl, inr, List, [], ◌∷◌, ◌++◌, length, refl, sym, subst, true≢false}
use Rattle.std.specs.Prelude.{Result, Ok, Err, IsErr, IsErrAnd, ◌==◌}
use Rattle.svn_types.specs.Names.{Path}
use Rattle.svn_folder.specs.declared.step.Step.{Step}
use Rattle.svn_folder.specs.declared.step.Step.TheVariants.{SyncDirectory}
use Rattle.svn_folder.specs.declared.fault.FolderFault.{FolderFault}
use Rattle.svn_folder.specs.Pasts.{Past, Unknown, Takes}
use Rattle.svn_folder.specs.Files.{TakesAll, TakesSyncs, AreSyncs, file_syncs, is_sync}
use Rattle.svn_folder.proofs.Refusing.{refuses}

abbrev Outcome : Type 0
Outcome = Result (Unit {0}) FolderFault

-- ---- the first steps are taken

-- what the steps that are left make of a folder, all of them have made of it
abbrev pub Leads : List Step → Past → List Step → Past → Type 0
Leads rest now all old = (result : Outcome) (new : Past) → TakesAll rest now result new → TakesAll all old result new

-- ---- of a folder of which nothing is known

unknown_taken : (paths : List Path) → TakesAll (file_syncs paths) Unknown (Ok tt) Unknown
unknown_taken [] = (refl, refl)
unknown_taken (p ∷ paths) = inr (Unknown, refl, unknown_taken paths)

unknown_refused : (paths : List Path) (fault : FolderFault) → (length paths == 0) ≡ false → TakesAll (file_syncs paths) Unknown (Err fault) Unknown
unknown_refused [] fault some = absurd (true≢false some)
unknown_refused (p ∷ paths) fault some = inl (refl, refl)

pub unknown_done : (paths : List Path) (result : Outcome) → (length paths == 0) ≡ false → TakesAll (file_syncs paths) Unknown result Unknown
unknown_done paths (Ok done) some = unknown_taken paths
unknown_done paths (Err fault) some = unknown_refused paths fault some

-- ---- steps that sync

all_join : (steps more : List Step) (old between new : Past) (result : Outcome) → TakesAll steps old (Ok tt) between → TakesAll more between result new
    → TakesAll (steps ++ more) old result new
all_join [] more old between new result (ok, same) takes = subst (λ (past : Past). TakesAll more past result new) same takes
all_join (step ∷ steps) more old between new result (inl refused) takes = absurd (true≢false (sym refused.0))
all_join (step ∷ steps) more old between new result (inr (next, taken, rest)) takes = inr (next, taken, all_join steps more next between new result rest takes)

syncs_join : (steps more : List Step) → AreSyncs steps → AreSyncs more → AreSyncs (steps ++ more)
syncs_join [] more h k = k
syncs_join (step ∷ steps) more h k = (h.0, syncs_join steps more h.1 k)

pub syncs_chain : (old between new : Past) (result : Outcome) → TakesSyncs old (Ok tt) between → TakesSyncs between result new → TakesSyncs old result new
syncs_chain old between new result former latter = record {
  steps = former.steps ++ latter.steps;
  are_syncs = syncs_join former.steps latter.steps former.are_syncs latter.are_syncs;
  takes = all_join former.steps latter.steps old between new result former.takes latter.takes;
}

pub one_sync : (step : Step) (old new : Past) (result : Outcome) → is_sync step ≡ true → Takes step old result new → TakesSyncs old result new
one_sync step old new (Ok done) is takes = record { steps = step ∷ []; are_syncs = (is, tt); takes = inr (new, takes, (refl, refl)) }
one_sync step old new (Err fault) is takes = record { steps = step ∷ []; are_syncs = (is, tt); takes = inl (refl, takes) }

pub no_sync : (past : Past) (result : Outcome) → IsErr result → TakesSyncs past result past
no_sync past (Ok done) failed = absurd (true≢false (sym failed))
no_sync past (Err fault) failed = one_sync (SyncDirectory []) past past (Err fault) refl (refuses (SyncDirectory []) past fault)

pub same_fault : (old new : Past) (result : Outcome) (fault : FolderFault) → IsErrAnd result (λ e. e ≡ fault) → TakesSyncs old (Err fault) new
    → TakesSyncs old result new
same_fault old new (Ok done) fault failed takes = absurd failed
same_fault old new (Err e) fault same takes = subst (λ (x : FolderFault). TakesSyncs old (Err x) new) (sym same) takes

are_file_syncs : (paths : List Path) → AreSyncs (file_syncs paths)
are_file_syncs [] = tt
are_file_syncs (p ∷ paths) = (refl, are_file_syncs paths)

pub files_synced : (paths : List Path) (old new : Past) (result : Outcome) → TakesAll (file_syncs paths) old result new → TakesSyncs old result new
files_synced paths old new result takes = record { steps = file_syncs paths; are_syncs = are_file_syncs paths; takes = takes }
