use Rattle.std.proofs.Common.{[], refl, inl, sym, subst}
use Rattle.std.specs.Prelude.{MatchOption}
use Rattle.svn_folder.specs.declared.held.Held.{Held}
use Rattle.svn_folder.specs.States.{empty, vacant}
use Rattle.svn_folder.specs.Steps.{moved, run}
use Rattle.svn_folder.specs.Memory.{IsPlace}
use Rattle.svn_folder.proofs.Back.{left_at_first, left_back, left_settled, left_elsewhere, left_renamed, left_root}
use Rattle.svn_folder.proofs.left.+left_at.Goals as goal

pub returns-in_default : goal.returns-in_default
returns-in_default t c = left_at_first c.args.steps.now c.args.path.now c.at_first.result c.in_default.ensures.cases c.at_first.ensures

pub returns-in_ok-made-in-Make : goal.returns-in_ok-made-in-Make
returns-in_ok-made-in-Make t c =
    left_back c.args.steps.now c.in-Some.before.now c.in-Some.step.now _ c.args.path.now c.in_ok-made-in-Make.field-0 c.in-Some.ensures.cases.0
    c.in-Make.is (c.in_ok-made-in-Make.ensures (run empty c.in-Some.before.now) c.in_ok-left_at-in-Make.ensures)

pub returns-in_ok-left_at-in-SyncFile : goal.returns-in_ok-left_at-in-SyncFile
returns-in_ok-left_at-in-SyncFile t c =
    left_back c.args.steps.now c.in-Some.before.now c.in-Some.step.now _ c.args.path.now c.synced.result c.in-Some.ensures.cases.0 c.in-SyncFile.is
    (c.synced.ensures (run empty c.in-Some.before.now) c.in_ok-left_at-in-SyncFile.ensures)

pub returns-in_ok-directory_synced-in-SyncDirectory : goal.returns-in_ok-directory_synced-in-SyncDirectory
returns-in_ok-directory_synced-in-SyncDirectory t c =
    left_back c.args.steps.now c.in-Some.before.now c.in-Some.step.now _ c.args.path.now c.in_ok-directory_synced-in-SyncDirectory.field-0
    c.in-Some.ensures.cases.0 c.in-SyncDirectory.is
    (c.in_ok-directory_synced-in-SyncDirectory.ensures (run empty c.in-Some.before.now) c.in_ok-directory-in-SyncDirectory.ensures
    c.in_ok-left-in-SyncDirectory.ensures)

pub returns-in_ok-renamed-in-Rename : goal.returns-in_ok-renamed-in-Rename
returns-in_ok-renamed-in-Rename t c =
    left_back c.args.steps.now c.in-Some.before.now c.in-Some.step.now _ c.args.path.now c.in_ok-renamed-in-Rename.field-0 c.in-Some.ensures.cases.0
    c.in-Rename.is
    (c.in_ok-renamed-in-Rename.ensures (run empty c.in-Some.before.now) c.in_ok-source-in-Rename.ensures c.in_ok-left-in-Rename.ensures)

pub returns-in_ok-removed-in-RemoveFile : goal.returns-in_ok-removed-in-RemoveFile
returns-in_ok-removed-in-RemoveFile t c =
    left_back c.args.steps.now c.in-Some.before.now c.in-Some.step.now _ c.args.path.now c.in_ok-removed-in-RemoveFile.field-0
    c.in-Some.ensures.cases.0 c.in-RemoveFile.is
    (c.in_ok-removed-in-RemoveFile.ensures (run empty c.in-Some.before.now) c.in_ok-left_at-in-RemoveFile.ensures)

pub returns-in_ok-removed-in-RemoveDirectory : goal.returns-in_ok-removed-in-RemoveDirectory
returns-in_ok-removed-in-RemoveDirectory t c =
    left_back c.args.steps.now c.in-Some.before.now c.in-Some.step.now _ c.args.path.now c.in_ok-removed-in-RemoveDirectory.field-0
    c.in-Some.ensures.cases.0 c.in-RemoveDirectory.is
    (c.in_ok-removed-in-RemoveDirectory.ensures (run empty c.in-Some.before.now) c.in_ok-left_at-in-RemoveDirectory.ensures)

pub returns-then-branch : goal.returns-then-branch
returns-then-branch t c =
    left_back c.args.steps.now c.in-Some.before.now c.in-Some.step.now _ c.args.path.now c.in_ok-left-in-SyncDirectory.left c.in-Some.ensures.cases.0
    c.in-SyncDirectory.is
    (left_settled _ c.args.path.now (run empty c.in-Some.before.now) c.in_ok-left-in-SyncDirectory.left
    (c.in_ok-is_settled-in-SyncDirectory.ensures c.if-branch.true) c.in_ok-left-in-SyncDirectory.ensures)

pub returns-then-is_other : goal.returns-then-is_other
returns-then-is_other t c =
    let before = run empty c.in-Some.before.now in
    left_back c.args.steps.now c.in-Some.before.now c.in-Some.step.now _ c.args.path.now c.in_ok-removed-in-Rename.field-0 c.in-Some.ensures.cases.0
    c.in-Rename.is
    (left_elsewhere _ _ c.args.path.now before c.in_ok-removed-in-Rename.field-0 (c.is_other.ensures c.if-is_other.true)
    (c.in_ok-removed-in-Rename.ensures before c.in_ok-left-in-Rename.ensures))

pub returns-in_default-2 : goal.returns-in_default-2
returns-in_default-2 t c =
    let before = run empty c.in-Some.before.now in
    let left = c.always.result in
    let gone : IsPlace vacant left = subst (λ (h : Held). IsPlace (record { now = h; older = [] }) left) c.nothing.ensures c.always.ensures in
    left_back c.args.steps.now c.in-Some.before.now c.in-Some.step.now _ c.args.path.now left c.in-Some.ensures.cases.0 c.in-RenameDirectory.is
    (left_renamed _ _ before [] c.args.path.now c.in_ok-origin-in-RenameDirectory.field-0 left left refl (c.in_ok-origin-in-RenameDirectory.ensures before)
    (subst (λ o. MatchOption o (IsPlace vacant left) (λ q. IsPlace (before q) left)) (sym c.in_default-2.is) gone)
    (λ at. left_settled [] c.args.path.now (moved c.in-RenameDirectory.from c.in-RenameDirectory.to before) left (inl gone.1) at))

pub returns-then-branch-2 : goal.returns-then-branch-2
returns-then-branch-2 t c =
    let before = run empty c.in-Some.before.now in
    let left = c.in_ok-left-in-RenameDirectory.left in
    left_back c.args.steps.now c.in-Some.before.now c.in-Some.step.now _ c.args.path.now left c.in-Some.ensures.cases.0 c.in-RenameDirectory.is
    (left_renamed _ _ before c.root-root.result c.args.path.now c.in_ok-origin-in-RenameDirectory.field-0 left left c.root-root.ensures
    (c.in_ok-origin-in-RenameDirectory.ensures before)
    (subst (λ o. MatchOption o (IsPlace vacant left) (λ q. IsPlace (before q) left)) (sym c.in-Some-2.is) c.in_ok-left-in-RenameDirectory.ensures)
    (λ at. left_settled c.root-root.result c.args.path.now (moved c.in-RenameDirectory.from c.in-RenameDirectory.to before) left (c.in_ok-is_settled-in-RenameDirectory.ensures c.if-branch-2.true) at))

pub returns-in_ok-directory_synced-in-RenameDirectory : goal.returns-in_ok-directory_synced-in-RenameDirectory
returns-in_ok-directory_synced-in-RenameDirectory t c =
    let before = run empty c.in-Some.before.now in
    let left = c.in_ok-left-in-RenameDirectory.left in
    let all = c.in_ok-directory_synced-in-RenameDirectory in
    left_back c.args.steps.now c.in-Some.before.now c.in-Some.step.now _ c.args.path.now all.field-0 c.in-Some.ensures.cases.0 c.in-RenameDirectory.is
    (left_renamed _ _ before c.root-root.result c.args.path.now c.in_ok-origin-in-RenameDirectory.field-0 left all.field-0 c.root-root.ensures
    (c.in_ok-origin-in-RenameDirectory.ensures before)
    (subst (λ o. MatchOption o (IsPlace vacant left) (λ q. IsPlace (before q) left)) (sym c.in-Some-2.is) c.in_ok-left-in-RenameDirectory.ensures)
    (λ at. all.ensures (moved c.in-RenameDirectory.from c.in-RenameDirectory.to before)
    (left_root c.in-RenameDirectory.from c.in-RenameDirectory.to before c.root-root.result c.in_ok-directory-in-RenameDirectory.directory c.root-root.ensures
    c.in_ok-directory-in-RenameDirectory.ensures) at))
