use Rattle.std.proofs.Common.{◌≡◌, false, subst, sym}
use Rattle.std.specs.Prelude.{OnOk}
use Rattle.svn_types.specs.Names.{Path}
use Rattle.svn_folder.specs.declared.step.Step.TheVariants.{RemoveFile}
use Rattle.svn_folder.specs.Entries.{has_leaf}
use Rattle.svn_folder.specs.States.{seen}
use Rattle.svn_disk.specs.Goes.{IsAlways}
use Rattle.svn_disk.specs.Spared.{IsOwn, Spares}
use Rattle.svn_disk.specs.Finding.{has_word}
use Rattle.svn_disk.specs.Ends.{Turns, IsLessAt}
use Rattle.svn_disk.proofs.Sparing.{one_goes_in, own_removed}
use Rattle.svn_disk.proofs.Ends.{turns_where, one_turns}
use Rattle.svn_disk.proofs.EndsDone.{removes_less, less_none}
use Rattle.svn_disk.proofs.doing.Doing.remove_file.Goals as goal

pub returns-then-branch-clause-spares : goal.returns-then-branch-clause-spares
returns-then-branch-clause-spares g c =
    let known = has_word c.args.self.now.known.now in
    let n = c.args.self.now.admin.now.name in
    let now = g.F.Folder.past c.args.folder.now in
    let own = subst (λ (p : Path). IsAlways (λ s. IsOwn known (seen s p)) now) (sym c.in_ok-clone.ensures.cases) c.in_ok-is_own_leaf.ensures.own in
    one_goes_in (Spares known n) (RemoveFile c.in_ok-clone.field-0) now (g.F.Folder.past c.take.new.folder)
    (own_removed known n c.in_ok-clone.field-0 now own) c.take.result c.take.ensures.one

pub returns-then-branch-clause-ends : goal.returns-then-branch-clause-ends
returns-then-branch-clause-ends g c =
    let p = c.in_ok-clone.field-0 in
    let now = g.F.Folder.past c.args.folder.now in
    let new = g.F.Folder.past c.take.new.folder in
    subst (λ (q : Path). OnOk c.take.result (Turns (λ a b. IsLessAt q a b × (has_leaf (b q) ≡ false)) now new)) c.in_ok-clone.ensures.cases
    (one_turns (λ a b. IsLessAt p a b × (has_leaf (b p) ≡ false)) (RemoveFile p) now new c.take.result (removes_less p) c.take.ensures.one)

pub returns-clause-ends : goal.returns-clause-ends
returns-clause-ends g c =
    let p = c.args.path.now in
    turns_where (λ s. has_leaf (seen s p) ≡ false) (λ a b. IsLessAt p a b × (has_leaf (b p) ≡ false)) (g.F.Folder.past c.args.folder.now)
    (c.in_ok-is_own_leaf.ensures.leafless c.if-branch.false) (λ s is. (less_none p (seen s), is))
