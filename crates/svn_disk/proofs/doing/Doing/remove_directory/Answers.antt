use Rattle.std.proofs.Common.{◌≡◌, true, subst, sym}
use Rattle.std.specs.Prelude.{OnOk}
use Rattle.svn_types.specs.Names.{Path}
use Rattle.svn_folder.specs.declared.step.Step.TheVariants.{RemoveDirectory}
use Rattle.svn_folder.specs.Entries.{has_directory}
use Rattle.svn_folder.specs.States.{seen}
use Rattle.svn_folder.specs.Steps.{IsEmpty}
use Rattle.svn_disk.specs.Goes.{IsAlways}
use Rattle.svn_disk.specs.Spared.{Spares}
use Rattle.svn_disk.specs.Finding.{has_word}
use Rattle.svn_disk.specs.Ends.{Turns, IsLessAt}
use Rattle.svn_disk.proofs.Sparing.{one_goes_in, empty_removed}
use Rattle.svn_disk.proofs.Ends.{turns_none, one_turns}
use Rattle.svn_disk.proofs.EndsDone.{directory_less, less_none}
use Rattle.svn_disk.proofs.doing.Doing.remove_directory.Goals as goal

pub returns-then-branch-clause-spares : goal.returns-then-branch-clause-spares
returns-then-branch-clause-spares g c =
    let known = has_word c.args.self.now.known.now in
    let n = c.args.self.now.admin.now.name in
    let now = g.F.Folder.past c.args.folder.now in
    let empty = subst (λ (p : Path). IsAlways (λ s. (has_directory (seen s p) ≡ true) × IsEmpty s p) now) (sym c.in_ok-clone.ensures.cases)
    (c.in_ok-is_empty_directory.ensures c.if-branch.true) in
    one_goes_in (Spares known n) (RemoveDirectory c.in_ok-clone.field-0) now (g.F.Folder.past c.take.new.folder)
    (empty_removed known n c.in_ok-clone.field-0 now empty) c.take.result c.take.ensures.one

pub returns-then-branch-clause-ends : goal.returns-then-branch-clause-ends
returns-then-branch-clause-ends g c =
    let p = c.in_ok-clone.field-0 in
    let now = g.F.Folder.past c.args.folder.now in
    let new = g.F.Folder.past c.take.new.folder in
    subst (λ (q : Path). OnOk c.take.result (Turns (IsLessAt q) now new)) c.in_ok-clone.ensures.cases
    (one_turns (IsLessAt p) (RemoveDirectory p) now new c.take.result (directory_less p) c.take.ensures.one)

pub returns-clause-ends : goal.returns-clause-ends
returns-clause-ends g c = turns_none (IsLessAt c.args.path.now) (g.F.Folder.past c.args.folder.now) (less_none c.args.path.now)
