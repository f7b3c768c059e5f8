use Rattle.std.proofs.Common.{rules}
use Rattle.std.specs.Prelude.{OnOk}
use Rattle.svn_folder.specs.Files.{is_sync}
use Rattle.svn_disk.specs.Tasks.{work_nodes}
use Rattle.svn_disk.specs.Ends.{AreCopied, IsSame}
use Rattle.svn_disk.proofs.Going.{goes_more}
use Rattle.svn_disk.proofs.Adding.{syncs_temporary}
use Rattle.svn_disk.proofs.Ends.{ends_more, goes_turns}
use Rattle.svn_disk.proofs.EndsCopy.{syncs_same}
use Rattle.svn_disk.proofs.EndsTexts.{copied_still, on_ok}
use Rattle.svn_disk.proofs.completion.Again.prepare_all.Goals as goal

pub returns-then-not-sync-clause-steps : goal.returns-then-not-sync-clause-steps
returns-then-not-sync-clause-steps g c = (c.in_ok-files.ensures.steps.0, tt)

pub returns-clause-steps : goal.returns-clause-steps
returns-clause-steps g c =
    goes_more (g.F.Folder.past c.sync_files.new.folder) c.sync_files.result c.in_ok-files.ensures.steps.0
    (syncs_temporary c.args.self.now.admin.now.name (g.F.Folder.past c.prepare_files.new.folder) (g.F.Folder.past c.sync_files.new.folder) c.sync_files.result
    c.sync_files.ensures)

pub returns-clause-files : goal.returns-clause-files
returns-clause-files g c = on_ok c.sync_files.result c.in_ok-files.ensures.files

pub returns-clause-ends : goal.returns-clause-ends
returns-clause-ends g c =
    let n = c.args.self.now.admin.now.name in
    let nodes = work_nodes c.args.self.now.existing.now.copy c.args.work.now in
    ends_more IsSame (λ a b. AreCopied n 0 nodes b) (g.F.Folder.past c.sync_files.new.folder) c.sync_files.result
    (λ a b x copied same. copied_still n nodes b x same copied) c.in_ok-files.ensures.ends
    (goes_turns IsSame is_sync (g.F.Folder.past c.prepare_files.new.folder) (g.F.Folder.past c.sync_files.new.folder) c.sync_files.result syncs_same
    c.sync_files.ensures)
