use Rattle.std.proofs.Common.{rules}
use Rattle.std.specs.Prelude.{codes}
use Rattle.svn_folder.specs.Files.{is_sync}
use Rattle.svn_disk.specs.Ends.{ArePlaced, IsSame}
use Rattle.svn_disk.proofs.Going.{keeps_more, stops_more, goes_more}
use Rattle.svn_disk.proofs.Placing.{syncs_placing}
use Rattle.svn_disk.proofs.Ends.{turns_more, ends_more, goes_turns}
use Rattle.svn_disk.proofs.EndsWork.{all_done, done_same}
use Rattle.svn_disk.proofs.EndsCopy.{syncs_same}
use Rattle.svn_disk.proofs.carry.carry_out.Goals as goal

pub returns-in_err-place_files-clause-steps : goal.returns-in_err-place_files-clause-steps
returns-in_err-place_files-clause-steps g c = λ free h.
    let stops = stops_more (c.in_ok-make_directories.ensures.steps free h).0 (c.in_err-place_files.ensures.steps free h).1 in search rules

pub returns-then-not-sync-clause-steps : goal.returns-then-not-sync-clause-steps
returns-then-not-sync-clause-steps g c = λ free h.
    (keeps_more (c.in_ok-make_directories.ensures.steps free h).0 (c.in_ok-place_files.ensures.steps free h).0, tt)

pub returns-then-not-sync-clause-ends : goal.returns-then-not-sync-clause-ends
returns-then-not-sync-clause-ends g c = λ is outside distinct.
    turns_more (ArePlaced (codes ".svn") 0 c.args.work.now) (λ a b x made placed. all_done c.args.work.now a b x outside made placed)
    c.in_ok-make_directories.ensures.ends (c.in_ok-place_files.ensures.ends is outside distinct)

pub returns-clause-steps : goal.returns-clause-steps
returns-clause-steps g c = λ free h.
    goes_more (g.F.Folder.past c.sync_names.new.folder) c.sync_names.result
    (keeps_more (c.in_ok-make_directories.ensures.steps free h).0 (c.in_ok-place_files.ensures.steps free h).0)
    (syncs_placing c.args.admin.now.name free (g.F.Folder.past c.place_files.new.folder) (g.F.Folder.past c.sync_names.new.folder) c.sync_names.result
    c.sync_names.ensures)

pub returns-clause-ends : goal.returns-clause-ends
returns-clause-ends g c = λ is outside distinct.
    ends_more IsSame (ArePlaced (codes ".svn") 0 c.args.work.now) (g.F.Folder.past c.sync_names.new.folder) c.sync_names.result
    (λ a b x placed same. done_same c.args.work.now a b x placed same)
    (turns_more (ArePlaced (codes ".svn") 0 c.args.work.now) (λ a b x made placed. all_done c.args.work.now a b x outside made placed)
    c.in_ok-make_directories.ensures.ends (c.in_ok-place_files.ensures.ends is outside distinct))
    (goes_turns IsSame is_sync (g.F.Folder.past c.place_files.new.folder) (g.F.Folder.past c.sync_names.new.folder) c.sync_names.result syncs_same
    c.sync_names.ensures)
