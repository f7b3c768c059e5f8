use Rattle.std.proofs.Common.{◌≡◌, true, List, subst, rules}
use Rattle.std.specs.Prelude.{codes, OnOk}
use Rattle.std.specs.List.{list_all}
use Rattle.svn_wcrows.specs.declared.work.Work.{Work}
use Rattle.svn_folder.specs.Files.{is_sync}
use Rattle.svn_disk.specs.Places.{is_outside}
use Rattle.svn_disk.specs.Plans.{path_of}
use Rattle.svn_disk.specs.Finding.{has_word}
use Rattle.svn_disk.specs.Ends.{Turns, AreDistinct, AreDone, IsSame}
use Rattle.svn_disk.proofs.Going.{keeps_more, stops_more, goes_more}
use Rattle.svn_disk.proofs.Changing.{syncs_changing}
use Rattle.svn_disk.proofs.Sparing.{keeps_in_more, stops_in_more, goes_in_more, syncs_go_in}
use Rattle.svn_disk.proofs.Ends.{turns_more, ends_more, goes_turns}
use Rattle.svn_disk.proofs.EndsWork.{made_done, done_still}
use Rattle.svn_disk.proofs.EndsCopy.{syncs_same}
use Rattle.svn_disk.proofs.doing.Doing.make_all.Goals as goal

pub returns-in_err-make_directories-clause-steps : goal.returns-in_err-make_directories-clause-steps
returns-in_err-make_directories-clause-steps g c = λ free h.
    let all = c.makings-makings.ensures.all (λ item. free (path_of item)) h in
    let stops = (c.in_err-make_directories.ensures.steps free all).1 in search rules

pub returns-in_err-place_files-clause-steps : goal.returns-in_err-place_files-clause-steps
returns-in_err-place_files-clause-steps g c = λ free h.
    let all = c.makings-makings.ensures.all (λ item. free (path_of item)) h in
    let stops = stops_more (c.in_ok-make_directories.ensures.steps free all).0 (c.in_err-place_files.ensures.steps free all).1 in search rules

pub returns-clause-steps : goal.returns-clause-steps
returns-clause-steps g c = λ free h.
    let all = c.makings-makings.ensures.all (λ item. free (path_of item)) h in
    goes_more (g.F.Folder.past c.sync_above.new.folder) c.sync_above.result
    (keeps_more (c.in_ok-make_directories.ensures.steps free all).0 (c.in_ok-place_files.ensures.steps free all).0)
    (syncs_changing c.args.self.now.admin.now.name free (g.F.Folder.past c.place_files.new.folder) (g.F.Folder.past c.sync_above.new.folder) c.sync_above.result
    c.sync_above.ensures)

pub returns-in_err-make_directories-clause-spares : goal.returns-in_err-make_directories-clause-spares
returns-in_err-make_directories-clause-spares g c =
    let stops = c.in_err-make_directories.ensures.spares.1 in search rules

pub returns-in_err-place_files-clause-spares : goal.returns-in_err-place_files-clause-spares
returns-in_err-place_files-clause-spares g c =
    let stops = stops_in_more c.in_ok-make_directories.ensures.spares.0 c.in_err-place_files.ensures.spares.1 in search rules

pub returns-clause-spares : goal.returns-clause-spares
returns-clause-spares g c =
    goes_in_more (g.F.Folder.past c.sync_above.new.folder) c.sync_above.result
    (keeps_in_more c.in_ok-make_directories.ensures.spares.0 c.in_ok-place_files.ensures.spares.0)
    (syncs_go_in (has_word c.args.self.now.known.now) c.args.self.now.admin.now.name (g.F.Folder.past c.place_files.new.folder) (g.F.Folder.past c.sync_above.new.folder)
    c.sync_above.result c.sync_above.ensures)

pub returns-clause-ends : goal.returns-clause-ends
returns-clause-ends g c =
    subst (λ (work : List Work).
    c.args.self.now.admin.now.name ≡ codes ".svn" → list_all (λ item. is_outside (path_of item)) work ≡ true → AreDistinct work
    → OnOk c.sync_above.result (Turns (AreDone (codes ".svn") work) (g.F.Folder.past c.args.folder.now) (g.F.Folder.past c.sync_above.new.folder)))
    c.makings-makings.ensures.same
    (λ is outside distinct.
    let work = c.makings-makings.result.now in
    ends_more IsSame (AreDone (codes ".svn") work) (g.F.Folder.past c.sync_above.new.folder) c.sync_above.result
    (λ a b x done same. done_still work a b x done same)
    (turns_more (AreDone (codes ".svn") work) (λ a b x made done. made_done work a b x outside made done) c.in_ok-make_directories.ensures.ends
    (c.in_ok-place_files.ensures.ends is outside distinct))
    (goes_turns IsSame is_sync (g.F.Folder.past c.place_files.new.folder) (g.F.Folder.past c.sync_above.new.folder) c.sync_above.result syncs_same
    c.sync_above.ensures))
