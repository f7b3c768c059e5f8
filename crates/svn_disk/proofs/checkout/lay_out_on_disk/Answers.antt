use Rattle.std.proofs.Common.{rules}
use Rattle.svn_folder.specs.Files.{is_sync}
use Rattle.svn_disk.specs.Places.{is_inside}
use Rattle.svn_disk.proofs.Going.{keeps_more, stops_more, stops_there, keeps_wider, stops_wider}
use Rattle.svn_disk.proofs.Placing.{sync_inside}
use Rattle.svn_disk.proofs.Reading.{stands_same}
use Rattle.svn_folder.specs.States.{seen}
use Rattle.svn_disk.specs.Plans.{present_nodes}
use Rattle.svn_disk.specs.Crashes.{IsWhole}
use Rattle.svn_disk.specs.Ends.{AreCopied, AreReady, IsSame}
use Rattle.svn_disk.proofs.Ends.{turns_more, turns_known, keeps_turns}
use Rattle.svn_disk.proofs.EndsTexts.{copied_still}
use Rattle.svn_disk.proofs.EndsCopy.{syncs_same, each_ready}
use Rattle.svn_disk.proofs.checkout.lay_out_on_disk.Goals as goal

pub read_back-requires : goal.read_back-requires
read_back-requires g c = stands_same c.requires c.in_ok-laid.ensures.image

pub returns-in_err-settle-clause-steps : goal.returns-in_err-settle-clause-steps
returns-in_err-settle-clause-steps g c =
    let n = c.args.admin.now.name in
    let stops = stops_more c.in_ok-laid.ensures.steps.0
    (stops_wider is_sync (is_inside n) (sync_inside n) (g.F.Folder.past c.lay_out.new.folder.folder) (g.F.Folder.past c.settle.new.folder.folder)
    c.in_err-settle.ensures.steps.1) in search rules

pub returns-in_err-read_back-clause-steps : goal.returns-in_err-read_back-clause-steps
returns-in_err-read_back-clause-steps g c =
    let n = c.args.admin.now.name in
    let stops = stops_there (keeps_more c.in_ok-laid.ensures.steps.0
    (keeps_wider is_sync (is_inside n) (sync_inside n) (g.F.Folder.past c.lay_out.new.folder.folder) (g.F.Folder.past c.settle.new.folder.folder)
    c.in_ok-settle.ensures.steps.0)) in search rules

pub returns-clause-steps : goal.returns-clause-steps
returns-clause-steps g c =
    let n = c.args.admin.now.name in (
      keeps_more c.in_ok-laid.ensures.steps.0
          (keeps_wider is_sync (is_inside n) (sync_inside n) (g.F.Folder.past c.lay_out.new.folder.folder) (g.F.Folder.past c.settle.new.folder.folder)
          c.in_ok-settle.ensures.steps.0),
      tt,
    )

pub returns-clause-ends : goal.returns-clause-ends
returns-clause-ends g c =
    let n = c.args.admin.now.name in
    let copy = c.args.what.now.copy.now in
    let old = g.F.Folder.past c.args.folder.now.folder in
    let mid = g.F.Folder.past c.lay_out.new.folder.folder in
    let new = g.F.Folder.past c.settle.new.folder.folder in
    turns_known (λ s. IsWhole n (present_nodes copy) (seen s)) (λ before left. AreCopied n 0 copy left) (λ before left. AreReady n 0 copy left) old new
    c.in_ok-read_back.ensures (λ a s whole copied. each_ready n 0 copy (seen s) copied whole.texts)
    (turns_more (λ before left. AreCopied n 0 copy left) (λ a b x copied same. copied_still n copy b x same copied) c.in_ok-laid.ensures.ends
    (keeps_turns IsSame is_sync mid new syncs_same c.in_ok-settle.ensures.steps.0))
