use Rattle.std.specs.Prelude.{codes}
use Rattle.svn_disk.specs.Plans.{present_nodes, work_of}
use Rattle.svn_disk.specs.Crashes.{IsWhole, IsNoneOrWhole, IsFree, IsSafe}
use Rattle.svn_disk.proofs.Going.{goes_more}
use Rattle.svn_disk.proofs.Running.{runs_more, runs_leaves, runs_after, breaks_leaves}
use Rattle.svn_disk.proofs.Whole.{safe_left}
use Rattle.svn_disk.proofs.Replacing.{free_none}
use Rattle.svn_disk.specs.Ends.{AreAtPlaces, ArePlaced}
use Rattle.svn_disk.proofs.Ends.{ends_more}
use Rattle.svn_disk.proofs.EndsCopy.{are_at_places}
use Rattle.svn_disk.proofs.checkout.check_out.Goals as goal

pub returns-in_err-refuse_reserved-clause-crash : goal.returns-in_err-refuse_reserved-clause-crash
returns-in_err-refuse_reserved-clause-crash g c = λ sync. breaks_leaves (free_none (present_nodes c.args.what.now.copy.now) (g.F.Folder.past c.args.folder.now.folder))

pub returns-in_err-refuse_taken-clause-crash : goal.returns-in_err-refuse_taken-clause-crash
returns-in_err-refuse_taken-clause-crash g c = λ sync. breaks_leaves (free_none (present_nodes c.args.what.now.copy.now) (g.F.Folder.past c.args.folder.now.folder))

pub returns-in_err-contents-clause-crash : goal.returns-in_err-contents-clause-crash
returns-in_err-contents-clause-crash g c = λ sync. breaks_leaves (free_none (present_nodes c.args.what.now.copy.now) (g.F.Folder.past c.args.folder.now.folder))

pub returns-in_err-made-clause-crash : goal.returns-in_err-made-clause-crash
returns-in_err-made-clause-crash g c = λ sync. breaks_leaves (c.in_err-made.ensures.crash sync).1

pub returns-clause-steps : goal.returns-clause-steps
returns-clause-steps g c =
    goes_more (g.F.Folder.past c.finish_copy.new.folder.folder) c.finish_copy.result c.in_ok-made.ensures.steps.0 c.finish_copy.ensures.steps

pub returns-clause-crash : goal.returns-clause-crash
returns-clause-crash g c = λ sync.
    let nodes = present_nodes c.args.what.now.copy.now in
    runs_leaves IsFree (IsNoneOrWhole nodes) (IsSafe (codes ".svn") nodes) (g.F.Folder.past c.args.folder.now.folder)
    (g.F.Folder.past c.finish_copy.new.folder.folder) c.finish_copy.result
    (runs_more (IsSafe (codes ".svn") nodes) (g.F.Folder.past c.finish_copy.new.folder.folder) c.finish_copy.result
    (c.in_ok-made.ensures.crash sync).0 (c.finish_copy.ensures.crash sync))

pub returns-clause-after : goal.returns-clause-after
returns-clause-after g c = λ sync.
    let nodes = present_nodes c.args.what.now.copy.now in
    runs_after IsFree (IsNoneOrWhole nodes) (IsWhole (codes ".svn") nodes) (IsSafe (codes ".svn") nodes) (g.F.Folder.past c.args.folder.now.folder)
    (g.F.Folder.past c.finish_copy.new.folder.folder) c.finish_copy.result (safe_left (codes ".svn") nodes)
    (runs_more (IsSafe (codes ".svn") nodes) (g.F.Folder.past c.finish_copy.new.folder.folder) c.finish_copy.result
    (c.in_ok-made.ensures.crash sync).0 (c.finish_copy.ensures.crash sync))

pub returns-clause-ends : goal.returns-clause-ends
returns-clause-ends g c =
    let copy = c.args.what.now.copy.now in
    ends_more (ArePlaced (codes ".svn") 0 (work_of copy)) (λ before left. AreAtPlaces copy left) (g.F.Folder.past c.finish_copy.new.folder.folder)
    c.finish_copy.result (λ a b x ready placed. are_at_places copy b x c.law.ensures.order c.law.ensures.shape placed ready) c.in_ok-made.ensures.ends
    c.finish_copy.ensures.ends
