use Rattle.std.proofs.Common.{List, ℕ, subst, sym, rules}
use Rattle.std.specs.Prelude.{⊤}
use Rattle.svn_wcrows.specs.Copies.{StandsFor}
use Rattle.svn_disk.proofs.Going.{keeps_more, stops_more, stops_there}
use Rattle.svn_disk.specs.Places.{is_inside}
use Rattle.svn_disk.specs.Ends.{AreCopied}
use Rattle.svn_disk.proofs.Ends.{turns_more, keeps_turns}
use Rattle.svn_disk.proofs.EndsTexts.{database_put}
use Rattle.svn_disk.proofs.checkout.lay_out.Goals as goal

pub returns-in_err-progress-clause-steps : goal.returns-in_err-progress-clause-steps
returns-in_err-progress-clause-steps g c = let stops = stops_more c.in_ok-make_admin.ensures.0 c.in_err-progress.ensures.steps.1 in search rules

pub returns-in_err-image_with_work-clause-steps : goal.returns-in_err-image_with_work-clause-steps
returns-in_err-image_with_work-clause-steps g c = let stops = stops_there (keeps_more c.in_ok-make_admin.ensures.0 c.in_ok-progress.ensures.steps.0) in search rules

pub returns-in_err-clone-clause-steps : goal.returns-in_err-clone-clause-steps
returns-in_err-clone-clause-steps g c = let stops = stops_there (keeps_more c.in_ok-make_admin.ensures.0 c.in_ok-progress.ensures.steps.0) in search rules

pub returns-in_err-database-clause-steps : goal.returns-in_err-database-clause-steps
returns-in_err-database-clause-steps g c = let stops = stops_there (keeps_more c.in_ok-make_admin.ensures.0 c.in_ok-progress.ensures.steps.0) in search rules

pub returns-in_err-make-clause-steps : goal.returns-in_err-make-clause-steps
returns-in_err-make-clause-steps g c = let stops = stops_more (keeps_more c.in_ok-make_admin.ensures.0 c.in_ok-progress.ensures.steps.0) c.in_err-make.ensures.steps.1 in search rules

pub returns-clause-steps : goal.returns-clause-steps
returns-clause-steps g c = (keeps_more (keeps_more c.in_ok-make_admin.ensures.0 c.in_ok-progress.ensures.steps.0) c.in_ok-make.ensures.steps.0, tt)

pub returns-clause-image : goal.returns-clause-image
returns-clause-image g c =
    subst (λ (b : List ℕ). StandsFor c.args.contents.now.nodes.items b) (sym c.new-image.ensures) c.in_ok-image_with_work.ensures

pub returns-clause-ends : goal.returns-clause-ends
returns-clause-ends g c =
    let n = c.args.admin.now.name in
    let copy = c.args.what.now.copy.now in
    turns_more (λ before left. AreCopied n 0 copy left) (λ a b x copied put. put copied)
    (turns_more (λ before left. AreCopied n 0 copy left) (λ a b x any copied. copied)
    (keeps_turns (λ a b. ⊤) (is_inside n) (g.F.Folder.past c.args.folder.now) (g.F.Folder.past c.make_admin.new.folder) (λ s more each. tt)
    c.in_ok-make_admin.ensures.0)
    c.in_ok-progress.ensures.ends)
    (database_put n copy _ _ (g.F.Folder.past c.prepare_all.new.folder) (g.F.Folder.past c.make.new.folder) c.in_ok-database.ensures c.in_ok-make.ensures.ends)
