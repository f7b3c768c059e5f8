use Rattle.std.proofs.Common.{rules}
use Rattle.svn_disk.proofs.Going.{keeps_more, stops_more, stops_there, goes_more}
use Rattle.svn_disk.proofs.checkout.make_admin.Goals as goal

pub returns-in_err-pristine : goal.returns-in_err-pristine
returns-in_err-pristine g c = let stops = stops_there c.in_ok-make.ensures.steps.0 in search rules

pub returns-in_err-make-2 : goal.returns-in_err-make-2
returns-in_err-make-2 g c = let stops = stops_more c.in_ok-make.ensures.steps.0 c.in_err-make-2.ensures.steps.1 in search rules

pub returns-in_err-temporary : goal.returns-in_err-temporary
returns-in_err-temporary g c = let stops = stops_there (keeps_more c.in_ok-make.ensures.steps.0 c.in_ok-make-2.ensures.steps.0) in search rules

pub returns-in_err-make-3 : goal.returns-in_err-make-3
returns-in_err-make-3 g c = let stops = stops_more (keeps_more c.in_ok-make.ensures.steps.0 c.in_ok-make-2.ensures.steps.0) c.in_err-make-3.ensures.steps.1 in search rules

pub returns-in_err-make_format : goal.returns-in_err-make_format
returns-in_err-make_format g c =
    let stops = stops_more (keeps_more (keeps_more c.in_ok-make.ensures.steps.0 c.in_ok-make-2.ensures.steps.0) c.in_ok-make-3.ensures.steps.0) c.in_err-make_format.ensures.1 in search rules

pub returns : goal.returns
returns g c =
    goes_more (g.F.Folder.past c.make_format-2.new.folder) c.make_format-2.result
    (keeps_more (keeps_more (keeps_more c.in_ok-make.ensures.steps.0 c.in_ok-make-2.ensures.steps.0) c.in_ok-make-3.ensures.steps.0) c.in_ok-make_format.ensures.0)
    c.make_format-2.ensures
