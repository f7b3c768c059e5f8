use Rattle.std.proofs.Common.{subst}
use Rattle.std.specs.Prelude.{Option}
use Rattle.svn_folder.specs.declared.summary.Summary.{Summary}
use Rattle.svn_folder.specs.Summaries.{Sums}
use Rattle.svn_disk.proofs.Finding.{sums_found, sums_nothing}
use Rattle.svn_disk.proofs.on_disk.find.Goals as goal

pub returns-in-Some : goal.returns-in-Some
returns-in-Some g c =
    let now = g.F.Folder.past c.args.folder.now in
    let sums = subst (λ (o : Option Summary). Sums now c.args.path.now o) c.in-Some.is c.in_ok-summary.ensures in
    sums_found now c.args.path.now c.in-Some.summary c.found_of.result sums c.found_of.ensures

pub returns-in-None : goal.returns-in-None
returns-in-None g c =
    let now = g.F.Folder.past c.args.folder.now in
    sums_nothing now c.args.path.now (subst (λ (o : Option Summary). Sums now c.args.path.now o) c.in-None.is c.in_ok-summary.ensures)
