use Rattle.std.specs.Option.{option_copied}
use Rattle.svn_report.proofs.NextNames.{name_behind, no_name_behind}
use Rattle.svn_report.proofs.listing.Listing.name_in_order.Goals as goal

pub returns-in-Some : goal.returns-in-Some
returns-in-Some c =
    name_behind c.args.self.now c.args.path.now c.in-Some.next.now c.args.last.now (option_copied c.name_below.result) c.in-Some.ensures
    c.name_below.ensures.name

pub returns-in-None : goal.returns-in-None
returns-in-None c = no_name_behind c.args.self.now c.args.path.now c.args.last.now c.in-None.ensures
