use Rattle.std.specs.Option.{option_copied}
use Rattle.svn_report.proofs.NextNames.{first_name, no_first_name}
use Rattle.svn_report.proofs.listing.Listing.first_name_below.Goals as goal

pub returns-in-Some-clause-name : goal.returns-in-Some-clause-name
returns-in-Some-clause-name c =
    first_name c.args.self.now c.args.path.now c.in-Some.next.now (option_copied c.name_below.result) c.in-Some.ensures c.name_below.ensures.name

pub returns-in-None-clause-name : goal.returns-in-None-clause-name
returns-in-None-clause-name c = no_first_name c.args.self.now c.args.path.now c.in-None.ensures
