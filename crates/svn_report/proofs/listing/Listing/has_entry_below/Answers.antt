use Rattle.std.proofs.Common.{◌∙◌}
use Rattle.svn_report.proofs.Listings.{next_below, none_below}
use Rattle.svn_report.proofs.listing.Listing.has_entry_below.Goals as goal

pub returns-in-Some : goal.returns-in-Some
returns-in-Some c = c.is_within.ensures ∙ next_below c.args.self.now c.args.path.now c.in-Some.next.now c.in-Some.ensures

pub returns-in-None : goal.returns-in-None
returns-in-None c = none_below c.args.self.now c.args.path.now c.in-None.ensures
