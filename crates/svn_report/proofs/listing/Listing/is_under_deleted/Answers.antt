use Rattle.std.proofs.Common.{◌&&◌, sym, ap, ◌∙◌}
use Rattle.svn_report.specs.Reports.{entry_at, is_deleted_at}
use Rattle.svn_report.proofs.Listings.{previous_deleted, previous_none}
use Rattle.svn_report.proofs.listing.Listing.is_under_deleted.Goals as goal

pub returns-then-is_within : goal.returns-then-is_within
returns-then-is_within c =
    c.is_deleted.ensures
    ∙ ap (λ b. b && is_deleted_at (entry_at c.args.self.now c.in-Some.previous.now)) (sym c.if-is_within.true ∙ c.is_within.ensures)
    ∙ previous_deleted c.args.self.now c.args.path.now c.in-Some.previous.now c.law.ensures c.in-Some.ensures

pub returns-else-is_within : goal.returns-else-is_within
returns-else-is_within c =
    c.if-is_within.false
    ∙ ap (λ b. b && is_deleted_at (entry_at c.args.self.now c.in-Some.previous.now)) (sym c.if-is_within.false ∙ c.is_within.ensures)
    ∙ previous_deleted c.args.self.now c.args.path.now c.in-Some.previous.now c.law.ensures c.in-Some.ensures

pub returns-in-None : goal.returns-in-None
returns-in-None c = previous_none c.args.self.now c.args.path.now c.law.ensures c.in-None.ensures
