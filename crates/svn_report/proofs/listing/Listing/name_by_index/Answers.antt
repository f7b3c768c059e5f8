use Rattle.std.proofs.Common.{subst}
use Rattle.std.specs.Prelude.{Some, None}
use Rattle.std.specs.Option.{option_copied}
use Rattle.std.specs.BTreeSet.{contains}
use Rattle.svn_types.specs.Names.{Path, path_cmp}
use Rattle.svn_types.specs.Paths.{child}
use Rattle.svn_report.specs.ReportOrder.{IsNextBy, end_cmp}
use Rattle.svn_report.proofs.Listings.{next_kept}
use Rattle.svn_report.proofs.NextNames.{joined, later_name, no_later_name}
use Rattle.svn_report.proofs.listing.Listing.name_by_index.Goals as goal

pub returns-in-Some : goal.returns-in-Some
returns-in-Some c =
    later_name c.args.self.now c.args.path.now c.in-Some.next.now c.args.last.now (option_copied c.name_below.result)
    (next_kept end_cmp c.args.index.now c.args.self.now (child c.args.path.now c.args.last.now) (Some c.in-Some.next.now) c.requires
    (subst (λ (q : Path). IsNextBy end_cmp (contains path_cmp c.args.index.now) q (Some c.in-Some.next.now))
    (joined _ _ _ c.in-Ok.ensures) c.in-Some.ensures))
    c.name_below.ensures.name

pub returns-in-None : goal.returns-in-None
returns-in-None c =
    no_later_name c.args.self.now c.args.path.now c.args.last.now
    (next_kept end_cmp c.args.index.now c.args.self.now (child c.args.path.now c.args.last.now) None c.requires
    (subst (λ (q : Path). IsNextBy end_cmp (contains path_cmp c.args.index.now) q None) (joined _ _ _ c.in-Ok.ensures) c.in-None.ensures))
