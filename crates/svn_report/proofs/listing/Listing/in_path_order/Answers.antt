use Rattle.std.proofs.Common.{rules, ◌≡◌, map, sym, subst}
use Rattle.std.specs.List.Sorted.{IsStrictlySortedBy}
use Rattle.std.specs.Map.{keys_of}
use Rattle.std.specs.Map.Iter.{deref_pair}
use Rattle.svn_types.specs.Names.{path_cmp}
use Rattle.svn_report.specs.Reports.{Entries}
use Rattle.svn_report.specs.ReportOrder.{InPathOrder}
use Rattle.svn_report.proofs.Sorting.{as_came}
use Rattle.svn_report.proofs.listing.Listing.in_path_order.Goals as goal

pub returns-in-None-clause-ordered : goal.returns-in-None-clause-ordered
returns-in-None-clause-ordered c =
    let same : map deref_pair c.in_ok-entries.entries.items ≡ c.self.inside.entries.entries = search rules in
    let order : InPathOrder c.self.inside.entries.entries = search rules in
    subst (λ (es : Entries). IsStrictlySortedBy path_cmp (keys_of es)) (sym same) (as_came c.self.inside.entries.entries order)
