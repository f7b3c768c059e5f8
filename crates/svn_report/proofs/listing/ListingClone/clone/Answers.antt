use Rattle.std.proofs.Common.{◌≡◌, ◌∙◌, sym, subst}
use Rattle.std.proofs.lemmas.Map.Entries.{entries_from_clone}
use Rattle.svn_types.specs.Names.{Path}
use Rattle.svn_report.specs.Reports.{Entries}
use Rattle.svn_report.specs.ReportOrder.{IsIndexed}
use Rattle.svn_report.proofs.Clones.{entry_clone, index_clone}
use Rattle.svn_report.proofs.listing.ListingClone.clone.Goals as goal

pub returns : goal.returns
returns c = record {
  cases = entries_from_clone (λ (p : Path) (q : Path). q ≡ p) _ (λ p q same. same) entry_clone c.self.inside.entries.entries
      c.in_ok-clone.field-0.entries c.in_ok-clone.ensures.cases
      ∙ c.self.view_is;
}

pub invariant_of-result : goal.invariant_of-result
invariant_of-result c =
    let same =
    entries_from_clone (λ (p : Path) (q : Path). q ≡ p) _ (λ p q same. same) entry_clone c.self.inside.entries.entries
    c.in_ok-clone.field-0.entries c.in_ok-clone.ensures.cases in
    subst (λ (es : Entries). IsIndexed c.in_ok-clone-2.field-0 es) (sym same)
    (index_clone c.self.inside.index c.in_ok-clone-2.field-0 c.self.inside.entries.entries c.in_ok-clone-2.ensures.cases c.self.invariant)
