use Rattle.std.proofs.Common.{ℕ, List, sym, ap, ◌∙◌}
use Rattle.std.specs.List.{list_any}
use Rattle.std.specs.BTreeMap.{is_at}
use Rattle.std.specs.Ordering.{nat_cmp}
use Rattle.std.specs.Cmp.Lexicographic.{slice_cmp}
use Rattle.svn_disk_audit.specs.Pristine.{HasText}
use Rattle.svn_disk_audit.proofs.KeptTexts.{found_name}
use Rattle.svn_disk_audit.proofs.keeping.Keeper.has.Goals as goal

pub returns-then-eq-clause-text : goal.returns-then-eq-clause-text
returns-then-eq-clause-text c = λ found store read.
    let keys = c.args.self.now.names.keys in
    found_name (λ v. v.items) (HasText store) c.args.name.now keys
    (ap (λ (n : List ℕ). list_any (is_at (λ k. slice_cmp nat_cmp n k.items)) keys) (sym c.as_slice.ensures) ∙ sym c.contains.ensures ∙ found) read.0
