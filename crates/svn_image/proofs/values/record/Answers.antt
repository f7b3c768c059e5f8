use Rattle.std.proofs.Common.{inl, inr, refl, sym, subst}
use Rattle.sqlite_value.specs.Order.{Row}
use Rattle.sqlite_trees.specs.View.{IsStorable}
use Rattle.svn_image.proofs.values.record.Goals as goal

-- the values that are no record are those of the row
pub returns-in-Err-Unstorable-clause-refused : goal.returns-in-Err-Unstorable-clause-refused
returns-in-Err-Unstorable-clause-refused c =
    elim (c.in-Err-Unstorable.ensures.err 0) [
      | inl other ↦ inl (cc)
      | inr found ↦ inr (refl, λ storable. found.1 (subst (λ (row : Row). IsStorable 0 row) (sym c.in_ok-row.ensures) storable))
    ]
