use Rattle.std.proofs.Common.{◌≡◌, ℕ, List, subst}
use Rattle.std.specs.Prelude.{get_or}
use Rattle.sqlite_value.specs.declared.value.ValueRef.TheVariants as lent
use Rattle.sqlite_value.specs.Value.{owned}
use Rattle.svn_wcdb.specs.Columns.{column}
use Rattle.svn_wcdb.proofs.columns.Columns.value.Goals as goal

pub returns : goal.returns
returns c =
    subst (λ (bytes : List ℕ). owned (get_or c.self.inside.values c.args.place lent.Null) ≡ column bytes c.args.place) c.self.view_is
    (c.self.invariant c.args.place c.requires)
