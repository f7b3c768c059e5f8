use Rattle.std.proofs.Common.{nat_eq, sym, ◌∙◌}
use Rattle.std.specs.Cmp.Lexicographic.{pointwise}
use Rattle.svn_disk.proofs.NodeEquality.{prop_eq, same_bytes, same_props, same_lent}
use Rattle.svn_disk.proofs.difference.is_same_node.Goals as goal

pub returns-then-eq : goal.returns-then-eq
returns-then-eq c = λ same. (
  sym c.text.ensures ∙ same_lent (pointwise nat_eq) same_bytes c.text.result c.text-2.result (sym c.if-eq.ensures) ∙ c.text-2.ensures,
  sym c.props.ensures ∙ same_lent (pointwise prop_eq) same_props c.props.result c.props-then-eq.result (sym c.eq-then-eq.ensures ∙ same) ∙ c.props-then-eq.ensures,
)
