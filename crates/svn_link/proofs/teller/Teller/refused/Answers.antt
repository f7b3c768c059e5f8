use Rattle.std.proofs.Common.{◌∙◌, ap, rules}
use Rattle.svn_link.proofs.Telling.{tells}
use Rattle.svn_link.proofs.teller.Teller.refused.Goals as goal

pub swap_as-requires : goal.swap_as-requires
swap_as-requires g c = (
  search rules,
  (
    search rules,
    (search rules, tells _ _ _ (ap (λ v. v.tells) c.self.invariant.tells) (ap (λ e. e.number) c.self.view_is ∙ c.requires.nothing)),
  ),
)
