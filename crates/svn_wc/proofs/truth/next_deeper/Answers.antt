use Rattle.std.proofs.Common.{ap, subst, ◌∙◌}
use Rattle.std.specs.Option.{option_copied}
use Rattle.svn_types.specs.Names.{Path}
use Rattle.svn_wc.specs.Truths.{IsLastName}
use Rattle.svn_wc.proofs.Deeper.{last_told, no_last_told}
use Rattle.svn_wc.proofs.truth.next_deeper.Goals.{then-names-depth-eq1, else-names-depth-eq1}
use Rattle.svn_wc.proofs.truth.next_deeper.Goals as goal

pub returns-clause-name : goal.returns-clause-name
returns-clause-name c =
    let names = c.components-names.result.now in
    let depth = c.args.depth in
    subst (λ (q : Path). IsLastName depth q (option_copied c.if-names-depth-eq1.name)) c.components-names.ensures.names
    (elim c.if-names-depth-eq1.branch [
      | then-names-depth-eq1 w ↦
          last_told depth names (option_copied c.if-names-depth-eq1.name) c.if-names-depth.false w.if-names-depth-eq1.true
          (ap option_copied w.name-is ∙ w.last-name.ensures.value)
      | else-names-depth-eq1 w ↦
          no_last_told depth names (option_copied c.if-names-depth-eq1.name) w.if-names-depth-eq1.false (ap option_copied w.name-is)
    ])
