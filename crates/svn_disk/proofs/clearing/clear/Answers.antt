use Rattle.std.proofs.Common.{[], ◌∷◌, ap, ◌∙◌}
use Rattle.std.specs.Prelude.{codes}
use Rattle.svn_types.specs.Paths.{is_within}
use Rattle.svn_types.proofs.NameLemmas.{Name}
use Rattle.svn_disk.proofs.clearing.clear.Goals as goal

pub returns-in-Some-Directory : goal.returns-in-Some-Directory
returns-in-Some-Directory g c =
    c.remove_synced.ensures (codes ".svn-new")
    (ap (is_within (codes ".svn-new" ∷ [])) (c.in_ok-path.ensures ∙ ap (λ (n : Name). n ∷ []) c.in_ok-admin.ensures))
