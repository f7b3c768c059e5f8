use Rattle.std.proofs.Common.{rules, ◌≡◌, refl, sym, ◌∙◌}
use Rattle.std.specs.declared.cmp.Ordering.TheVariants.{Less, Greater}
use Rattle.svn_types.specs.Names.{name_cmp}
use Rattle.svn_types.proofs.NameLemmas.{same_name, reversed}
use Rattle.svn_types.proofs.props_left.PropsLeft.take.Goals as goal

pub returns-in-Equal : goal.returns-in-Equal
returns-in-Equal c =
    let same : c.in-Some-Some.name.now ≡ c.in-Some-Some.other.now =
    same_name c.in-Some-Some.name.now c.in-Some-Some.other.now (sym c.cmp.ensures ∙ c.in-Equal.is) in
    record { old = search rules; new = search (rules, same); one = refl }

pub returns-in-Greater : goal.returns-in-Greater
returns-in-Greater c =
    let behind : name_cmp c.in-Some-Some.other.now c.in-Some-Some.name.now ≡ Less =
    reversed c.in-Some-Some.name.now c.in-Some-Some.other.now Greater (sym c.cmp.ensures ∙ c.in-Greater.is) in
    record { old = search (rules, behind); new = search rules; one = refl }
