use Rattle.std.proofs.Common.{List, set, ap, subst, ◌∙◌}
use Rattle.svn_lists.proofs.Places.{read_twice}
use Rattle.svn_types.proofs.NameLemmas.{Name}
use Rattle.svn_name_map.specs.Runs.{joined, IsRunFor, IsFoundAt}
use Rattle.svn_name_map.proofs.Joined.{value_read, none_read, set_read}
use Rattle.svn_name_map.proofs.runs.set_value.Goals as goal

pub returns-in-Ok-clause-before : goal.returns-in-Ok-clause-before
returns-in-Ok-clause-before g c =
    let runs = c.args.runs.now.items in
    let name = c.args.name.now in
    let at = c.in_ok-at.at in
    let run : IsRunFor runs name at = subst (λ rs. IsRunFor rs name at) c.as_slice.ensures.value c.in_ok-at.ensures in
    value_read runs name at run c.requires c.index_mut.result.now c.index_mut.ensures.value c.set.result c.in-Ok.place
    (subst (λ r. IsFoundAt r name c.in-Ok.place)
    (read_twice runs at run.0 c.index.result.now c.index_mut.result.now c.index.ensures c.index_mut.ensures.value) c.in-Ok.ensures)
    c.set.ensures.before

pub returns-in-Ok-clause-set : goal.returns-in-Ok-clause-set
returns-in-Ok-clause-set g c = λ v is.
    let runs = c.args.runs.now.items in
    let name = c.args.name.now in
    let at = c.in_ok-at.at in
    let run : IsRunFor runs name at = subst (λ rs. IsRunFor rs name at) c.as_slice.ensures.value c.in_ok-at.ensures in
    ap (λ (r : List (Name × _)). joined (set runs at r)) c.set.ensures.set
    ∙ set_read runs name at run c.requires c.index_mut.result.now c.index_mut.ensures.value c.args.value c.in-Ok.place
    (subst (λ r. IsFoundAt r name c.in-Ok.place)
    (read_twice runs at run.0 c.index.result.now c.index_mut.result.now c.index.ensures c.index_mut.ensures.value) c.in-Ok.ensures)

pub returns-in-Err-clause-before : goal.returns-in-Err-clause-before
returns-in-Err-clause-before g c =
    let runs = c.args.runs.now.items in
    let name = c.args.name.now in
    let at = c.in_ok-at.at in
    let run : IsRunFor runs name at = subst (λ rs. IsRunFor rs name at) c.as_slice.ensures.value c.in_ok-at.ensures in
    none_read runs name at run c.requires c.index.result.now c.index.ensures c.in-Err.field-0 c.in-Err.ensures
