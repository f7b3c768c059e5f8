use Rattle.std.proofs.Common.{[], List, ap, subst, ◌∙◌}
use Rattle.std.specs.Prelude.{slice_get}
use Rattle.std.specs.Map.{values_of}
use Rattle.svn_types.proofs.NameLemmas.{Name}
use Rattle.svn_name_map.specs.Runs.{IsRunFor}
use Rattle.std.proofs.lemmas.List.{get_or_read}
use Rattle.svn_name_map.proofs.Joined.{value_read, none_read, gone_read, same_read}
use Rattle.svn_name_map.proofs.runs.remove_pair.Goals as goal

pub returns-in_ok-take_out-in-Ok-clause-before : goal.returns-in_ok-take_out-in-Ok-clause-before
returns-in_ok-take_out-in-Ok-clause-before g c =
    let runs = c.args.runs.now.items in
    let name = c.args.name.now in
    let at = c.in-Some.at in
    let run : IsRunFor runs name at = subst (λ rs. IsRunFor rs name at) c.as_slice.ensures.value c.in-Some.ensures in
    let read = get_or_read runs at c.index.result.now run.0 c.index.ensures [] in
    value_read runs name at run c.requires c.index.result.now c.index.ensures c.in_ok-take_out-in-Ok.field-0 c.in-Ok.place c.in-Ok.ensures
    (ap (λ (r : List (Name × _)). slice_get (values_of r) c.in-Ok.place) read ∙ c.in_ok-take_out-in-Ok.ensures.value)

pub returns-in_ok-take_out-in-Ok-clause-removed : goal.returns-in_ok-take_out-in-Ok-clause-removed
returns-in_ok-take_out-in-Ok-clause-removed g c =
    let runs = c.args.runs.now.items in
    let name = c.args.name.now in
    let at = c.in-Some.at in
    let run : IsRunFor runs name at = subst (λ rs. IsRunFor rs name at) c.as_slice.ensures.value c.in-Some.ensures in
    c.in_ok-take_out-in-Ok.ensures.removed
    ∙ gone_read runs name at run c.requires c.index.result.now c.index.ensures c.in-Ok.place c.in-Ok.ensures

pub returns-in-Err-clause-before : goal.returns-in-Err-clause-before
returns-in-Err-clause-before g c =
    let runs = c.args.runs.now.items in
    let name = c.args.name.now in
    let at = c.in-Some.at in
    let run : IsRunFor runs name at = subst (λ rs. IsRunFor rs name at) c.as_slice.ensures.value c.in-Some.ensures in
    none_read runs name at run c.requires c.index.result.now c.index.ensures c.in-Err.field-0 c.in-Err.ensures

pub returns-in-Err-clause-removed : goal.returns-in-Err-clause-removed
returns-in-Err-clause-removed g c =
    let runs = c.args.runs.now.items in
    let name = c.args.name.now in
    let at = c.in-Some.at in
    let run : IsRunFor runs name at = subst (λ rs. IsRunFor rs name at) c.as_slice.ensures.value c.in-Some.ensures in
    same_read runs name at run c.requires c.index.result.now c.index.ensures c.in-Err.field-0 c.in-Err.ensures
