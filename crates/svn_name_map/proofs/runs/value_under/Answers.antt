use Rattle.std.proofs.Common.{subst}
use Rattle.svn_lists.proofs.Entries.{value_at}
use Rattle.svn_lists.proofs.Places.{read_twice}
use Rattle.svn_name_map.specs.Runs.{IsFoundAt}
use Rattle.svn_name_map.proofs.Joined.{value_read, none_read}
use Rattle.svn_name_map.proofs.runs.value_under.Goals as goal

pub returns-in-Ok : goal.returns-in-Ok
returns-in-Ok g c =
    let runs = c.args.runs.now in
    let name = c.args.name.now in
    let run = c.in_ok-at.ensures in
    let r = c.index-runs-at-in-Ok.result in
    let found : IsFoundAt r name c.in-Ok.place =
    subst (λ s. IsFoundAt s name c.in-Ok.place)
    (read_twice runs c.in_ok-at.at run.0 c.index-runs-at.result r c.index-runs-at.is c.index-runs-at-in-Ok.is) c.in-Ok.ensures in
    value_read runs name c.in_ok-at.at run c.requires r c.index-runs-at-in-Ok.is c.index-values-place.result c.in-Ok.place found
    (value_at r c.values.result.now c.in-Ok.place c.index-values-place.result c.values.ensures found.0 c.index-values-place.is)

pub returns-in-Err : goal.returns-in-Err
returns-in-Err g c =
    none_read c.args.runs.now c.args.name.now c.in_ok-at.at c.in_ok-at.ensures c.requires c.index-runs-at.result c.index-runs-at.is
    c.in-Err.field-0 c.in-Err.ensures
