use Rattle.std.proofs.Common.{◌≡◌, [], ◌∷◌, ◌++◌, List, set, refl, sym, ap, subst, ◌∙◌}
use Rattle.std.specs.BTreeMap.{insert_entry}
use Rattle.svn_lists.proofs.Places.{read_twice}
use Rattle.svn_types.specs.Names.{name_cmp}
use Rattle.svn_types.proofs.NameLemmas.{Name}
use Rattle.svn_name_map.specs.Runs.{joined, IsRunFor, IsFoundAt}
use Rattle.svn_name_map.proofs.Joined.{value_read, none_read, set_read}
use Rattle.svn_name_map.proofs.runs.insert_pair.Goals as goal

pub returns-in_default-clause-put : goal.returns-in_default-clause-put
returns-in_default-clause-put g c =
    let runs = c.args.runs.now.items in
    let name = c.args.name in
    let value = c.args.value in
    ap joined c.in_ok-push.ensures.items ∙ ap (λ (r : List (Name × _)). joined (runs ++ r ∷ [])) c.in_ok-first.ensures
    ∙ subst (λ (rs : List (List (Name × _))). joined (rs ++ ((name, value) ∷ []) ∷ []) ≡ insert_entry name_cmp (joined rs) name value)
    (sym (sym c.as_slice.ensures.value ∙ c.in_default.ensures)) refl

pub returns-in-Ok-clause-before : goal.returns-in-Ok-clause-before
returns-in-Ok-clause-before g c =
    let runs = c.args.runs.now.items in
    let name = c.args.name in
    let at = c.in-Some.at in
    let run : IsRunFor runs name at = subst (λ rs. IsRunFor rs name at) c.as_slice.ensures.value c.in-Some.ensures in
    value_read runs name at run c.requires c.index_mut.result.now c.index_mut.ensures.value c.set.result c.in-Ok.place
    (subst (λ r. IsFoundAt r name c.in-Ok.place)
    (read_twice runs at run.0 c.index.result.now c.index_mut.result.now c.index.ensures c.index_mut.ensures.value) c.in-Ok.ensures)
    c.set.ensures.before

pub returns-in-Ok-clause-put : goal.returns-in-Ok-clause-put
returns-in-Ok-clause-put g c =
    let runs = c.args.runs.now.items in
    let name = c.args.name in
    let at = c.in-Some.at in
    let run : IsRunFor runs name at = subst (λ rs. IsRunFor rs name at) c.as_slice.ensures.value c.in-Some.ensures in
    ap (λ (r : List (Name × _)). joined (set runs at r)) c.set.ensures.set
    ∙ set_read runs name at run c.requires c.index_mut.result.now c.index_mut.ensures.value c.args.value c.in-Ok.place
    (subst (λ r. IsFoundAt r name c.in-Ok.place)
    (read_twice runs at run.0 c.index.result.now c.index_mut.result.now c.index.ensures c.index_mut.ensures.value) c.in-Ok.ensures)

pub returns-in_ok-put-in-Err-clause-before : goal.returns-in_ok-put-in-Err-clause-before
returns-in_ok-put-in-Err-clause-before g c =
    let runs = c.args.runs.now.items in
    let name = c.args.name in
    let at = c.in-Some.at in
    let run : IsRunFor runs name at = subst (λ rs. IsRunFor rs name at) c.as_slice.ensures.value c.in-Some.ensures in
    none_read runs name at run c.requires c.index.result.now c.index.ensures c.in-Err.place c.in-Err.ensures
