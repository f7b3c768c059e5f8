use Rattle.std.proofs.Common.{[], List, get_or, set, sym, ap, ◌∙◌}
use Rattle.std.specs.List.{insert}
use Rattle.std.proofs.lemmas.List.{get_or_read}
use Rattle.svn_types.proofs.NameLemmas.{Name}
use Rattle.svn_name_map.specs.Runs.{joined}
use Rattle.std.proofs.lemmas.Result.{on_ok_weaker}
use Rattle.svn_name_map.proofs.Ordered.{put_at}
use Rattle.svn_name_map.proofs.Joined.{put_in_run}
use Rattle.svn_name_map.proofs.runs.put.Goals as goal

pub returns-then-len-lt-MAX_RUN-clause-put : goal.returns-then-len-lt-MAX_RUN-clause-put
returns-then-len-lt-MAX_RUN-clause-put g c =
    let runs = c.args.runs.now.items in
    let m = c.args.at in
    let at = get_or_read runs m c.index_mut.result.now c.requires.run.0 c.index_mut.ensures.value [] in
    on_ok_weaker c.insert.result
    (λ is. ap (λ (r : List (Name × _)). joined (set runs m r))
    (is ∙ ap (λ (r : List (Name × _)). insert r c.args.place (c.args.name, c.args.value)) at
    ∙ sym (put_at c.args.name c.args.value (get_or runs m []) c.args.place c.requires.place))
    ∙ put_in_run runs c.args.name m c.requires.run c.args.value)
    c.insert.ensures.ok
