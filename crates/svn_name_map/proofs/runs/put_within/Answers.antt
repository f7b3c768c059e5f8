use Rattle.std.proofs.Common.{[], List, get_or, set, sym, ap, ◌∙◌}
use Rattle.std.specs.List.{insert}
use Rattle.std.proofs.lemmas.List.{get_or_read}
use Rattle.svn_types.proofs.NameLemmas.{Name}
use Rattle.svn_name_map.specs.Runs.{joined}
use Rattle.svn_name_map.proofs.Ordered.{put_at}
use Rattle.svn_name_map.proofs.Joined.{joined_two, put_in_two}
use Rattle.svn_name_map.proofs.runs.put_within.Goals as goal

pub returns-clause-put : goal.returns-clause-put
returns-clause-put g c =
    let runs = c.args.runs.now.items in
    let m = c.args.at in
    let r = get_or runs m [] in
    let at = get_or_read runs m c.index.result.now c.requires.run.0 c.index.ensures [] in
    ap (λ (l : List (List (Name × _))). joined (set l m c.in_ok-before.before)) c.in_ok-insert.ensures.items
    ∙ joined_two runs m c.in_ok-before.before c.in_ok-before.after c.requires.run.0
    ∙ put_in_two runs c.args.name m c.requires.run c.args.value c.in_ok-before.before c.in_ok-before.after
    (c.in_ok-before.ensures ∙ ap (λ (l : List (Name × _)). insert l c.args.place (c.args.name, c.args.value)) at
    ∙ sym (put_at c.args.name c.args.value r c.args.place c.requires.place))
