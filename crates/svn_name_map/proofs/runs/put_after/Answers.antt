use Rattle.std.proofs.Common.{[], ◌++◌, List, length, get_or, sym, ap, ◌∙◌}
use Rattle.svn_types.proofs.NameLemmas.{Name}
use Rattle.svn_name_map.specs.Runs.{joined}
use Rattle.std.proofs.lemmas.List.Edits.{insert_end}
use Rattle.svn_name_map.proofs.Ordered.{put_at}
use Rattle.svn_name_map.proofs.Joined.{joined_next, put_in_two}
use Rattle.svn_name_map.proofs.runs.put_after.Goals as goal

pub returns-clause-put : goal.returns-clause-put
returns-clause-put g c =
    let runs = c.args.runs.now.items in
    let m = c.args.at in
    let r = get_or runs m [] in
    ap joined c.in_ok-insert.ensures.items
    ∙ joined_next runs m c.in_ok-next.next c.requires.run.0
    ∙ put_in_two runs c.args.name m c.requires.run c.args.value r c.in_ok-next.next
    (ap (λ (l : List (Name × _)). r ++ l) c.in_ok-next.ensures ∙ sym (insert_end r (c.args.name, c.args.value))
    ∙ sym (put_at c.args.name c.args.value r (length r) c.requires.place))
