use Rattle.std.proofs.Common.{suc, take, drop, [], ◌++◌, List, length, get_or, set, sym, ap, ◌∙◌, arith}
use Rattle.std.specs.List.{remove}
use Rattle.svn_lists.proofs.Parts.{remove_only}
use Rattle.svn_types.proofs.NameLemmas.{Name}
use Rattle.svn_name_map.specs.Runs.{joined}
use Rattle.std.proofs.lemmas.List.{get_or_read}
use Rattle.std.proofs.lemmas.Result.{on_ok_weaker}
use Rattle.svn_name_map.proofs.Joined.{around_set, around_remove}
use Rattle.svn_name_map.proofs.runs.take_out.Goals as goal

pub returns-then-len-gt1-clause-removed : goal.returns-then-len-gt1-clause-removed
returns-then-len-gt1-clause-removed g c =
    let runs = c.args.runs.now.items in
    let m = c.args.at in
    let at = get_or_read runs m c.index_mut.result.now c.requires.within c.index_mut.ensures.value [] in
    on_ok_weaker c.remove.result
    (λ is. ap (λ (r : List (Name × _)). joined (set runs m r)) (is ∙ ap (λ (r : List (Name × _)). remove r c.args.place) at)
    ∙ around_set runs m (remove (get_or runs m []) c.args.place) c.requires.within)
    c.remove.ensures.ok

pub returns-clause-removed : goal.returns-clause-removed
returns-clause-removed g c =
    let runs = c.args.runs.now.items in
    let m = c.args.at in
    let at = get_or_read runs m c.index.result.now c.requires.within c.index.ensures [] in
    let same = ap length at in
    let length = c.len.ensures.length in
    let test = c.if-len-gt1.false in
    ap joined c.remove-2.ensures.items ∙ around_remove runs m
    ∙ ap (λ (l : List (Name × _)). joined (take m runs) ++ (l ++ joined (drop (suc m) runs)))
    (sym (remove_only (get_or runs m []) c.args.place (omega (arith, same, length, test)) c.requires.place))
