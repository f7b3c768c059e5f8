use Rattle.std.proofs.Common.{List, take, drop, sym, ◌∙◌, ap, subst}
use Rattle.std.specs.List.Sorted.{IsStrictlySortedBy}
use Rattle.std.specs.Map.{keys_of}
use Rattle.svn_lists.proofs.Sorted.{sorted_drop, sorted_take}
use Rattle.svn_lists.proofs.Zips.{dropped_pairs, taken_pairs}
use Rattle.svn_types.specs.Names.{name_cmp}
use Rattle.svn_types.proofs.NameLemmas.{Name}
use Rattle.svn_name_map.proofs.run.Run.halves.Goals as goal

pub copied-requires-clause-ordered : goal.copied-requires-clause-ordered
copied-requires-clause-ordered g c =
    subst (λ (ks : List Name). IsStrictlySortedBy name_cmp ks) (sym (c.split_at.ensures.front ∙ ap (take c.args.place) c.names.ensures.names))
    (sorted_take name_cmp c.args.place (keys_of c.args.self.now) c.names.ensures.ordered)

pub copied-requires-2-clause-ordered : goal.copied-requires-2-clause-ordered
copied-requires-2-clause-ordered g c =
    subst (λ (ks : List Name). IsStrictlySortedBy name_cmp ks) (sym (c.split_at.ensures.back ∙ ap (drop c.args.place) c.names.ensures.names))
    (sorted_drop name_cmp c.args.place (keys_of c.args.self.now) c.names.ensures.ordered)

pub returns-clause-before : goal.returns-clause-before
returns-clause-before g c =
    c.in_ok-before.ensures
    ∙ taken_pairs c.args.self.now c.args.place c.split_at.result.0.now c.split_at-2.result.0.now
    (c.split_at.ensures.front ∙ ap (take c.args.place) c.names.ensures.names) (c.split_at-2.ensures.front ∙ ap (take c.args.place) c.values.ensures)

pub returns-clause-after : goal.returns-clause-after
returns-clause-after g c =
    c.in_ok-after.ensures
    ∙ dropped_pairs c.args.self.now c.args.place c.split_at.result.1.now c.split_at-2.result.1.now
    (c.split_at.ensures.back ∙ ap (drop c.args.place) c.names.ensures.names) (c.split_at-2.ensures.back ∙ ap (drop c.args.place) c.values.ensures)
