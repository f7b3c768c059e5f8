use Rattle.std.proofs.Common.{sym}
use Rattle.svn_order.proofs.OrderedNames.{none_behind, found, none_between}
use Rattle.std.proofs.lemmas.List.Sorted.{searchable_from_sorted}
use Rattle.std.specs.Cmp.Lexicographic.{nat_list_cmp_total}
use Rattle.svn_types.proofs.NameLemmas.{Name}
use Rattle.svn_order.proofs.name_set.is_among.Goals as goal

pub returns-then-is_behind : goal.returns-then-is_behind
returns-then-is_behind c = sym (none_behind c.args.names.now c.args.name.now c.requires (sym c.if-is_behind.ensures))

pub returns-in-Ok : goal.returns-in-Ok
returns-in-Ok c = sym (found c.args.names.now c.args.name.now c.in-Ok.field-0 c.in-Ok.ensures.bound c.in-Ok.ensures.ok)

pub returns-in-Err : goal.returns-in-Err
returns-in-Err c =
    sym (none_between c.args.names.now c.args.name.now c.in-Err.field-0
    (c.in-Err.ensures.position
    (searchable_from_sorted nat_list_cmp_total (λ (y : Name). y) c.args.names.now c.args.name.now c.requires)))
