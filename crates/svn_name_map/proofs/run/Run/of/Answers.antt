use Rattle.std.proofs.Common.{◌≡◌, ◌∷◌, [], List, length, sym, ◌∙◌, ap, subst, arith}
use Rattle.std.specs.Arc.{arc_value}
use Rattle.std.specs.List.Sorted.{IsStrictlySortedBy}
use Rattle.svn_lists.proofs.Sorted.{sorted_one}
use Rattle.svn_types.specs.Names.{name_cmp}
use Rattle.svn_types.proofs.NameLemmas.{Name}
use Rattle.svn_name_map.proofs.run.Run.of.Goals as goal

pub invariant_of-result : goal.invariant_of-result
invariant_of-result g c =
    let names : (arc_value c.in_ok-new.field-0).items ≡ c.args.name ∷ [] = cc (c.in_ok-new.ensures.ok, c.in_ok-push.ensures.items, c.new-names.ensures.items) in
    let values : c.push-2.new.self.items ≡ c.args.value ∷ [] = cc (c.in_ok-push-2.ensures.items, c.new-values.ensures.items) in (
      ap length values ∙ sym (ap length names),
      omega (arith, ap length values),
      subst (λ (ks : List Name). IsStrictlySortedBy name_cmp ks) (sym names) (sorted_one name_cmp c.args.name),
    )
