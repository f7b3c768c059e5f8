use Rattle.std.proofs.Common.{◌≡◌, List, length, sym, ◌∙◌, ap, subst, arith}
use Rattle.std.specs.Arc.{arc_value}
use Rattle.std.specs.List.Sorted.{IsStrictlySortedBy}
use Rattle.std.specs.Map.{keys_of}
use Rattle.std.proofs.lemmas.Map.Made.{keys_of-zip}
use Rattle.svn_lists.proofs.Zips.{length-pairs}
use Rattle.svn_types.specs.Names.{name_cmp}
use Rattle.svn_types.proofs.NameLemmas.{Name}
use Rattle.svn_name_map.proofs.run.Run.names.Goals as goal

pub returns-clause-names : goal.returns-clause-names
returns-clause-names g c =
    let inside : c.as_slice.result.now ≡ (arc_value c.self.inside.names).items = cc in
    inside
    ∙ sym (keys_of-zip (arc_value c.self.inside.names).items c.self.inside.values.items c.self.invariant.0)
    ∙ ap keys_of c.self.view_is

pub returns-clause-ordered : goal.returns-clause-ordered
returns-clause-ordered g c =
    subst (λ (ks : List Name). IsStrictlySortedBy name_cmp ks)
    (sym (keys_of-zip (arc_value c.self.inside.names).items c.self.inside.values.items c.self.invariant.0) ∙ ap keys_of c.self.view_is)
    c.self.invariant.2

pub returns-clause-some : goal.returns-clause-some
returns-clause-some g c =
    omega (
      arith,
      length-pairs (arc_value c.self.inside.names).items c.self.inside.values.items c.self.invariant.0,
      ap length c.self.view_is,
      c.self.invariant.1,
    )
