use Rattle.std.proofs.Common.{length, ◌∙◌, ap, arith}
use Rattle.std.specs.Arc.{arc_value}
use Rattle.std.specs.List.{insert}
use Rattle.svn_name_map.proofs.Zipped.{length-run, pairs_insert, run_insert}
use Rattle.svn_name_map.proofs.run.Run.insert.Goals as goal

pub insert_name-requires : goal.insert_name-requires
insert_name-requires g c =
    let ks = (arc_value c.self.inside.names).items in
    let vs = c.self.inside.values.items in
    omega (arith, c.requires.0, length-run ks ks vs vs c.self.invariant c.args.self.now c.self.view_is, c.self.invariant.0)

pub insert-requires : goal.insert-requires
insert-requires g c =
    let ks = (arc_value c.self.inside.names).items in
    let vs = c.self.inside.values.items in
    omega (
      arith,
      c.requires.0,
      length-run ks ks vs vs c.self.invariant c.args.self.now c.self.view_is,
      ap length c.in_ok-reserve.ensures.items,
      c.reserve.new.self.ok.0,
    )

pub invariant_of-self-2 : goal.invariant_of-self-2
invariant_of-self-2 g c =
    run_insert (arc_value c.self.inside.names).items (arc_value c.insert_name.new.names).items c.self.inside.values.items c.insert.new.self.items
    c.self.invariant c.args.self.now c.self.view_is c.args.place c.args.name c.args.value c.in_ok-insert_name.ensures.ok
    (c.in-Ok.ensures.items ∙ ap (λ vs. insert vs c.args.place c.args.value) c.in_ok-reserve.ensures.items) c.requires

pub returns-clause-ok : goal.returns-clause-ok
returns-clause-ok g c =
    pairs_insert (arc_value c.self.inside.names).items (arc_value c.insert_name.new.names).items c.self.inside.values.items c.insert.new.self.items
    c.self.invariant c.args.self.now c.self.view_is c.args.place c.args.name c.args.value c.in_ok-insert_name.ensures.ok
    (c.in-Ok.ensures.items ∙ ap (λ vs. insert vs c.args.place c.args.value) c.in_ok-reserve.ensures.items)
