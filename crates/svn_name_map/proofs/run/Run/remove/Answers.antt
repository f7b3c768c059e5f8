use Rattle.std.proofs.Common.{length, is_ok, slice_get, refl, sym, ◌∙◌, ap, arith}
use Rattle.std.specs.Arc.{arc_value}
use Rattle.std.specs.List.{remove}
use Rattle.std.proofs.lemmas.Option.{slice_get_read}
use Rattle.svn_name_map.proofs.Zipped.{length-run, pairs_remove, run_remove, same_names, values_run, written}
use Rattle.svn_name_map.proofs.run.Run.remove.Goals as goal

pub remove-requires : goal.remove-requires
remove-requires g c =
    let old = arc_value c.self.inside.names in
    let vs = c.self.inside.values.items in
    let own = c.in_ok-make_mut.field-0.now in
    omega (
      arith,
      c.requires.place,
      length-run old.items old.items vs vs c.self.invariant c.args.self.now c.self.view_is,
      c.self.invariant.0,
      ap length (same_names old own c.in_ok-make_mut.ensures.value),
      own.ok.0,
    )

pub invariant_of-self-2 : goal.invariant_of-self-2
invariant_of-self-2 g c =
    let old = arc_value c.self.inside.names in
    let last = arc_value (c.make_mut.follows.lender c.remove.new.self) in
    run_remove old.items last.items c.self.inside.values.items c.remove-2.new.self.items c.self.invariant c.args.self.now c.self.view_is c.args.place
    (written (λ l. remove l c.args.place) old c.in_ok-make_mut.field-0.now c.remove.new.self last c.in_ok-make_mut.ensures.value
    (c.make_mut.follows.holds c.remove.new.self (ap is_ok c.in_ok-make_mut.was)) c.remove.ensures.items)
    c.remove-2.ensures.items c.requires.place c.requires.more

pub returns-clause-value : goal.returns-clause-value
returns-clause-value g c =
    let ks = (arc_value c.self.inside.names).items in
    let vs = c.self.inside.values.items in
    ap (λ us. slice_get us c.args.place) (sym (values_run ks ks vs vs c.self.invariant c.args.self.now c.self.view_is))
    ∙ slice_get_read vs (length vs) c.args.place c.remove-2.result refl
    (omega (arith, length-run ks ks vs vs c.self.invariant c.args.self.now c.self.view_is, c.requires.place)) c.remove-2.ensures.value

pub returns-clause-ok : goal.returns-clause-ok
returns-clause-ok g c =
    let old = arc_value c.self.inside.names in
    let last = arc_value (c.make_mut.follows.lender c.remove.new.self) in
    pairs_remove old.items last.items c.self.inside.values.items c.remove-2.new.self.items c.self.invariant c.args.self.now c.self.view_is c.args.place
    (written (λ l. remove l c.args.place) old c.in_ok-make_mut.field-0.now c.remove.new.self last c.in_ok-make_mut.ensures.value
    (c.make_mut.follows.holds c.remove.new.self (ap is_ok c.in_ok-make_mut.was)) c.remove.ensures.items)
    c.remove-2.ensures.items
