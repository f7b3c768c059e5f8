use Rattle.std.proofs.Common.{◌≡◌, length, set, slice_get, refl, sym, ◌∙◌, ap, arith}
use Rattle.std.specs.Arc.{arc_value}
use Rattle.std.specs.List.{zip}
use Rattle.std.specs.Map.{keys_of, values_of}
use Rattle.std.proofs.lemmas.Map.Made.{keys_of-zip}
use Rattle.std.proofs.lemmas.Slice.Zip.{seconds-zip}
use Rattle.std.proofs.lemmas.Option.{slice_get_read}
use Rattle.svn_lists.proofs.Zips.{length-pairs}
use Rattle.svn_name_map.proofs.run.Run.set.Goals as goal

pub index_mut-requires : goal.index_mut-requires
index_mut-requires g c =
    omega (
      arith,
      length-pairs (arc_value c.self.inside.names).items c.self.inside.values.items c.self.invariant.0,
      ap length c.self.view_is,
      c.self.inside.values.ok.0,
    )

pub returns-clause-before : goal.returns-clause-before
returns-clause-before g c =
    let ks = (arc_value c.self.inside.names).items in
    let vs = c.self.inside.values.items in
    ap (λ es. slice_get (values_of es) c.args.place) (sym c.self.view_is)
    ∙ ap (λ us. slice_get us c.args.place) (seconds-zip ks vs c.self.invariant.0)
    ∙ slice_get_read vs (length vs) c.args.place c.replace.result refl
    (omega (arith, length-pairs ks vs c.self.invariant.0, ap length c.self.view_is)) cc

pub returns-clause-set : goal.returns-clause-set
returns-clause-set g c =
    let ks = (arc_value c.self.inside.names).items in
    let vs = c.self.inside.values.items in
    let keys : ks ≡ keys_of c.args.self.now = sym (keys_of-zip ks vs c.self.invariant.0) ∙ ap keys_of c.self.view_is in
    let values : vs ≡ values_of c.args.self.now = sym (seconds-zip ks vs c.self.invariant.0) ∙ ap values_of c.self.view_is in
    ap (λ v. zip ks (set vs c.args.place v)) c.replace.ensures.after
    ∙ (λ i. zip (keys i) (set (values i) c.args.place c.args.value))
