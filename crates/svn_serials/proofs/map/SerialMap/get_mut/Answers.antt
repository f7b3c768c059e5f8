use Rattle.std.proofs.Common.{nat_eq, ◌≡◌, None, inr, set, get_or, sym, ap, subst, ◌∙◌}
use Rattle.std.proofs.lemmas.List.{set-get_or}
use Rattle.std.specs.Map.{set_value}
use Rattle.std.specs.Option.{ghost_name_of}
use Rattle.svn_lists.proofs.Options.{some_value}
use Rattle.svn_serials.specs.Serials.{IsRising, get}
use Rattle.svn_serials.specs.Slots.{IsFilledAt, IsSound, held, values_in}
use Rattle.svn_serials.proofs.Held.{get_at, held_write}
use Rattle.svn_serials.proofs.Order.{rising_held, serial_at, value_at}
use Rattle.svn_serials.proofs.Sound.{sound_write}
use borrow.Follows.Closed.{read_of}
use Rattle.svn_serials.proofs.map.SerialMap.get_mut.Goals as goal

pub invariant_of-self-lent : goal.invariant_of-self-lent
invariant_of-self-lent g c = λ _.
    let ss = c.self.inside.slots.items in
    let i = c.in-Some.place in
    let s = c.index_mut.result.now in
    let at : IsFilledAt ss c.args.serial i = subst (λ ts. IsFilledAt ts c.args.serial i) c.as_slice.ensures.value c.in-Some.ensures in
    let here : IsFilledAt ss s.serial i =
    record { within = at.within; serial = serial_at ss i s at.within c.index_mut.ensures.value; value = at.value } in
    let same : set ss i s ≡ ss = ap (set ss i) c.index_mut.ensures.value ∙ set-get_or ss i s in (
      λ w. sound_write ss c.self.inside.filled s.serial i w c.self.invariant here,
      subst (λ ts. IsSound ts c.self.inside.filled) (sym same) c.self.invariant,
    )

pub returns-in-Some : goal.returns-in-Some
returns-in-Some g c =
    let ss = c.self.inside.slots.items in
    let i = c.in-Some.place in
    let q = c.args.serial in
    let s = c.index_mut.result.now in
    let at : IsFilledAt ss q i = subst (λ ts. IsFilledAt ts q i) c.as_slice.ensures.value c.in-Some.ensures in
    let serial = serial_at ss i s at.within c.index_mut.ensures.value in
    let v = some_value (get_or (values_in ss) i None) at.value in
    let same : set ss i s ≡ ss = ap (set ss i) c.index_mut.ensures.value ∙ set-get_or ss i s in
    let written =
    λ (w : g.row.V.Denot). held_write s.serial v.0 w ss i c.self.invariant.order at.within serial v.1
    ∙ ap (λ k. set_value (nat_eq k) (held ss) w) (sym serial ∙ at.serial) ∙ ap (λ es. set_value (nat_eq q) es w) c.self.view_is in
    let kept = ap held same ∙ c.self.view_is in (
      λ t. read_of (ghost_name_of c.as_mut.result) (λ (w : g.row.V.Denot). written w t) (kept t),
      record {
        writes_back = tt;
        value =
            c.as_mut.ensures.value ∙ sym (value_at ss i s at.within c.index_mut.ensures.value)
            ∙ sym (get_at q i ss c.self.invariant.order at)
            ∙ ap (λ es. get es q) c.self.view_is;
        rising = subst IsRising c.self.view_is (rising_held ss c.self.invariant.order);
      },
    )

pub returns-in-None : goal.returns-in-None
returns-in-None g c =
    let none = subst (λ ts. get (held ts) c.args.serial ≡ None) c.as_slice.ensures.value c.in-None.ensures in (
      ap inr c.self.view_is,
      record {
        writes_back = tt;
        value = sym none ∙ ap (λ es. get es c.args.serial) c.self.view_is;
        rising = subst IsRising c.self.view_is (rising_held c.self.inside.slots.items c.self.invariant.order);
      },
    )
