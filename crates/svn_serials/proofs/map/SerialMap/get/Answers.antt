use Rattle.std.proofs.Common.{sym, ap, subst, ◌∙◌}
use Rattle.svn_serials.specs.Serials.{get}
use Rattle.svn_serials.specs.Slots.{IsFilledAt}
use Rattle.svn_serials.proofs.Held.{get_at}
use Rattle.svn_serials.proofs.Order.{value_at}
use Rattle.svn_serials.proofs.map.SerialMap.get.Goals as goal

pub returns : goal.returns
returns g c =
    let ss = c.self.inside.slots.items in
    let at : IsFilledAt ss c.args.serial c.in-Some.place =
    subst (λ ts. IsFilledAt ts c.args.serial c.in-Some.place) c.as_slice.ensures.value c.in-Some.ensures in
    record {
      value =
          c.as_ref.ensures.value ∙ sym (value_at ss c.in-Some.place c.index.result.now at.within c.index.ensures)
          ∙ sym (get_at c.args.serial c.in-Some.place ss c.self.invariant.order at) ∙ ap (λ es. get es c.args.serial) c.self.view_is;
    }
