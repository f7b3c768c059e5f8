use Rattle.std.proofs.Common.{◌∷◌, ◌||◌, refl, sym, ap, subst, ◌∙◌}
use Rattle.svn_model.specs.Refusals.{has_twice}
use Rattle.svn_wc.proofs.SortedNodes.{IsRising, rising, only_next}
use Rattle.svn_wc.proofs.listed.has_twice.Goals as goal

pub nodes-init : goal.nodes-init
nodes-init c = record { up = rising c.args.nodes.now c.requires; same = refl }

pub returns-then-begins_with : goal.returns-then-begins_with
returns-then-begins_with c =
    let up : IsRising (c.in-Some.first.now ∷ c.in-Some.after.now) = subst IsRising c.in-Some.ensures.cases.0 c.nodes.invariant.up in
    let again = sym (only_next c.in-Some.first.now c.in-Some.after.now up) ∙ sym c.begins_with.ensures ∙ c.if-begins_with.true in
    sym (ap (λ b. b || has_twice c.in-Some.after.now) again) ∙ sym (ap has_twice c.in-Some.ensures.cases.0) ∙ c.nodes.invariant.same

pub nodes-preserved : goal.nodes-preserved
nodes-preserved c =
    let up : IsRising (c.in-Some.first.now ∷ c.in-Some.after.now) = subst IsRising c.in-Some.ensures.cases.0 c.nodes.invariant.up in
    let again = sym (only_next c.in-Some.first.now c.in-Some.after.now up) ∙ sym c.begins_with.ensures ∙ c.if-begins_with.false in
    record {
      up = up.1;
      same = sym (ap (λ b. b || has_twice c.in-Some.after.now) again) ∙ sym (ap has_twice c.in-Some.ensures.cases.0)
          ∙ c.nodes.invariant.same;
    }
