use Rattle.std.proofs.Common.{rules, ◌≡◌, ◌++◌, ◌∷◌, [], List, false, true, sym, ◌∙◌, ap, append_assoc}
use Rattle.std.proofs.lemmas.Bool.{not-true, not-false}
use Rattle.std.specs.Option.{option_copied}
use Rattle.svn_types.specs.Props.{PropChange, is_same_value, changes_between}
use Rattle.svn_types.specs.Merging.{InEither}
use Rattle.svn_types.proofs.Merges.{left_sorted, first_change, same_values}
use Rattle.svn_types.proofs.props.Props.changes_to.Goals as goal

pub names-preserved-in_ok-push : goal.names-preserved-in_ok-push
names-preserved-in_ok-push c =
    let first : InEither = (c.in-Some.name, c.in-Some.was, c.in-Some.value) in
    let inv = c.names.invariant in
    let sorted = left_sorted first c.names.left c.take.new.self inv.before inv.after c.in-Some.ensures in
    let differ : is_same_value (option_copied c.in-Some.was) (option_copied c.in-Some.value) ≡ false =
    sym (same_values c.in-Some.was c.in-Some.value) ∙ not-true _ (sym c.ne.ensures ∙ c.if-ne.true) in
    let change : PropChange = (c.in-Some.name.now, option_copied c.in-Some.value) in
    let left : List PropChange = changes_between c.take.new.self.before c.take.new.self.after in
    let pushed : c.push.new.self.items ≡ c.names.changes.items ++ change ∷ [] = search rules in
    record {
      before = sorted.0;
      after = sorted.1;
      all =
          ap (λ (l : List PropChange). l ++ left) pushed ∙ append_assoc c.names.changes.items (change ∷ []) left
          ∙ ap (λ (l : List PropChange). c.names.changes.items ++ l)
          (sym (first_change first c.names.left c.take.new.self inv.before inv.after c.in-Some.ensures false differ))
          ∙ inv.all;
    }

pub names-preserved : goal.names-preserved
names-preserved c =
    let first : InEither = (c.in-Some.name, c.in-Some.was, c.in-Some.value) in
    let inv = c.names.invariant in
    let sorted = left_sorted first c.names.left c.take.new.self inv.before inv.after c.in-Some.ensures in
    let same : is_same_value (option_copied c.in-Some.was) (option_copied c.in-Some.value) ≡ true =
    sym (same_values c.in-Some.was c.in-Some.value) ∙ not-false _ (sym c.ne.ensures ∙ c.if-ne.false) in
    record {
      before = sorted.0;
      after = sorted.1;
      all =
          ap (λ (l : List PropChange). c.names.changes.items ++ l)
          (sym (first_change first c.names.left c.take.new.self inv.before inv.after c.in-Some.ensures true same))
          ∙ inv.all;
    }
