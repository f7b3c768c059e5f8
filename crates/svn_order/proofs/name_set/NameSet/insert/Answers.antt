use Rattle.std.proofs.Common.{ℕ, ◌-◌, List, length, ◌++◌, ◌||◌, bytes_eq, slice_get, sym, ◌∙◌, ap, subst}
use Rattle.std.specs.List.Sorted.{IsSorted}
use Rattle.svn_types.specs.Names.{name_cmp}
use Rattle.svn_order.specs.NameSets.{has_name, is_behind}
use Rattle.svn_order.proofs.OrderedNames.{sorted_behind, put_behind, put_among}
use Rattle.svn_order.proofs.name_set.NameSet.insert.Goals as goal

pub invariant_of-self : goal.invariant_of-self
invariant_of-self c =
    subst (λ (xs : List (List ℕ)). IsSorted name_cmp xs) (sym c.in_ok-push.ensures.items)
    (sorted_behind c.self.inside.in_order.items c.args.name c.self.invariant
    (ap (λ (xs : List (List ℕ)). is_behind (slice_get xs (length xs - 1)) c.args.name) (sym c.deref.ensures.value)
    ∙ sym c.if-is_behind.ensures))

pub returns-in_ok-push : goal.returns-in_ok-push
returns-in_ok-push c = λ m.
    ap (λ (xs : List (List ℕ)). has_name (xs ++ c.self.inside.others.keys) m) c.in_ok-push.ensures.items
    ∙ put_behind c.self.inside.in_order.items c.self.inside.others.keys c.args.name m
    ∙ ap (λ (s : List (List ℕ)). has_name s m || bytes_eq c.args.name m) c.self.view_is

pub returns-in_ok-insert : goal.returns-in_ok-insert
returns-in_ok-insert c = λ m.
    put_among c.self.inside.in_order.items c.self.inside.others c.insert.new.self c.args.name c.in_ok-insert.ensures.updates.0 m
    ∙ ap (λ (s : List (List ℕ)). has_name s m || bytes_eq c.args.name m) c.self.view_is
