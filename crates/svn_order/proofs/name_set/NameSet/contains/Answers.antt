use Rattle.std.proofs.Common.{ℕ, List, ◌||◌, bytes_eq, sym, ◌∙◌, ap}
use Rattle.std.specs.List.{list_any}
use Rattle.std.specs.BTreeSet.{contains}
use Rattle.svn_types.specs.Names.{name_cmp}
use Rattle.svn_order.specs.NameSets.{has_name}
use Rattle.svn_order.proofs.OrderedNames.{among_both}
use Rattle.svn_order.proofs.name_set.NameSet.contains.Goals as goal

pub returns-else-is_among : goal.returns-else-is_among
returns-else-is_among c =
    let name = c.args.name.now in
    c.contains.ensures
    ∙ ap (λ b. b || contains name_cmp c.self.inside.others name)
    (c.if-is_among.ensures ∙ ap (list_any (bytes_eq name)) c.deref.ensures.value)
    ∙ sym (among_both c.self.inside.in_order.items c.self.inside.others name)
    ∙ ap (λ (s : List (List ℕ)). has_name s name) c.self.view_is
