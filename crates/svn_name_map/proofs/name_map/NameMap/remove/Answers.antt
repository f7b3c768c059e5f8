use Rattle.std.proofs.Common.{None, List, subst, sym, ◌-◌}
use Rattle.svn_types.specs.Pairs.{ChangesOnly}
use Rattle.svn_types.proofs.NameLemmas.{Name}
use Rattle.svn_name_map.specs.Runs.{joined}
use Rattle.svn_name_map.proofs.Changed.{IsCounted, changes_gone, counted_gone}
use Rattle.svn_name_map.proofs.name_map.NameMap.remove.Goals as goal

pub invariant_of-self-2 : goal.invariant_of-self-2
invariant_of-self-2 g c =
    subst (λ n. IsCounted (joined c.remove_pair.new.runs.items) (c.self.inside.len - n)) (sym c.from.ensures)
    (counted_gone (joined c.self.inside.runs.items) (joined c.remove_pair.new.runs.items) c.self.inside.len c.args.name.now
    c.in_ok-before.before c.is_some.result c.self.invariant c.in_ok-before.ensures.before c.is_some.ensures c.in_ok-before.ensures.removed)

pub returns-clause-lookups : goal.returns-clause-lookups
returns-clause-lookups g c =
    rw (← c.self.view_is)
    (subst (λ (es : List (Name × _)). ChangesOnly (joined c.self.inside.runs.items) es c.args.name.now None)
    (sym c.in_ok-before.ensures.removed) (changes_gone (joined c.self.inside.runs.items) c.args.name.now c.self.invariant.0))
