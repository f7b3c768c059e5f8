use Rattle.std.proofs.Common.{Some, List, subst, sym, ap}
use Rattle.svn_types.specs.Pairs.{ChangesOnly, InNameOrder}
use Rattle.svn_types.proofs.NameLemmas.{Name}
use Rattle.svn_name_map.specs.Runs.{joined}
use Rattle.svn_name_map.proofs.Changed.{changes_put, counted_set}
use Rattle.svn_name_map.proofs.name_map.NameMap.set.Goals as goal

pub invariant_of-self : goal.invariant_of-self
invariant_of-self g c =
    counted_set (joined c.self.inside.runs.items) (joined c.set_value.new.runs.items) c.self.inside.len c.args.name.now c.args.value
    c.set_value.result c.self.invariant c.set_value.ensures.before c.set_value.ensures.set
    (λ none. ap (λ v. joined v.items) (c.set_value.ensures.unchanged none))

pub returns-clause-lookups : goal.returns-clause-lookups
returns-clause-lookups g c = λ v is.
    rw (← c.self.view_is)
    (subst (λ (es : List (Name × _)). ChangesOnly (joined c.self.inside.runs.items) es c.args.name.now (Some c.args.value))
    (sym (c.set_value.ensures.set v is)) (changes_put (joined c.self.inside.runs.items) c.args.name.now c.args.value))

pub returns-clause-ordered : goal.returns-clause-ordered
returns-clause-ordered g c = subst (λ (es : List (Name × _)). InNameOrder es) c.self.view_is c.self.invariant.0
