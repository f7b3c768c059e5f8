use Rattle.std.proofs.Common.{None, is_some, refl, sym, ap, ◌∙◌}
use Rattle.svn_pool.specs.Pools.{strings_of_pool}
use Rattle.svn_pool.proofs.Outcomes.{fault_if_gone, fault_if_some}
use Rattle.svn_pool.proofs.Views.{pool_is, strings_are}
use Rattle.svn_pool.proofs.tree.PoolTree.strings.Goals as goal

pub returns-in_default-clause-answers : goal.returns-in_default-clause-answers
returns-in_default-clause-answers g c =
    rw (fault_if_gone _ (λ _. None) (pool_is c.self.invariant c.self.view_is c.args.pool.0 ∙ sym c.in_default.ensures)) refl

pub returns-in_default-read-clause-answers : goal.returns-in_default-read-clause-answers
returns-in_default-read-clause-answers g c =
    rw (fault_if_some _ None (ap is_some (pool_is c.self.invariant c.self.view_is c.args.pool.0 ∙ sym c.in-Some.ensures))) refl

pub returns-clause-answers : goal.returns-clause-answers
returns-clause-answers g c =
    rw (fault_if_some _ None (ap is_some (pool_is c.self.invariant c.self.view_is c.args.pool.0 ∙ sym c.in-Some.ensures))) tt

pub returns-clause-strings : goal.returns-clause-strings
returns-clause-strings g c =
    c.in-Some-read.ensures ∙ ap strings_of_pool c.in-Some.ensures ∙ sym (strings_are c.self.invariant c.self.view_is c.args.pool.0)
