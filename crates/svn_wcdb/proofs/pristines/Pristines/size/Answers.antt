use Rattle.std.proofs.Common.{◌≡◌, None, sym, subst}
use Rattle.svn_types.specs.Pairs.{value_of}
use Rattle.svn_wcdb.specs.Pristines.{Sizes}
use Rattle.svn_wcdb.proofs.PristineLemmas.{no_value}
use Rattle.svn_wcdb.proofs.pristines.Pristines.size.Goals as goal

pub returns-in-Err : goal.returns-in-Err
returns-in-Err c =
    sym (subst (λ (es : Sizes). value_of es c.args.stand_in.now ≡ None) c.self.view_is
    (no_value 46 c.self.inside.sizes.entries c.args.stand_in.now c.self.invariant c.in-Err.ensures.1))
