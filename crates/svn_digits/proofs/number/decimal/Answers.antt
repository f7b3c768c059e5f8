use Rattle.std.proofs.Common.{sym, ap, ◌∙◌}
use Rattle.svn_digits.specs.Numbers.{decimal_from, decimal_value}
use Rattle.svn_digits.proofs.NumberLemmas.{no_digit_fits}
use Rattle.svn_digits.proofs.number.decimal.Goals as goal

pub returns-in-None : goal.returns-in-None
returns-in-None c =
    no_digit_fits c.digits.value c.in-Some.byte.now c.in-Some.after.now (decimal_value c.args.digits.now) c.in-None.ensures.value
    (ap (decimal_from c.digits.value) (sym c.in-Some.ensures.cases.0) ∙ c.digits.invariant.0)
