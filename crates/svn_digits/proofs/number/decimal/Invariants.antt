use Rattle.std.proofs.Common.{◌≡◌, length, Some}
use Rattle.svn_digits.specs.Numbers.{decimal_from, fitting}
use Rattle.svn_digits.proofs.number.decimal.Given as goal

abbrev pub decreases-digits : goal.decreases-digits
decreases-digits l = length l.rest

-- the digits that are left go on from the number so far, which fits
abbrev pub invariant-digits : goal.invariant-digits
invariant-digits l = (decimal_from l.value l.rest ≡ decimal_from 0 l.digits) × (fitting l.value ≡ Some l.value)
