-- Dates of revisions, as the property `svn:date` has them: `2026-11-29T17:06:08.123456Z`.
--     micros_of date      the microseconds from the beginning of 1970 up to a date; none where it is no date with an offset (ISO 8601)
use Rattle.std.specs.Prelude.{ℕ, ℤ, pos, int_div, List, Option, Some, None, Result, Ok, Err}
use Rattle.jiff_core.specs.declared.error.Error.{Error}
use Rattle.jiff_fmt.specs.Temporal.{parse_timestamp}

abbrev pub micros_in : Result ℤ Error → Option ℤ
micros_in (Ok nanos) = Some (int_div nanos (pos 1000))
micros_in (Err e) = None

abbrev pub micros_of : List ℕ → Option ℤ
micros_of date = micros_in (parse_timestamp date)
