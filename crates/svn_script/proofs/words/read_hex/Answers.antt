use Rattle.std.proofs.Common.{sym, ap, ◌∙◌}
use Rattle.svn_script.proofs.Escapes.{byte_in, two_digits}
use Rattle.svn_script.proofs.words.read_hex.Goals as goal

pub returns-in-Ok : goal.returns-in-Ok
returns-in-Ok c = ap byte_in (sym c.in-Ok.is ∙ c.from_hex.ensures) ∙ two_digits c.args.high c.args.low

pub returns-in-Err : goal.returns-in-Err
returns-in-Err c = ap byte_in (sym c.in-Err.is ∙ c.from_hex.ensures) ∙ two_digits c.args.high c.args.low
