-- How many calls were made, and the next token.
--     with_last result made      how many were made, the last one among them where it was accepted
use Rattle.std.specs.Prelude.{ℕ, ◌+◌, Result, Ok, Err}
use Rattle.svn_model.specs.declared.stop.Stop.{Stop}

pub record Counts : Type 0 where
  pub made : ℕ
  pub next : ℕ

abbrev pub with_last : Result (Unit {0}) Stop → ℕ → ℕ
with_last (Ok done) made = made + 1
with_last (Err stop) made = made
