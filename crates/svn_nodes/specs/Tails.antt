-- Paths that are tails of others.
--     IsTail front p q      p is what is left of q without that many names, if a number is given
use Rattle.std.specs.Prelude.{◌≡◌, ℕ, ◌≤◌, length, drop, Option, IfSome}
use Rattle.svn_types.specs.Names.{Path}

abbrev pub IsTail : Option ℕ → Path → Path → Type 0
IsTail front p q = IfSome front (λ k. (k ≤ length q) × (p ≡ drop k q))
