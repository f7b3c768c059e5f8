use Rattle.std.proofs.Common.{◌≡◌, ◌-◌, ◌∙◌, drop, length, sym, ap, arith, ℕ}
use Rattle.std.specs.Cmp.Lexicographic.{pointwise_decides, bytes_decides}
use Rattle.svn_types.specs.Names.{Path}
use Rattle.svn_nodes.proofs.gather.front_of.Goals as goal

pub returns-in-Some : goal.returns-in-Some
returns-in-Some c =
    let whole : Path = c.components.result.now in
    let own : Path = c.components-2.result.now in
    let parts = c.in-Some.ensures.cases in
    let same : drop (length whole - length own) whole ≡ own =
    (pointwise_decides bytes_decides (drop (length whole - length own) whole) own).0 parts.0 in
    let front : length c.in-Some.front.now ≡ length whole - length own = omega (arith, parts.2) in (
      omega (arith, parts.2, ap length c.components.ensures.names),
      sym c.components-2.ensures.names ∙ sym same ∙ ap (λ (k : ℕ). drop k whole) (sym front)
          ∙ ap (λ (q : Path). drop (length c.in-Some.front.now) q) c.components.ensures.names,
    )
