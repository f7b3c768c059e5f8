use Rattle.std.proofs.Common.{arith}
use Rattle.std.proofs.lemmas.Grind.{common_steps}
use Rattle.std.proofs.lemmas.Str.{IsUtf8-had}
use Rattle.svn_types.proofs.KeyTexts.{text_with_name}
use Rattle.svn_types.proofs.short_key.ShortKey.of.Goals as goal

pub loop-name-preserved : goal.loop-name-preserved
loop-name-preserved g c = (
  grind (arith, common_steps),
  grind (arith, common_steps),
  rw (c.push_all-in-loop-name.ensures, c.push_all.ensures)
      (text_with_name c.loop-name.bytes c.as_bytes.result.now (IsUtf8-had _ c.loop-name.invariant.2) c.as_bytes.ensures.utf8),
)
