use Rattle.std.proofs.Common.{arith}
use Rattle.std.proofs.lemmas.Grind.{common_steps}
use Rattle.std.proofs.lemmas.Str.{IsUtf8-had}
use Rattle.svn_types.proofs.KeyTexts.{text_with_name}
use Rattle.svn_types.proofs.path_key.long_of.Goals as goal

pub loop-name-preserved : goal.loop-name-preserved
loop-name-preserved c = (
  grind (arith, common_steps),
  grind (arith, common_steps),
  rw (c.in_ok-push.ensures.items, c.in_ok-extend_from_slice.ensures.items)
      (text_with_name c.loop-name.key.items c.as_bytes.result.now (IsUtf8-had _ c.loop-name.invariant.2) c.as_bytes.ensures.utf8),
)
