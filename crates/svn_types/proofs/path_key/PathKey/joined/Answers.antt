use Rattle.svn_types.proofs.KeyTexts.{text_of_three}
use Rattle.svn_types.proofs.path_key.PathKey.joined.Goals as goal

pub invariant_of-result-2 : goal.invariant_of-result-2
invariant_of-result-2 c =
    rw (
      c.in_ok-extend_from_slice-3.ensures.items,
      c.in_ok-extend_from_slice-2.ensures.items,
      c.in_ok-extend_from_slice.ensures.items,
      c.in_ok-key.ensures.items,
    )
    (text_of_three c.as_bytes.result.now c.as_bytes-2.result.now c.as_bytes-3.result.now c.as_bytes.ensures.utf8 c.as_bytes-2.ensures.utf8
    c.as_bytes-3.ensures.utf8)
