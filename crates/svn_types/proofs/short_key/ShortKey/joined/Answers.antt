use Rattle.svn_types.proofs.KeyTexts.{text_of_three}
use Rattle.svn_types.proofs.short_key.ShortKey.joined.Goals as goal

pub invariant_of-result : goal.invariant_of-result
invariant_of-result g c =
    rw (c.push_all-2.ensures, c.push_all.ensures, c.of-bytes.ensures)
    (text_of_three c.as_bytes.result.now c.as_bytes-2.result.now c.as_bytes-3.result.now c.as_bytes.ensures.utf8 c.as_bytes-2.ensures.utf8
    c.as_bytes-3.ensures.utf8)

pub returns-clause-text : goal.returns-clause-text
returns-clause-text g c =
    rw (c.push_all-2.ensures, c.push_all.ensures, c.of-bytes.ensures)
    (text_of_three c.as_bytes.result.now c.as_bytes-2.result.now c.as_bytes-3.result.now c.as_bytes.ensures.utf8 c.as_bytes-2.ensures.utf8
    c.as_bytes-3.ensures.utf8)
