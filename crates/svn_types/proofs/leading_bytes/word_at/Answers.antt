use Rattle.std.proofs.Common.{◌∙◌, arith}
use Rattle.svn_types.proofs.ShortWords.{eight_bytes}
use Rattle.svn_types.proofs.leading_bytes.word_at.Goals as goal

pub returns-clause-word : goal.returns-clause-word
returns-clause-word c = c.from_be_bytes.ensures ∙ eight_bytes c.args.start c.args.bytes.now

pub returns-clause-bytes : goal.returns-clause-bytes
returns-clause-bytes c = λ i. omega (arith, c.type_inv.bytes i)
