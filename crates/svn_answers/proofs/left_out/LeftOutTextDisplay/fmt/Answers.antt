use Rattle.std.proofs.Output.{has_written_of_eq}
use Rattle.svn_wcdb.specs.Sparse.{seen_left_out}
use Rattle.svn_answers.proofs.CheckedLines.{left_out_parts}
use Rattle.svn_answers.proofs.left_out.LeftOutTextDisplay.fmt.Goals as goal

pub returns-clause-writes : goal.returns-clause-writes
returns-clause-writes g c = λ plain ok.
    has_written_of_eq _ _ _ _ _ (left_out_parts (seen_left_out c.args.self.now.0.now) c.len.result c.len.ensures.len) (c.write.ensures.writes plain ok)
