use Rattle.svn_dump.proofs.Indexing.{one_noted}
use Rattle.svn_dump.proofs.index.DumpIndex.note_text.Goals as goal

pub returns-clause-texts : goal.returns-clause-texts
returns-clause-texts c =
    one_noted c.args.self.now (record c.args.self.now { texts = c.insert.new.self }) _ _ c.args.end c.saturating_sub.ensures c.in_ok-insert.ensures.updates
