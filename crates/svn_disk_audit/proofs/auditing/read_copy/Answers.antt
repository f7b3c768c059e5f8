use Rattle.svn_wcdb.specs.Bases.{seen_base}
use Rattle.svn_disk_audit.proofs.Verdicts.{is_copy_of}
use Rattle.svn_disk_audit.proofs.auditing.read_copy.Goals as goal

pub returns-clause-copy : goal.returns-clause-copy
returns-clause-copy g c =
    let reading = c.args.reading in
    is_copy_of reading.takes reading.texts (g.E.Examiner.text_at c.args.examiner.now) (g.E.Examiner.text_at c.examine.new.self) c.args.database.now
    reading.below.now c.in_ok-copy.copy (seen_base c.in_ok-read.read.tree) c.in_ok-nodes.nodes.items c.examine.ensures.same c.in_ok-read.ensures.tree
    c.in_ok-nodes.ensures.kept c.in_ok-copy.ensures.nodes
