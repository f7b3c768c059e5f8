use Rattle.svn_disk.proofs.existing.refuse_other_bytes.Goals as goal

pub returns-then-branch : goal.returns-then-branch
returns-then-branch g c = c.in_ok-has_database.ensures c.if-branch.true
