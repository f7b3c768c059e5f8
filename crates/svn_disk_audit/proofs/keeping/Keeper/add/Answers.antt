use Rattle.svn_disk_audit.proofs.keeping.Keeper.add.Goals as goal

pub returns-in_ok-add_name-in-Sha1-clause-read : goal.returns-in_ok-add_name-in-Sha1-clause-read
returns-in_ok-add_name-in-Sha1-clause-read c = λ store read kept. c.in_ok-add_name-in-Sha1.ensures.read store read (kept.0, kept.1)
