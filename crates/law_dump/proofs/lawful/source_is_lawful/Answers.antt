use Rattle.law_dump.proofs.lawful.source_is_lawful.Goals as goal

pub returns-in-Some : goal.returns-in-Some
returns-in-Some c = rw c.in-Some.is (record { path = c.path_is_lawful.ensures; rev = c.rev_is_small.ensures })
