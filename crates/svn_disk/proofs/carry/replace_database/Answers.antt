use Rattle.std.proofs.Common.{rules}
use Rattle.std.specs.Prelude.{codes}
use Rattle.svn_disk.specs.Crashes.{IsSafe}
use Rattle.svn_disk.proofs.Going.{goes_more, stops_there}
use Rattle.svn_disk.proofs.Running.{runs_more, breaks_there}
use Rattle.svn_disk.specs.Ends.{IsExchanged}
use Rattle.svn_disk.proofs.Ends.{ends_more}
use Rattle.svn_disk.proofs.EndsDone.{exchanged_more}
use Rattle.svn_disk.proofs.carry.replace_database.Goals as goal

pub returns-in_err-make_database-clause-crash : goal.returns-in_err-make_database-clause-crash
returns-in_err-make_database-clause-crash g c = λ sync is one two stands. let stops = (c.in_err-make_database.ensures.crash sync is one two stands).1 in search rules

pub returns-in_err-_lock-clause-steps : goal.returns-in_err-_lock-clause-steps
returns-in_err-_lock-clause-steps g c = let stops = stops_there c.in_ok-make_database.ensures.steps.0 in search rules

pub returns-in_err-_lock-clause-crash : goal.returns-in_err-_lock-clause-crash
returns-in_err-_lock-clause-crash g c = λ sync is one two stands.
    let stops = breaks_there (c.in_ok-make_database.ensures.crash sync is one two stands).0 in search rules

pub returns-clause-steps : goal.returns-clause-steps
returns-clause-steps g c =
    goes_more (g.F.Folder.past c.put_database.new.folder) c.put_database.result c.in_ok-make_database.ensures.steps.0 c.put_database.ensures.steps

pub returns-clause-crash : goal.returns-clause-crash
returns-clause-crash g c = λ sync is one two stands.
    runs_more (IsSafe (codes ".svn") two) (g.F.Folder.past c.put_database.new.folder) c.put_database.result
    (c.in_ok-make_database.ensures.crash sync is one two stands).0 (c.put_database.ensures.crash sync is one two)

pub returns-clause-ends : goal.returns-clause-ends
returns-clause-ends g c =
    let n = c.args.admin.now.name in
    ends_more (IsExchanged n) (IsExchanged n) (g.F.Folder.past c.put_database.new.folder) c.put_database.result (exchanged_more n) c.in_ok-make_database.ensures.ends
    c.put_database.ensures.ends
