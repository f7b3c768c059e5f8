use Rattle.svn_history.specs.Places.{IsShown}
use Rattle.svn_history.specs.Parts.{loading, RefusesPart, RefusesOne, at_once}
use Rattle.svn_history.proofs.Faults.{IfErr_then}
use Rattle.svn_history.proofs.loader.Loader.load_one.Goals as goal

pub returns-else-is_none-clause-fault : goal.returns-else-is_none-clause-fault
returns-else-is_none-clause-fault g c =
    let old = c.args.self.now in
    let left = c.load_next.new.self.transaction.history in
    IfErr_then {P = λ e. RefusesPart old.records.limits old.records.texts (IsShown g.R.Read.remaining old c.load_next.new.self)
    (loading g.R.Read.remaining old) e left}
    (λ e. RefusesOne old.records.limits old.records.texts (IsShown g.R.Read.remaining old c.load_next.new.self)
    (loading g.R.Read.remaining old) e left) c.load_next.result
    c.load_next.ensures.fault (λ e h. at_once h)
