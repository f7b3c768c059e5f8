use Rattle.std.proofs.Common.{◌≡◌, subst, sym}
use Rattle.svn_history.specs.declared.fault.LoadFault.TheVariants.{Memory}
use Rattle.svn_history.specs.Loading.{LoadsDump}
use Rattle.svn_history.specs.Fronts.{FrontLoaded}
use Rattle.svn_dump.specs.Readers.{left_in}
use Rattle.svn_lists.proofs.Results.{IfErr_returned}
use Rattle.svn_answers.specs.declared.loaded.DumpRefusal.{DumpRefusal}
use Rattle.svn_answers.specs.Loadings.{IsAtFront, IsDumpRefusal, in_front}
use Rattle.svn_answers.proofs.Loadings.{loaded_by, begun_fresh, memory_in_front, refusal_by}
use Rattle.svn_answers.proofs.loaded.Loaded.load.Goals as goal

pub returns-clause-loaded : goal.returns-clause-loaded
returns-clause-loaded g c =
    let remaining = g.R.Read.remaining in
    let input = g.R.Read.remaining c.args.input in
    let begun = c.in_ok-loader.loader in
    let ready = c.in_ok-loader.ensures.ready in
    loaded_by remaining c.args.limits c.args.texts begun input _ ready
    (subst (λ repo. LoadsDump begun.records.limits begun.records.texts (left_in remaining begun.records) begun.transaction.history repo)
    (sym c.into_repo.ensures)
    (c.in-Ok.ensures.dump ready.no_rev (begun_fresh remaining c.args.limits c.args.texts begun input ready)))
    (subst (λ first. FrontLoaded remaining begun c.in_ok-uuid.uuid first) (sym c.first_revision-first.ensures)
    (subst (λ uuid. FrontLoaded remaining begun uuid c.load_all_with.new.self.front.first) (sym c.in_ok-uuid.ensures.uuid)
    (c.in-Ok.ensures.front ready.no_rev ready.no_first)))

pub returns-in-Err-clause-refused : goal.returns-in-Err-clause-refused
returns-in-Err-clause-refused g c =
    let remaining = g.R.Read.remaining in
    let input = g.R.Read.remaining c.args.input in
    let begun = c.in_ok-loader.loader in
    let new = c.load_all_with.new.self in
    refusal_by c.args.limits c.args.texts remaining input begun new c.of.result c.in-Err._fault new.transaction.history c.in-Err.ensures.refused
    c.in_ok-loader.ensures.ready (c.in-Err.ensures.fault c.in_ok-loader.ensures.going) c.of.ensures

pub returns-in_err-uuid-clause-refused : goal.returns-in_err-uuid-clause-refused
returns-in_err-uuid-clause-refused g c =
    let input = g.R.Read.remaining c.args.input in
    IfErr_returned (λ x. x ≡ c.in_err-uuid.field-0.0) (IsDumpRefusal c.args.limits c.args.texts input) c.from_residual-in_err-uuid.result
    c.from_residual-in_err-uuid.ensures
    (λ x is.
    in_front
    (memory_in_front c.args.limits c.args.texts input x (subst (λ (r : DumpRefusal). IsAtFront r Memory) (sym is) c.in_err-uuid.ensures.fault)))
