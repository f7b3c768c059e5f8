use Rattle.std.proofs.Common.{◌≡◌, None, ap, sym, subst, ◌∙◌}
use Rattle.svn_repo.specs.History.{History}
use Rattle.svn_editor.specs.declared.mode.Mode.TheVariants.{Update}
use Rattle.svn_report.specs.Reports.{ReportView}
use Rattle.svn_drive.specs.Requests.{requested, input_of}
use Rattle.svn_model.specs.Crawl.{crawl}
use Rattle.svn_model.specs.Nodes.{get_in, IsTrueOf}
use Rattle.law_update.specs.Laws.{IsTrueCopy}
use Rattle.svn_update.specs.Commands.{IsRecorded}
use Rattle.svn_update.specs.ScriptStates.{ScriptState}
use Rattle.svn_update.proofs.CopyLemmas.{drives, driven, on_copy}
use Rattle.svn_update.proofs.TruthLemmas.{found_true}
use Rattle.svn_update.proofs.state.State.drive.Goals as goal

pub drive_report-requires : goal.drive_report-requires
drive_report-requires c =
    let same_repo : c.self.inside.repo ≡ c.args.self.now.repo = ap (λ (s : ScriptState). s.repo) c.self.view_is in
    let true_copy : IsTrueCopy c.args.self.now.repo c.in-Some.copy =
    subst (λ (h : History). IsTrueCopy h c.in-Some.copy) same_repo (record {
      history = c.law.ensures.history;
      in_order = c.law-2.ensures.order;
      shape = c.law-2.ensures.shape;
      true_of = found_true c.self.inside.repo c.self.inside.copy c.in-Some.copy c.self.invariant c.in-Some.is;
    }) in
    record {
      drive =
          driven c.args.self.now.repo c.in-Some.copy c.in-Ok.report c.args.rev c.args.late c.crawl_says_what_stands.ensures
          c.the_calls_are_a_drive.ensures true_copy c.in-Ok.ensures.report;
    }

pub returns-in-Ok : goal.returns-in-Ok
returns-in-Ok c =
    let same_repo : c.self.inside.repo ≡ c.args.self.now.repo = ap (λ (s : ScriptState). s.repo) c.self.view_is in
    on_copy _ _ _ _ c.in-Some.copy (ap (λ (s : ScriptState). s.copy) (sym c.self.view_is) ∙ c.in-Some.is)
    (drives c.args.self.now.repo c.in-Some.copy (input_of c.args.self.now.repo (crawl c.in-Some.copy) (requested c.args.rev Update c.args.late None)) c.args.late
    c.drive_report.result
    (subst (λ (h : History). IsTrueOf h (get_in c.in-Some.copy)) same_repo
    (found_true c.self.inside.repo c.self.inside.copy c.in-Some.copy c.self.invariant c.in-Some.is))
    (subst (λ (r : ReportView). IsRecorded (input_of c.args.self.now.repo r (requested c.args.rev Update c.args.late None)) c.args.late c.drive_report.result)
    c.in-Ok.ensures.report c.drive_report.ensures))

pub returns-in-Err : goal.returns-in-Err
returns-in-Err c =
    on_copy _ _ _ _ c.in-Some.copy (ap (λ (s : ScriptState). s.copy) (sym c.self.view_is) ∙ c.in-Some.is) (
      subst (λ (h : History). IsTrueOf h (get_in c.in-Some.copy)) (ap (λ (s : ScriptState). s.repo) c.self.view_is)
          (found_true c.self.inside.repo c.self.inside.copy c.in-Some.copy c.self.invariant c.in-Some.is),
      c.in-Err.ensures.fault,
    )
