use Rattle.std.proofs.Common.{◌≡◌, sym, ap, subst, ◌∙◌, rules}
use Rattle.std.specs.Prelude.{Result, Ok, Err}
use Rattle.svn_serials.specs.Serials.{get}
use Rattle.std.proofs.lemmas.Option.{same_Some}
use Rattle.svn_editor.specs.declared.fault.EditFault.{EditFault}
use Rattle.svn_edit.specs.declared.baton.Baton.{Baton}
use Rattle.svn_edit.specs.Closing.{ClosesFile}
use Rattle.svn_edit.proofs.pending.Pending.close_file.Goals as goal

pub returns-in_err-close_file_of-clause-closes : goal.returns-in_err-close_file_of-clause-closes
returns-in_err-close_file_of-clause-closes c = λ b there.
    let old = c.args.self.now in
    let nodes = c.args.copy.now.entries in
    let nodes2 = c.close_file_of.new.copy.entries in
    let refused : c.from_residual.result ≡ Err c.in_err-close_file_of.field-0.0 = search rules in
    let same : c.in-Some.baton.now ≡ b = same_Some c.in-Some.baton.now b (c.in-Some.ensures.value
    ∙ ap (get old.batons) c.token.view_is ∙ there) in
    subst (λ (r : Result (Unit {0}) EditFault). ClosesFile c.args.mode.now old b c.args.text_md5.now nodes r nodes2) (sym refused)
    (subst (λ (x : Baton). ClosesFile c.args.mode.now old x c.args.text_md5.now nodes (Err c.in_err-close_file_of.field-0.0) nodes2) same
    c.in_err-close_file_of.ensures)

pub returns-clause-closes : goal.returns-clause-closes
returns-clause-closes c = λ b there.
    let old = c.args.self.now in
    let same : c.in-Some.baton.now ≡ b = same_Some c.in-Some.baton.now b (c.in-Some.ensures.value
    ∙ ap (get old.batons) c.token.view_is ∙ there) in
    subst (λ (x : Baton). ClosesFile c.args.mode.now old x c.args.text_md5.now c.args.copy.now.entries (Ok tt) c.close_file_of.new.copy.entries) same
    c.in_ok-close_file_of.ensures
