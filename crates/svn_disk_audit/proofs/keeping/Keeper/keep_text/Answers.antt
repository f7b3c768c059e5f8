use Rattle.std.proofs.Common.{◌≡◌, ℕ, List, Option, sym, ap, subst, ◌∙◌}
use Rattle.std.specs.Prelude.{All, IfSome}
use Rattle.svn_dump.specs.declared.sections.Texts.{Texts}
use Rattle.svn_dump.specs.Sections.{kept}
use Rattle.svn_disk_audit.specs.Pristine.{IsPristine, HasText, HasKept, IsFileFault}
use Rattle.svn_disk_audit.proofs.keeping.Keeper.keep_text.Goals as goal

pub returns-then-has-clause-text : goal.returns-then-has-clause-text
returns-then-has-clause-text g c =
    let store = g.E.Examiner.text_at c.args.examiner.now in
    let text : HasText store c.args.name = c.has.ensures.text c.if-has.true store c.requires in
    (text.0, text.1, sym text.1.named ∙ ap (λ (t : Texts). kept t text.0) (sym (c.has.ensures.texts c.if-has.true)))

pub returns-clause-fault : goal.returns-clause-fault
returns-clause-fault g c =
    subst (λ (known : Option (List ℕ)). IsFileFault known c.args.path.now c.args.name c.in_ok-audit_fault-in-Err-read.field-0) c.in-Ok.ensures.text
    (c.in_ok-audit_fault-in-Err-read.ensures _ c.in-Err-read.ensures.fault)

pub returns-in-Some-clause-text : goal.returns-in-Some-clause-text
returns-in-Some-clause-text g c =
    let store = g.E.Examiner.text_at c.args.examiner.now in
    subst (λ (word : Option (List ℕ)). IfSome word (HasKept store c.args.self.now.reader.texts c.args.name)) c.in-Some.is
    (c.in_ok-word.ensures store c.requires)

pub returns-in-Ok-read-clause-read : goal.returns-in-Ok-read-clause-read
returns-in-Ok-read-clause-read g c =
    let store = g.E.Examiner.text_at c.args.examiner.now in
    let old = c.args.self.now in
    c.in_ok-add-in-Ok-read.ensures.read store (
      c.requires.0,
      subst (λ (t : Texts). All (λ e. HasKept store t e.0.items e.1) old.words.entries) (sym c.read.ensures.texts) c.requires.1,
    )
    (subst (λ (t : Texts). HasKept store t c.args.name c.in-Ok-read.text) (sym c.read.ensures.texts)
    (subst (λ (known : Option (List ℕ)). (text : List ℕ) × IsPristine known c.args.name text × (c.in-Ok-read.text ≡ kept old.reader.texts text))
    c.in-Ok.ensures.text c.in-Ok-read.ensures.text))
