use Rattle.svn_wcdb.specs.Sparse.{seen_left_out, left_out_in}
use Rattle.svn_disk_audit.specs.Audits.{IsAudit}
use Rattle.svn_disk_audit.proofs.Verdicts.{found_by, is_audit, is_verdict}
use Rattle.svn_disk_audit.proofs.auditing.audit.Goals as goal

pub returns-clause-audit : goal.returns-clause-audit
returns-clause-audit g c =
    let question = c.args.question in
    let reading = question.reading in
    let database = c.args.database.now in
    let copy = c.in_ok-found.found.copy in
    let untrue = c.in_ok-untrue.untrue.items in
    let by =
    found_by (seen_left_out c.in_ok-found.found.left_out) (left_out_in reading.takes reading.below.now database) question.repo.now copy untrue
    c.in_ok-found.ensures.left_out c.in_ok-untrue.ensures.untrue c.in_ok-untrue.ensures.is_true c.in_ok-untrue.ensures.true_is_empty in
    is_audit reading.takes reading.texts (g.E.Examiner.text_at c.args.examiner.now) question.repo.now database reading.below.now copy untrue
    c.in_ok-found.ensures.copy by.0 by.1 by.2

pub returns-clause-whole : goal.returns-clause-whole
returns-clause-whole g c = λ limits dump loads.
    let store = g.E.Examiner.text_at c.args.examiner.now in
    let question = c.args.question in
    let reading = question.reading in
    let database = c.args.database.now in
    let copy = c.in_ok-found.found.copy in
    let untrue = c.in_ok-untrue.untrue.items in
    let by =
    found_by (seen_left_out c.in_ok-found.found.left_out) (left_out_in reading.takes reading.below.now database) question.repo.now copy untrue
    c.in_ok-found.ensures.left_out c.in_ok-untrue.ensures.untrue c.in_ok-untrue.ensures.is_true c.in_ok-untrue.ensures.true_is_empty in
    let audited : IsAudit reading.takes reading.texts store question.repo.now database reading.below.now copy untrue =
    is_audit reading.takes reading.texts store question.repo.now database reading.below.now copy untrue c.in_ok-found.ensures.copy by.0 by.1 by.2 in
    is_verdict reading.takes reading.texts limits dump store database reading.below.now question.repo.now copy untrue loads audited
