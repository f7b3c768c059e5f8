use Rattle.std.proofs.Common.{◌≡◌, ◌∙◌, ap}
use Rattle.svn_repo.specs.Changes.{Pending, after_change}
use Rattle.svn_repo.specs.Transactions.{pending_of}
use Rattle.svn_history.specs.Writing.{record_after}
use Rattle.svn_history.proofs.writing.record_change.Goals as goal

pub returns-clause-record : goal.returns-clause-record
returns-clause-record c =
    let old = c.args.transaction.now in
    let change = c.args.change.now in
    let tree : (pending_of c.change.new.self).tree ≡ (after_change old.history (pending_of old) change).tree =
    ap (λ (s : Pending). s.tree) c.in_ok-change.ensures.ok.1 in
    let is_new = c.makes_file-is_new.ensures in c.in_ok-record.ensures.value ∙ (λ i. record_after (tree i) change (is_new i))
