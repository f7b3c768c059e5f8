use Rattle.std.proofs.Common.{◌++◌, ◌∙◌, ap}
use Rattle.svn_dump.specs.declared.record.NodeRecord.{NodeRecord}
use Rattle.svn_dump.specs.Written.{written}
use Rattle.svn_history.proofs.writing.push_change.Goals as goal

pub returns-clause-written : goal.returns-clause-written
returns-clause-written c =
    c.in_ok-push_node.ensures ∙ ap (λ (r : NodeRecord). c.args.out.now.items ++ written r) c.in_ok-record.ensures.record
