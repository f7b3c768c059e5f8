use Rattle.std.proofs.Common.{◌≡◌, take}
use Rattle.svn_history.specs.Writing.{HasMade}
use Rattle.svn_history.proofs.history_writer.change_all.Given as goal

abbrev pub invariant-loop-change : goal.invariant-loop-change
invariant-loop-change l = record {
  made : HasMade (take l.change-index l.changes) l.writer;
  history : l.writer.transaction.history ≡ l.fn.writer.transaction.history;
}
