use Rattle.std.proofs.Common.{◌≡◌, drop}
use Rattle.svn_history.specs.declared.fault.LoadFault.{LoadFault}
use Rattle.svn_history.specs.Results.{Fails}
use Rattle.svn_history.specs.Steps.{Draft, IsMade, draft_of}
use Rattle.svn_history.specs.Changes.{set_props}
use Rattle.svn_history.proofs.records.set_props.Given as goal

-- what the changes that are left make from here, all make from the start
abbrev pub invariant-loop-name : goal.invariant-loop-name
invariant-loop-name l = record {
  made : (d : Draft) → IsMade (set_props l.path (drop l.name-index l.changes)) (draft_of l.transaction) d
      → IsMade (set_props l.path l.changes) (draft_of l.fn.transaction) d;
  fails : (e : LoadFault) → Fails e (set_props l.path (drop l.name-index l.changes) (draft_of l.transaction))
      → Fails e (set_props l.path l.changes (draft_of l.fn.transaction));
  history : l.transaction.history ≡ l.fn.transaction.history;
}
