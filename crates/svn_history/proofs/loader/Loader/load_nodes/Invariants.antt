use Rattle.std.proofs.Common.{◌≡◌, ◌≤◌, None}
use Rattle.std.specs.Prelude.{IsSome}
use Rattle.svn_dump.specs.Counts.{Counts}
use Rattle.svn_dump.specs.Readers.{left_in}
use Rattle.svn_history.specs.Steps.{draft_of}
use Rattle.svn_history.specs.Fronts.{given_uuid}
use Rattle.svn_history.proofs.Fronts.{FrontSoFar}
use Rattle.svn_history.proofs.Parts.{NodesSoFar}
use Rattle.svn_history.proofs.loader.Loader.load_nodes.Given as goal

abbrev pub invariant-records : goal.invariant-records
invariant-records g l = let first = l.fn.self in record {
  nodes : NodesSoFar first.records.limits first.records.texts first.rev (left_in g.R.Read.remaining first.records)
      (draft_of first.transaction) (left_in g.R.Read.remaining l.self.records) (draft_of l.self.transaction);
  limits : l.self.records.limits ≡ first.records.limits;
  texts : l.self.records.texts ≡ first.records.texts;
  rev : l.self.rev ≡ first.rev;
  history : l.self.transaction.history ≡ first.transaction.history;
  front : first.rev ≡ None → first.front.first ≡ None
      → FrontSoFar first.records.limits first.records.texts (given_uuid first) (left_in g.R.Read.remaining first.records)
      (given_uuid l.self) (left_in g.R.Read.remaining l.self.records);
  first_is : l.self.front.first ≡ first.front.first;
  kept : IsSome first.front.first → l.self.front ≡ first.front;
  counted : l.counter ≤ l.self.records.source.taken;
  counts : Counts first.records.source.taken (left_in g.R.Read.remaining first.records) l.self.records.source.taken
      (left_in g.R.Read.remaining l.self.records);
  grows : first.records.source.taken ≤ l.self.records.source.taken;
}
