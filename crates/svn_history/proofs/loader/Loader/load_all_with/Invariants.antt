use Rattle.std.proofs.Common.{◌≡◌, ◌≤◌, None}
use Rattle.std.specs.Prelude.{IsSome}
use Rattle.svn_dump.specs.Counts.{Counts}
use Rattle.svn_dump.specs.Readers.{left_in}
use Rattle.svn_history.specs.Hearing.{Hears}
use Rattle.svn_history.specs.Parts.{Loading, loading, LoadsRest}
use Rattle.svn_history.proofs.Fronts.{LoadsFront}
use Rattle.svn_history.proofs.Whole.{Loaded}
use Rattle.svn_history.proofs.loader.Loader.load_all_with.Given as goal

abbrev pub invariant-revisions : goal.invariant-revisions
invariant-revisions g l =
    let view = loading g.R.Read.remaining in
    let first = l.fn.self in
    let limits = first.records.limits in
    let texts = first.records.texts in
    record {
      rest : (new : Loading) → LoadsRest limits texts (view l.self) new → LoadsRest limits texts (view first) new;
      so_far : Loaded limits texts (view first) (view l.self);
      counts : Counts first.records.source.taken (left_in g.R.Read.remaining first.records) l.self.records.source.taken
          (left_in g.R.Read.remaining l.self.records);
      heard : Hears limits texts g.L.LoadListener.hears (view first) l.fn.listener (view l.self) l.listener;
      limits : l.self.records.limits ≡ limits;
      texts : l.self.records.texts ≡ texts;
      loaded : l.self.refused ≡ None;
      kept : IsSome first.front.first → l.self.front ≡ first.front;
      front : LoadsFront g.R.Read.remaining first l.self;
      counted : l.counter ≤ l.self.records.source.taken;
    }
