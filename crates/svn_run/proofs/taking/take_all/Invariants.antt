use Rattle.std.proofs.Common.{◌≡◌, ◌≤◌, length, []}
use Rattle.md5.specs.Md5.{md5}
use Rattle.svn_edit.specs.Carrying.{CarriedOut}
use Rattle.svn_model.specs.Nodes.{WorkingCopy}
use Rattle.svn_model.specs.Effects.{AllAccepted}
use Rattle.svn_run.specs.Takes.{unaborted}
use Rattle.svn_run.proofs.Applied.{Holding}
use Rattle.svn_run.proofs.taking.take_all.Given as goal

abbrev pub invariant-loop : goal.invariant-loop
invariant-loop g l = record {
  link : l.taken.inbox.link ≡ l.initial.taken.inbox.link;
  notice : l.taken.teller.notice ≡ l.initial.taken.teller.notice;
  same_mode : l.carrier.mode ≡ l.initial.carrier.mode;
  counted : l.taken.accepted ≤ length l.taken.inbox.calls;
  holds : let mode = l.initial.carrier.mode.now in (w0 : WorkingCopy)
      → CarriedOut mode w0 l.initial.carrier.pending l.initial.carrier.copy.nodes.entries []
      → AllAccepted md5 mode w0 (unaborted l.taken.inbox.calls)
      → Holding mode w0 l.carrier.pending l.carrier.copy.nodes.entries (unaborted l.taken.inbox.calls) l.taken.teller.number l.taken.accepted;
}
