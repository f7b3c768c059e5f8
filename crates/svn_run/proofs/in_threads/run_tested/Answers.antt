use Rattle.std.proofs.Common.{refl, sym, subst, ◌∙◌, inl, inr}
use Rattle.svn_model.specs.Nodes.{get_in, IsWorkingCopy}
use Rattle.svn_wc.specs.Unswitched.{IsUnswitched, IsLevel}
use Rattle.svn_run.specs.Coming.{CameTo}
use Rattle.svn_run.specs.UpdateTheorem.{Nodes, asked}
use Rattle.svn_run.proofs.Beginning.{has_target, begins_in_turn, has_capacity}
use Rattle.svn_run.proofs.Composing.{drive_for}
use Rattle.svn_run.proofs.Knowing.{ends_with}
use Rattle.svn_run.proofs.Reported.{target, is_drive, begun, came_in_threads as came}
use Rattle.svn_run.proofs.Theorems.{wanting, came_in_threads}
use Rattle.svn_run.proofs.in_threads.run_tested.Goals as goal

pub ends_of-requires : goal.ends_of-requires
ends_of-requires g c = has_capacity (asked c.args.repo.now c.args.copy.now c.args.request.now) c.args.capacity c.requires.begins

pub returns-in_default : goal.returns-in_default
returns-in_default g c =
    let a = asked c.args.repo.now c.args.copy.now c.args.request.now in
    wanting c.laws.ensures a c.true_copy.ensures c.args.capacity c.requires.begins c.args.copy.now _ refl (inl refl)

pub returns-in_default-begin : goal.returns-in_default-begin
returns-in_default-begin g c =
    let a = asked c.args.repo.now c.args.copy.now c.args.request.now in
    wanting c.laws.ensures a c.true_copy.ensures c.args.capacity c.requires.begins c.begin.new.copy _
    c.in_default-begin.ensures.unchanged (inl refl)

pub run_both-requires-clause-target : goal.run_both-requires-clause-target
run_both-requires-clause-target g c κs within =
    let a = asked c.args.repo.now c.args.copy.now c.args.request.now in
    let none = begins_in_turn a c.args.capacity c.requires.begins in
    target c.laws.ensures a c.true_copy.ensures none c.in-Ok-begin.begun c.in-Ok-begin.ensures.begun

pub run_both-requires-clause-drive : goal.run_both-requires-clause-drive
run_both-requires-clause-drive g c κs within =
    let a = asked c.args.repo.now c.args.copy.now c.args.request.now in
    let none = begins_in_turn a c.args.capacity c.requires.begins in
    is_drive c.laws.ensures a c.true_copy.ensures none c.in-Ok-begin.begun c.in-Ok-begin.ensures.begun

pub run_both-requires-clause-begun : goal.run_both-requires-clause-begun
run_both-requires-clause-begun g c κs within =
    let a = asked c.args.repo.now c.args.copy.now c.args.request.now in
    let none = begins_in_turn a c.args.capacity c.requires.begins in
    begun c.laws.ensures a c.true_copy.ensures none c.in-Ok-begin.begun c.in-Ok-begin.ensures.begun

pub end-requires : goal.end-requires
end-requires g c =
    let a = asked c.args.repo.now c.args.copy.now c.args.request.now in
    let none = begins_in_turn a c.args.capacity c.requires.begins in
    let b = c.in-Ok-begin.begun in
    let both = c.in-Ok-run_both.both in
    let left = both.carrier.copy.nodes.entries in
    let o = c.finish-outcome.result.0 in
    let h = came c.laws.ensures a c.true_copy.ensures none b c.in-Ok-begin.ensures.begun left o c.finish-outcome.result.1
    c.in-Ok.ends.outbox c.in-Ok.ends.watcher c.in-Ok.ends.inbox c.in-Ok.ends.teller both.driven both.taken
    c.in-Ok-run_both.ensures.0 c.in-Ok-run_both.ensures.1 c.finish-outcome.ensures in
    ends_with c.laws.ensures a c.true_copy.ensures (has_target a none) left o h.0 b.known c.in-Ok-begin.ensures.begun.unswitched

pub returns-in-Ok-run_both : goal.returns-in-Ok-run_both
returns-in-Ok-run_both g c =
    let a = asked c.args.repo.now c.args.copy.now c.args.request.now in
    let none = begins_in_turn a c.args.capacity c.requires.begins in
    let b = c.in-Ok-begin.begun in
    let both = c.in-Ok-run_both.both in
    let left = both.carrier.copy.nodes.entries in
    let o = c.finish-outcome.result.0 in
    let h = came c.laws.ensures a c.true_copy.ensures none b c.in-Ok-begin.ensures.begun left o c.finish-outcome.result.1
    c.in-Ok.ends.outbox c.in-Ok.ends.watcher c.in-Ok.ends.inbox c.in-Ok.ends.teller both.driven both.taken
    c.in-Ok-run_both.ensures.0 c.in-Ok-run_both.ensures.1 c.finish-outcome.ensures in
    came_in_threads c.laws.ensures a c.true_copy.ensures c.args.capacity c.requires.begins c.end.result o c.finish-outcome.result.1
    c.end.ensures.order
    (subst (λ (w : Nodes). CameTo (drive_for a) a.request.mode a.request.options.cancel_after (get_in a.copy) w o)
    (sym c.end.ensures.nodes) h.0)
    h.1 h.2

-- where no thread could be made the nodes are as they were

pub tie-requires-clause-shape : goal.tie-requires-clause-shape
tie-requires-clause-shape g c =
    let same = c.in-Err.ensures ∙ c.in-Ok-begin.ensures.begun.same_nodes in
    subst (λ (n : Nodes). IsWorkingCopy (get_in n)) (sym same) c.true_copy.ensures.shape

pub tie-requires-clause-unswitched : goal.tie-requires-clause-unswitched
tie-requires-clause-unswitched g c = λ known.
    let same = c.in-Err.ensures ∙ c.in-Ok-begin.ensures.begun.same_nodes in
    subst (λ (n : Nodes). IsUnswitched (get_in n)) (sym same) (c.in-Ok-begin.ensures.begun.unswitched known)

pub tie-requires-clause-level : goal.tie-requires-clause-level
tie-requires-clause-level g c = λ known.
    let same = c.in-Err.ensures ∙ c.in-Ok-begin.ensures.begun.same_nodes in
    subst (λ (n : Nodes). IsLevel (get_in n)) (sym same) (c.in-Ok-begin.ensures.begun.level known)

pub returns : goal.returns
returns g c =
    let a = asked c.args.repo.now c.args.copy.now c.args.request.now in
    wanting c.laws.ensures a c.true_copy.ensures c.args.capacity c.requires.begins c.tie.result _
    (c.tie.ensures ∙ c.in-Err.ensures ∙ c.in-Ok-begin.ensures.begun.same_nodes) (inr refl)
