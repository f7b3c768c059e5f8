use Rattle.std.proofs.Common.{nat_eq, is_some, sym, ap, ◌∙◌}
use Rattle.std.specs.Map.{set_value}
use Rattle.std.proofs.lemmas.Option.{none-some}
use Rattle.svn_lists.proofs.Results.{OnErr_then, OnOk_then, pass_err, pass_ok}
use Rattle.svn_serials.specs.Serials.{get}
use Rattle.svn_serials.proofs.Pairs.{updates_written}
use Rattle.svn_edit.proofs.Closes.{noted_of}
use Rattle.svn_edit.proofs.LeftPools.{none_began, began_of}
use Rattle.svn_edit.proofs.pending.Pending.change_prop.Goals as goal

pub returns-in-Some-clause-noted : goal.returns-in-Some-clause-noted
returns-in-Some-clause-noted c =
    OnOk_then c.or_memory.result (pass_ok _ _ c.note_change.result c.or_memory.result c.or_memory.ensures.ok c.note_change.ensures.noted)
    (λ said. noted_of c.args.token c.token.inside.0 _ _ c.in-Some.baton.now c.note_change.new.self c.args.self.now.pools
    c.note_change.new.pools c.args.self.now.batons
    (set_value (nat_eq c.token.inside.0) c.args.self.now.batons c.note_change.new.self) c.token.view_is c.in-Some.ensures.value
    said
    (updates_written c.args.self.now.batons c.token.inside.0 c.note_change.new.self (ap is_some (sym c.in-Some.ensures.value))))

pub returns-then-is_too_long-clause-began : goal.returns-then-is_too_long-clause-began
returns-then-is_too_long-clause-began c = λ b there. none_began c.args.token b _ c.args.self.now there

pub returns-in-None-clause-began : goal.returns-in-None-clause-began
returns-in-None-clause-began c = λ b there.
    absurd (none-some b (c.in-None.ensures.value ∙ ap (get c.args.self.now.batons) c.token.view_is ∙ there))

pub returns-in-Some-clause-began : goal.returns-in-Some-clause-began
returns-in-Some-clause-began c =
    OnErr_then c.or_memory.result
    (pass_err _ _ c.note_change.result c.or_memory.result c.or_memory.ensures.same c.note_change.ensures.began)
    (λ began. began_of c.args.token c.token.inside.0 _ c.in-Some.baton.now c.note_change.new.self c.args.self.now _ c.token.view_is
    c.in-Some.ensures.value began
    (updates_written c.args.self.now.batons c.token.inside.0 c.note_change.new.self (ap is_some (sym c.in-Some.ensures.value))))
