use Rattle.std.proofs.Common.{[], refl, subst, sym}
use Rattle.std.proofs.KnownBytes.{Appends-nil}
use Rattle.svn_lists.proofs.Results.{OnOk_then}
use Rattle.svn_script.specs.declared.command.Command.{Command}
use Rattle.svn_answers.specs.Written.{DoesCommand, with_change}
use Rattle.svn_answers.proofs.Writings.{change_refuses, counts_nothing}
use Rattle.svn_answers.proofs.written.Writing.do_command.Goals as goal

pub returns-in-Change-clause-done : goal.returns-in-Change-clause-done
returns-in-Change-clause-done g c =
    let change = c.in-Change.change in
    OnOk_then c.change.result c.change.ensures.made
    (λ made s at. (
      with_change s change,
      [],
      (made s at).0,
      subst (λ (x : Command). DoesCommand x s (with_change s change) []) (sym c.in-Change.is) ((made s at).1, refl, refl),
      Appends-nil _,
      counts_nothing _ _ c.change.ensures.written,
    ))

pub returns-in-Change-clause-fault : goal.returns-in-Change-clause-fault
returns-in-Change-clause-fault g c =
    change_refuses c.args.self.now.writer c.args.command.now c.in-Change.change c.in-Change.is c.change.result c.change.ensures.fault
    c.change.ensures.which
