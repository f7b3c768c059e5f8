use Rattle.std.proofs.Common.{[], ◌++◌, refl, rules}
use Rattle.svn_answers.specs.Notices.{HearsAll}
use Rattle.svn_answers.specs.Answers.{passed_over, unanswered}
use Rattle.svn_answers.proofs.Hearing.{hears_both}
use Rattle.svn_answers.proofs.asked.Asked.answer.Goals as goal

pub returns-in-Ok : goal.returns-in-Ok
returns-in-Ok g c =
    let told = c.in-Ok.ensures.told in (
      told.0,
      passed_over c.args.name.now told.1,
      record { found = told.1; is = told.2; told = (told.3, refl) },
      told.4,
      told.5,
    )

pub returns-in-Err : goal.returns-in-Err
returns-in-Err g c =
    let why = c.in-Err.ensures.fault (search rules) in
    let heard : HearsAll g.N.Notices.hears (unanswered c.args.name.now c.in-Err.fault) c.tell.new.notices c.hear_fault.new.notices = search rules in (
      [],
      passed_over c.args.name.now why.0 ++ unanswered c.args.name.now c.in-Err.fault,
      record { found = why.0; is = why.1; told = (c.in-Err.fault, why.2, refl, refl) },
      why.3,
      hears_both g.N.Notices.hears _ _ _ _ _ why.4 heard,
    )
