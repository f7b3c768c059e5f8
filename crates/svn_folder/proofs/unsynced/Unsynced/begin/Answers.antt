use Rattle.svn_folder.specs.Marking.{marks_of, without}
use Rattle.svn_folder.proofs.Unsyncing.{made_by}
use Rattle.svn_folder.proofs.unsynced.Unsynced.begin.Goals as goal

pub returns-in-Make-clause-enough : goal.returns-in-Make-clause-enough
returns-in-Make-clause-enough c =
    made_by c.begin_make.result (λ done. without done (marks_of c.begin_make.new.self)) (marks_of c.args.self.now) c.args.step.now c.in-Make.path
    c.in-Make.entry c.in-Make.modified c.in-Make.is c.begin_make.ensures.enough
