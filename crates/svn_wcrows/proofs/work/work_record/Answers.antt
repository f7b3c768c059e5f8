use Rattle.std.proofs.lemmas.Result.{err_from_is_err_and}
use Rattle.svn_image.specs.declared.fault.ImageFault.TheVariants as image
use Rattle.svn_wcrows.proofs.work.work_record.Goals as goal

pub returns-in_err-list-clause-refused : goal.returns-in_err-list-clause-refused
returns-in_err-list-clause-refused c =
    let exit = err_from_is_err_and c.from_residual.result c.from_residual.ensures.1 in rw exit.1 (image.Memory, exit.2)
