use Rattle.std.proofs.Common.{codes}
use Rattle.svn_dump.specs.Written.{number_line}
use Rattle.svn_dump.proofs.Appends.{then_appended}
use Rattle.svn_dump.proofs.writer.push_format.Goals as goal

pub returns : goal.returns
returns c =
    then_appended c.args.out.now.items (number_line (codes "SVN-fs-dump-format-version") c.args.format) (codes "\n") _ _ c.in_ok-push_number.ensures
    c.in_ok-push.ensures.items
