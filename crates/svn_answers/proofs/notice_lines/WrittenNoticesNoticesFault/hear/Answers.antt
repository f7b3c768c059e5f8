use Rattle.std.proofs.Common.{refl}
use Rattle.svn_answers.proofs.Hearing.{written_or_failed}
use Rattle.svn_answers.proofs.notice_lines.WrittenNoticesNoticesFault.hear.Goals as goal

pub returns : goal.returns
returns g c = (
  refl,
  written_or_failed _ c.args.self.now.failed c.has_failed-self.result c.write_flushed-written.result c.write_flushed-written.ensures
      c.has_failed-self.ensures,
)
