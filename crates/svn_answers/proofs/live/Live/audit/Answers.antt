use Rattle.std.proofs.Common.{refl}
use Rattle.svn_answers.proofs.live.Live.audit.Goals as goal

pub returns-in-Ok-clause-asked : goal.returns-in-Ok-clause-asked
returns-in-Ok-clause-asked g c = record {
  at = c.in_ok-line.line;
  connected = c.in_ok-line.ensures.line;
  after = record { link = c.untrue_paths.new.self; uuid = c.in_ok-line.line.uuid };
  stays = refl;
  same = refl;
  copy = refl;
  notes = refl;
  left_out = refl;
  uuid = refl;
  told = refl;
  audit = c.in-Ok.ensures;
}
