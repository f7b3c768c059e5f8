use Rattle.std.proofs.Common.{rules}
use Rattle.svn_link.proofs.Telling.{sees}
use Rattle.svn_link.proofs.watcher.Watcher.seen.Goals as goal

pub load_as-word-requires : goal.load_as-word-requires
load_as-word-requires g c = (search rules, (search rules, (search rules, sees _ _)))
