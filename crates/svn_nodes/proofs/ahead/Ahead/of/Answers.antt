use Rattle.std.proofs.Common.{◌∙◌}
use Rattle.svn_lists.proofs.Entries.{entries_between-all}
use Rattle.svn_nodes.proofs.ahead.Ahead.of.Goals as goal

pub returns-clause-all : goal.returns-clause-all
returns-clause-all g c = c.new.ensures ∙ c.range.ensures.between tt ∙ entries_between-all g.K.Ord.cmp c.args.map.now.entries
