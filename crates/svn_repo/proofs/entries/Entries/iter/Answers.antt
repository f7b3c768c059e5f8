use Rattle.svn_name_map.proofs.Pairs.{all_found}
use Rattle.svn_repo.proofs.entries.Entries.iter.Goals as goal

pub returns-clause-found : goal.returns-clause-found
returns-clause-found c = rw (← c.self.view_is) (all_found _ c.iter.ensures.ordered)
