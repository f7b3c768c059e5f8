use Rattle.svn_disk.proofs.mending.begin.Goals as goal

pub returns-clause-was : goal.returns-clause-was
returns-clause-was g c = λ s steps is. record {
  nodes = c.in_ok-existing.existing.nodes.items;
  are = c.in_ok-existing.ensures.nodes;
  database = c.in_ok-existing.ensures.database s steps is;
}
