use Rattle.std.proofs.Common.{◌∙◌}
use Rattle.std.proofs.lemmas.Iterator.Adapters.{YieldsList-from_vec, fact_from_collect}
use Rattle.std.specs.BTreeMap.{IsFromIterResult}
use Rattle.svn_types.specs.Names.{path_cmp}
use Rattle.svn_nodes.proofs.gather.map_of.Goals as goal

pub returns : goal.returns
returns c =
    fact_from_collect (IsFromIterResult path_cmp) c.collect.result c.collect.ensures.ran
    (YieldsList-from_vec c.args.pairs.items c.into_iter.ensures.rest (c.into_iter.ensures.len ∙ c.args.pairs.ok.0))
