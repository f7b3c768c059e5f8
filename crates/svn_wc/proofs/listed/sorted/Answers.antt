use Rattle.std.proofs.Common.{sym, rules}
use Rattle.std.specs.Ordering.{is_lt}
use Rattle.std.proofs.lemmas.List.Sorted.{ranks_by, answers_always}
use Rattle.svn_types.specs.Names.{Path, path_cmp}
use Rattle.svn_types.proofs.PathsInOrder.{paths_total}
use Rattle.svn_model.specs.declared.base_node.BaseNode.{BaseNode}
use Rattle.svn_wc.proofs.SortedNodes.{same_fault, nodes_stay}
use Rattle.svn_wc.proofs.listed.sorted.Goals as goal

pub returns-clause-sorted : goal.returns-clause-sorted
returns-clause-sorted c =
    c.sort_unstable_by.ensures.sorted (λ x y. is_lt (path_cmp x.0 y.0)) (ranks_by paths_total (λ (e : Path × BaseNode). e.0))
    (answers_always _ _ _ (λ f a r g called. search rules))

pub returns-clause-fault : goal.returns-clause-fault
returns-clause-fault c = sym (same_fault _ _ c.sort_unstable_by.ensures.permutation)

pub returns-clause-nodes : goal.returns-clause-nodes
returns-clause-nodes c = λ none p. nodes_stay _ _ c.sort_unstable_by.ensures.permutation none p
