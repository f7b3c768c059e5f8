use Rattle.std.proofs.Common.{rules}
use Rattle.std.specs.Map.Iter.{deref_pair}
use Rattle.std.specs.Ordering.{is_lt}
use Rattle.std.proofs.lemmas.List.Sorted.{ranks_by, answers_always, IsPermutation-map}
use Rattle.svn_types.specs.Names.{path_cmp}
use Rattle.svn_types.proofs.PathsInOrder.{paths_total}
use Rattle.svn_report.proofs.Sorting.{Shown, shown_strictly}
use Rattle.svn_report.proofs.listing.sorted.Goals as goal

pub returns-clause-same : goal.returns-clause-same
returns-clause-same c = IsPermutation-map deref_pair _ _ c.sort_unstable_by.ensures.permutation

pub returns-clause-ordered : goal.returns-clause-ordered
returns-clause-ordered c =
    shown_strictly _ _ c.sort_unstable_by.ensures.permutation c.requires
    (c.sort_unstable_by.ensures.sorted (λ x y. is_lt (path_cmp x.0.now y.0.now)) (ranks_by paths_total (λ (x : Shown). x.0.now))
    (answers_always _ _ _ (λ f a r g called. search rules)))
