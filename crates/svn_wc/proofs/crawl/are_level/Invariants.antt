use Rattle.std.proofs.Common.{◌≡◌}
use Rattle.std.specs.List.{list_all}
use Rattle.svn_wc.specs.Unswitched.{is_level}
use Rattle.svn_wc.proofs.crawl.are_level.Given as goal

abbrev pub invariant-loop-node : goal.invariant-loop-node
invariant-loop-node l = list_all (λ e. is_level l.rev e.1) l.nodes.entries ≡ list_all (λ e. is_level l.rev e.1) l.node-iterator
