use Rattle.std.proofs.Common.{◌≡◌, ℕ, ◌<◌, Some, length, drop}
use Rattle.std.specs.Option.{option_and_then}
use Rattle.svn_repo.specs.History.{walk}
use Rattle.svn_repo.specs.Stored.{rows}
use Rattle.svn_repo.specs.Drafts.{tree_in, old_part}
use Rattle.svn_repo.specs.Changes.{above_fault}
use Rattle.svn_repo.proofs.refusal.find.Given as goal

-- no place so far is faulty, and what comes from here on, the first fault and the node, is that of the whole
abbrev pub invariant-loop-name : goal.invariant-loop-name
invariant-loop-name l = record {
  led : (base : ℕ) → above_fault (old_part base l.nodes l.at) (drop l.name-index l.names) ≡ above_fault
      (tree_in base l.nodes l.fn.root) l.names;
  inside : (n : ℕ) → l.at ≡ Some n → n < length l.nodes;
  leads : option_and_then (λ n. walk (rows l.nodes) n (drop l.name-index l.names)) l.at ≡ walk (rows l.nodes) l.fn.root l.names;
}
