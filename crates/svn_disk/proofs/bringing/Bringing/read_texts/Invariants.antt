use Rattle.std.proofs.Common.{List, length}
use Rattle.svn_types.specs.Names.{Path}
use Rattle.svn_model.specs.declared.base_node.BaseNode.{BaseNode}
use Rattle.svn_folder.specs.States.{seen}
use Rattle.svn_disk.specs.Goes.{IsAlways}
use Rattle.svn_disk.specs.Crashes.{AreNodesOf, IsTextIn}
use Rattle.svn_disk.specs.Ends.{EachNoted}
use Rattle.svn_disk.proofs.Copies.{IsMissingIn}
use Rattle.svn_disk.proofs.bringing.Bringing.read_texts.Given as goal

abbrev pub decreases-nodes : goal.decreases-nodes
decreases-nodes g l = length l.rest

abbrev pub invariant-nodes : goal.invariant-nodes
invariant-nodes g l = record {
  texts : (old : List (Path × BaseNode)) → AreNodesOf l.self.existing.now.copy old
      → IsMissingIn (λ s. IsTextIn l.self.admin.now.name (seen s)) (g.F.Folder.past l.folder) old l.nodes l.rest;
  coming : IsAlways (λ s. EachNoted l.sizes.entries (IsTextIn l.self.admin.now.name (seen s)) l.rest → EachNoted l.sizes.entries (IsTextIn l.self.admin.now.name (seen s)) l.nodes)
      (g.F.Folder.past l.folder);
}
