use Rattle.std.proofs.Common.{◌≡◌, ◌++◌, List}
use Rattle.std.specs.Vec.Iter.{into_iter_items}
use Rattle.svn_types.specs.Names.{Path}
use Rattle.svn_model.specs.declared.base_node.BaseNode.{BaseNode}
use Rattle.svn_disk_audit.specs.Pristine.{AreKeptAs}
use Rattle.svn_disk_audit.specs.Keeping.{HasRead}
use Rattle.svn_disk_audit.proofs.keeping.keep_texts.Given as goal

abbrev pub invariant-loop-path : goal.invariant-loop-path
invariant-loop-path g l = record {
  done : List (Path × BaseNode);
  all : done ++ into_iter_items l.path-iterator ≡ l.fn.nodes.items;
  kept : AreKeptAs l.fn.texts (g.E.Examiner.text_at l.fn.examiner) done l.kept.items;
  read : HasRead (g.E.Examiner.text_at l.fn.examiner) l.keeper;
  texts : l.keeper.reader.texts ≡ l.fn.texts;
  same : g.E.Examiner.text_at l.examiner ≡ g.E.Examiner.text_at l.fn.examiner;
}
