use Rattle.std.proofs.Common.{◌-◌, length, drop, List}
use Rattle.std.specs.Io.KnownBytes.{Appends}
use Rattle.svn_types.specs.Names.{Path}
use Rattle.svn_model.specs.declared.base_node.BaseNode.{BaseNode}
use Rattle.svn_wc.specs.Lines.{copy_text}
use Rattle.svn_answers.proofs.TreeOrder.{IsBegun}
use Rattle.svn_answers.proofs.show.+write_part.Given as goal

-- a path has at most 128 names
abbrev pub decreases-write_part : goal.decreases-write_part
decreases-write_part g l = 129 - length l.path.now

-- the node and the entries before those that are left are written
abbrev pub invariant-loop-name : goal.invariant-loop-name
invariant-loop-name g l =
    (nodes : List (Path × BaseNode))
    × IsBegun l.from.repo.now l.from.rev (drop l.from.front l.path) l.path l.fn.id l.name-iterator nodes
    × Appends (g.W.Write.contents l.initial.output) (g.W.Write.contents l.output) (copy_text nodes)
