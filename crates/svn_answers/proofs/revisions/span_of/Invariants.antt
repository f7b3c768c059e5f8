use Rattle.std.proofs.Common.{◌≡◌, min, max}
use Rattle.svn_answers.specs.Lines.{merged, of_all}
use Rattle.svn_answers.proofs.revisions.span_of.Given as goal

-- those so far and those of the nodes that are left are those of all
abbrev pub invariant-loop-node : goal.invariant-loop-node
invariant-loop-node l = record {
  first : merged min l.span.first (of_all min l.node-iterator) ≡ of_all min l.copy;
  last : merged max l.span.last (of_all max l.node-iterator) ≡ of_all max l.copy;
}
