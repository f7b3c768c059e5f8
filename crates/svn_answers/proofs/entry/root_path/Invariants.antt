use Rattle.std.proofs.Common.{◌≡◌, [], take, None}
use Rattle.svn_model.specs.Nodes.{get_in}
use Rattle.svn_answers.proofs.entry.root_path.Given as goal

-- none so far is at the root
abbrev pub invariant-loop-path : goal.invariant-loop-path
invariant-loop-path l = get_in (take l.path-index l.nodes) [] ≡ None
