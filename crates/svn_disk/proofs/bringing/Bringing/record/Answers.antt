use Rattle.std.proofs.Common.{List, subst, sym, rules}
use Rattle.std.specs.Prelude.{codes}
use Rattle.svn_types.specs.Names.{Path}
use Rattle.svn_model.specs.declared.base_node.BaseNode.{BaseNode}
use Rattle.svn_wcrows.specs.Copies.{StandsFor}
use Rattle.svn_disk.specs.Crashes.{IsOneOf, IsSafe, Runs}
use Rattle.svn_disk.proofs.Replacing.{one_none}
use Rattle.std.proofs.Common.{[], arith}
use Rattle.std.specs.Prelude.{⊤}
use Rattle.svn_disk.specs.Crashes.{AreNodesOf}
use Rattle.svn_disk.specs.Tasks.{work_nodes}
use Rattle.svn_disk.specs.Ends.{AreCopied, AreReady}
use Rattle.svn_disk.proofs.Ends.{ends_along}
use Rattle.svn_disk.proofs.bringing.Bringing.record.Goals as goal

pub put-requires-clause-image : goal.put-requires-clause-image
put-requires-clause-image g c =
    subst (λ (xs : List (Path × BaseNode)). StandsFor xs c.in_ok-end.end.items) (sym c.next.ensures.nodes) c.in_ok-end.ensures.image

pub returns-in_err-end-clause-crash : goal.returns-in_err-end-clause-crash
returns-in_err-end-clause-crash g c = λ sync old are.
    let stops = one_none old c.args.ready.images.nodes.items (g.F.Folder.past c.args.folder.now.folder) in search rules

pub returns-clause-crash : goal.returns-clause-crash
returns-clause-crash g c = λ sync old are.
    subst (λ (xs : List (Path × BaseNode)). Runs (IsSafe (codes ".svn") old) (IsOneOf old xs) (IsSafe (codes ".svn") xs) (g.F.Folder.past c.args.folder.now.folder)
    c.put.result (g.F.Folder.past c.put.new.folder.folder)) c.next.ensures.nodes (c.put.ensures.crash sync old are)

pub returns-clause-ends : goal.returns-clause-ends
returns-clause-ends g c = λ copy are.
    ends_along (λ a b. AreCopied (codes ".svn") 0 [] a → AreReady (codes ".svn") 0 [] b) (λ a b. ⊤) (g.F.Folder.past c.args.folder.now.folder)
    (g.F.Folder.past c.put.new.folder.folder) c.put.result (λ a b ready. tt)
    (c.put.ensures.ends copy [] (omega arith) (subst (AreNodesOf copy) (sym c.next.ensures.nodes) are) tt)
