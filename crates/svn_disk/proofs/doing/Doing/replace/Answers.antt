use Rattle.std.proofs.Common.{List, inl, inr, subst}
use Rattle.std.specs.Prelude.{codes, OnOk}
use Rattle.svn_types.specs.Names.{Path}
use Rattle.svn_types.proofs.NameLemmas.{Name}
use Rattle.svn_model.specs.declared.base_node.BaseNode.{BaseNode}
use Rattle.svn_folder.specs.States.{Seen}
use Rattle.svn_disk.specs.Goes.{Goes}
use Rattle.svn_disk.specs.Places.{is_inside}
use Rattle.svn_disk.specs.Ends.{Turns, IsExchanged}
use Rattle.svn_disk.specs.Crashes.{IsWhole, IsOneOf, IsSafe, IsBoth}
use Rattle.svn_disk.proofs.Running.{runs_along}
use Rattle.svn_disk.proofs.Whole.{safe_both}
use Rattle.svn_disk.proofs.doing.Doing.replace.Goals as goal

one_whole : (nodes : List (Path × BaseNode)) (seen : Seen) → IsOneOf nodes nodes seen → IsWhole (codes ".svn") nodes seen
one_whole nodes seen (inl whole) = whole
one_whole nodes seen (inr whole) = whole

pub returns-clause-steps : goal.returns-clause-steps
returns-clause-steps g c =
    subst (λ (n : Name). Goes (is_inside n) (g.F.Folder.past c.args.folder.now) c.replace_database.result (g.F.Folder.past c.replace_database.new.folder))
    c.requires c.replace_database.ensures.steps

pub returns-clause-crash : goal.returns-clause-crash
returns-clause-crash g c = λ sync nodes stands.
    runs_along (IsSafe (codes ".svn") nodes) (IsBoth nodes nodes) (IsSafe (codes ".svn") nodes) (IsSafe (codes ".svn") nodes) (IsOneOf nodes nodes)
    (IsWhole (codes ".svn") nodes) (safe_both nodes) (one_whole nodes) (λ s safe. safe) (g.F.Folder.past c.args.folder.now)
    (g.F.Folder.past c.replace_database.new.folder) c.replace_database.result (c.replace_database.ensures.crash sync c.requires nodes nodes stands)

pub returns-clause-ends : goal.returns-clause-ends
returns-clause-ends g c =
    subst (λ (n : Name). OnOk c.replace_database.result (Turns (IsExchanged n) (g.F.Folder.past c.args.folder.now) (g.F.Folder.past c.replace_database.new.folder)))
    c.requires c.replace_database.ensures.ends
