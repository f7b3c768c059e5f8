use Rattle.std.proofs.Common.{List, [], ◌++◌, refl, subst, sym, ◌∙◌, rules}
use Rattle.svn_disk.proofs.NodeEquality.{same_nodes}
use Rattle.svn_disk.proofs.Copies.{kept_none, same_leads}
use Rattle.std.specs.Prelude.{OnOk}
use Rattle.svn_types.specs.Names.{Path}
use Rattle.svn_disk.specs.declared.plan.Change.{Change}
use Rattle.svn_disk.specs.Changes.{removals_of, makings_of}
use Rattle.svn_disk.specs.Ends.{Turns, EachDone}
use Rattle.svn_disk.proofs.Ends.{turns_none}
use Rattle.svn_disk.proofs.bringing.bring_by.Goals as goal

pub returns-then-is_empty-clause-crash : goal.returns-then-is_empty-clause-crash
returns-then-is_empty-clause-crash g c = λ sync. (
  same_leads c.args.what.0.now.copy c.args.what.1.now.copy
      (sym c.nodes.ensures ∙ same_nodes c.nodes.result.now.entries c.nodes-2.result.now.entries (sym c.if-eq.ensures) ∙ c.nodes-2.ensures)
      (g.F.Folder.past c.args.folder.now.folder),
  tt,
)

pub returns-in_err-admin-clause-crash : goal.returns-in_err-admin-clause-crash
returns-in_err-admin-clause-crash g c = λ sync.
    let stops = kept_none c.args.what.0.now.copy c.args.what.1.now.copy (g.F.Folder.past c.args.folder.now.folder) in search rules

pub returns-then-is_empty-clause-ends : goal.returns-then-is_empty-clause-ends
returns-then-is_empty-clause-ends g c = λ is.
    let copy = c.args.what.1.now.copy in
    let old = c.args.what.2.now.was.now in
    let new = c.args.what.2.now.wanted.now in
    let now = g.F.Folder.past c.args.folder.now.folder in
    subst (λ (xs : List (Path × Change)). Turns (λ a b. EachDone copy (removals_of old xs ++ makings_of new xs) (removals_of old xs ++ makings_of new xs) b) now now)
    (sym (c.if-is_empty.ensures refl)) (turns_none (λ a b. EachDone copy [] [] b) now (λ a. tt))
