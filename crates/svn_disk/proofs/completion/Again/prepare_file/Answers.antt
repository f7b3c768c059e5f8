use Rattle.std.proofs.Common.{◌<◌, ◌^◌, subst, arith, rules}
use Rattle.std.specs.Prelude.{⊤}
use Rattle.svn_types.specs.Names.{Path}
use Rattle.svn_disk.specs.Places.{is_temporary}
use Rattle.svn_disk.proofs.Going.{keeps_more, stops_more}
use Rattle.svn_disk.proofs.Adding.{removes_temporary}
use Rattle.svn_disk.specs.Places.{text_place}
use Rattle.svn_disk.specs.Tasks.{node_at}
use Rattle.svn_disk.specs.Ends.{CopiesNode, IsSameBut, own_place}
use Rattle.svn_disk.proofs.Ends.{turns_more}
use Rattle.svn_disk.proofs.EndsTexts.{node_counts, node_copied, own_text}
use Rattle.svn_disk.proofs.EndsDone.{remove_turns, removed_copies}
use Rattle.svn_disk.proofs.completion.Again.prepare_file.Goals as goal

pub returns-in_err-remove_if_any-clause-steps : goal.returns-in_err-remove_if_any-clause-steps
returns-in_err-remove_if_any-clause-steps g c =
    let n = c.args.self.now.admin.now.name in
    let stops = c.in_err-remove_if_any.ensures.1 (is_temporary n) (removes_temporary n c.in_ok-new.new c.in_ok-new.ensures.temporary) in search rules

pub returns-in_err-is_file-clause-steps : goal.returns-in_err-is_file-clause-steps
returns-in_err-is_file-clause-steps g c =
    let n = c.args.self.now.admin.now.name in
    let stops = stops_more (c.in_ok-remove_if_any.ensures.0 (is_temporary n) (removes_temporary n c.in_ok-new.new c.in_ok-new.ensures.temporary)) c.in_err-is_file.ensures.steps.1 in
    search rules

pub returns-clause-steps : goal.returns-clause-steps
returns-clause-steps g c =
    let n = c.args.self.now.admin.now.name in (
      keeps_more (c.in_ok-remove_if_any.ensures.0 (is_temporary n) (removes_temporary n c.in_ok-new.new c.in_ok-new.ensures.temporary)) c.in_ok-is_file.ensures.steps.0,
      tt,
    )

pub returns-clause-file : goal.returns-clause-file
returns-clause-file g c = node_counts (node_at c.args.self.now.existing.now.copy c.args.path.now) c.in-Some.name.now c.in-Some.ensures

pub returns-clause-ends : goal.returns-clause-ends
returns-clause-ends g c =
    let n = c.args.self.now.admin.now.name in
    let i = c.args.number in
    let small : i < 2 ^ 64 = omega arith in
    let t = c.in-Some.name.now in
    let node = node_at c.args.self.now.existing.now.copy c.args.path.now in
    let removed = remove_turns c.in_ok-new.new (g.F.Folder.past c.args.folder.now) (g.F.Folder.past c.remove_if_any.new.folder) c.in_ok-remove_if_any.ensures.0 in
    turns_more (CopiesNode n i (λ name. ⊤) node)
    (λ a b x gone copies.
    node_copied node t c.in-Some.ensures n (λ name. ⊤) i a x small c.in_ok-is_file.ensures.stands
    (removed_copies (text_place n t) (own_place n i) a b x (own_text n t i) (subst (λ (p : Path). IsSameBut p a b) c.in_ok-new.ensures.place gone) copies))
    removed c.in_ok-is_file.ensures.ends
