use Rattle.std.proofs.Common.{ℕ, List, inl, inr, ap, subst, sym, ◌∙◌, rules}
use Rattle.std.specs.Prelude.{codes}
use Rattle.std.specs.List.{list_all}
use Rattle.svn_disk.specs.Goes.{Goes}
use Rattle.svn_disk.specs.Places.{is_node}
use Rattle.svn_types.specs.Names.{Path}
use Rattle.svn_model.specs.declared.base_node.BaseNode.{BaseNode}
use Rattle.svn_folder.specs.States.{Seen}
use Rattle.svn_disk.specs.Plans.{path_of, present_nodes, work_of}
use Rattle.svn_disk.specs.Crashes.{IsWhole, IsOneOf, IsNoneOrWhole, IsSafe, IsBoth}
use Rattle.svn_disk.proofs.Going.{goes_more}
use Rattle.svn_disk.proofs.Running.{runs_more, leads_along, breaks_along, runs_along}
use Rattle.svn_disk.proofs.Whole.{safe_both}
use Rattle.svn_disk.proofs.Placing.{inside_goes, placing_keeps, placing_stops, work_free}
use Rattle.svn_disk.proofs.Replacing.{placing_leads, placing_breaks, safe_none}
use Rattle.svn_wcrows.specs.declared.work.Work.{Work}
use Rattle.svn_disk.specs.Places.{is_inside, is_outside}
use Rattle.svn_disk.specs.Ends.{Turns, ArePlaced, AreDistinct}
use Rattle.svn_disk.proofs.Ends.{ends_more, goes_turns}
use Rattle.svn_disk.proofs.EndsWork.{IsSameOutside, done_outside}
use Rattle.svn_disk.proofs.EndsCopy.{inside_same, work_distinct, work_outside}
use Rattle.svn_disk.proofs.checkout.finish_copy.Goals as goal

-- what a crash leaves is the copy, and so it is none or the whole one
is_whole : (nodes : List (Path × BaseNode)) (seen : Seen) → IsWhole (codes ".svn") nodes seen → IsNoneOrWhole nodes seen
is_whole nodes seen whole = inr whole

is_either : (nodes : List (Path × BaseNode)) (seen : Seen) → IsOneOf nodes nodes seen → IsNoneOrWhole nodes seen
is_either nodes seen (inl whole) = inr whole
is_either nodes seen (inr whole) = inr whole

pub returns-in_err-admin-clause-crash : goal.returns-in_err-admin-clause-crash
returns-in_err-admin-clause-crash g c = λ sync.
    let nodes = present_nodes c.args.what.now.copy.now in
    let stops = breaks_along (λ s safe. safe) (is_whole nodes)
    (safe_none nodes (g.F.Folder.past c.args.folder.now)) in search rules

pub returns-in_err-carry_out-clause-steps : goal.returns-in_err-carry_out-clause-steps
returns-in_err-carry_out-clause-steps g c =
    let copy = c.args.what.now.copy.now in
    let free = ap (list_all (λ item. is_node copy (path_of item))) (c.deref.ensures.value ∙ c.requires.work) ∙ work_free copy c.requires.reserved in
    let stops = placing_stops copy c.in_ok-admin.admin.name (g.F.Folder.past c.args.folder.now) (g.F.Folder.past c.carry_out.new.folder) c.in_ok-admin.ensures
    (c.in_err-carry_out.ensures.steps (is_node copy) free).1 in search rules

pub returns-in_err-carry_out-clause-crash : goal.returns-in_err-carry_out-clause-crash
returns-in_err-carry_out-clause-crash g c = λ sync.
    let copy = c.args.what.now.copy.now in
    let free = ap (list_all (λ item. is_node copy (path_of item))) (c.deref.ensures.value ∙ c.requires.work) ∙ work_free copy c.requires.reserved in
    let nodes = present_nodes copy in
    let stops = breaks_along (λ s safe. safe) (is_whole nodes)
    (placing_breaks copy nodes c.in_ok-admin.admin.name c.in_ok-admin.ensures (g.F.Folder.past c.args.folder.now) (g.F.Folder.past c.carry_out.new.folder)
    (c.in_err-carry_out.ensures.steps (is_node copy) free).1) in search rules

pub returns-clause-steps : goal.returns-clause-steps
returns-clause-steps g c =
    let copy = c.args.what.now.copy.now in
    let free = ap (list_all (λ item. is_node copy (path_of item))) (c.deref.ensures.value ∙ c.requires.work) ∙ work_free copy c.requires.reserved in
    goes_more (g.F.Folder.past c.replace_database.new.folder) c.replace_database.result
    (placing_keeps copy c.in_ok-admin.admin.name (g.F.Folder.past c.args.folder.now) (g.F.Folder.past c.carry_out.new.folder) c.in_ok-admin.ensures
    (c.in_ok-carry_out.ensures.steps (is_node copy) free).0)
    (inside_goes copy c.in_ok-admin.admin.name (g.F.Folder.past c.carry_out.new.folder) (g.F.Folder.past c.replace_database.new.folder) c.in_ok-admin.ensures
    c.replace_database.result c.replace_database.ensures.steps)

pub returns-clause-crash : goal.returns-clause-crash
returns-clause-crash g c = λ sync.
    let copy = c.args.what.now.copy.now in
    let free = ap (list_all (λ item. is_node copy (path_of item))) (c.deref.ensures.value ∙ c.requires.work) ∙ work_free copy c.requires.reserved in
    let nodes = present_nodes copy in
    runs_more (IsSafe (codes ".svn") nodes) (g.F.Folder.past c.replace_database.new.folder) c.replace_database.result
    (leads_along (λ s safe. safe) (is_whole nodes) (λ s safe. safe)
    (placing_leads copy nodes c.in_ok-admin.admin.name c.in_ok-admin.ensures (g.F.Folder.past c.args.folder.now) (g.F.Folder.past c.carry_out.new.folder)
    (c.in_ok-carry_out.ensures.steps (is_node copy) free).0))
    (runs_along (IsSafe (codes ".svn") nodes) (IsBoth nodes nodes) (IsSafe (codes ".svn") nodes) (IsSafe (codes ".svn") nodes) (IsOneOf nodes nodes)
    (IsNoneOrWhole nodes) (safe_both nodes) (is_either nodes) (λ s safe. safe) (g.F.Folder.past c.carry_out.new.folder)
    (g.F.Folder.past c.replace_database.new.folder) c.replace_database.result
    (c.replace_database.ensures.crash sync c.in_ok-admin.ensures nodes nodes c.requires.image))

pub returns-clause-ends : goal.returns-clause-ends
returns-clause-ends g c =
    let copy = c.args.what.now.copy.now in
    let work = c.deref.ensures.value ∙ c.requires.work in
    let outside = work_outside copy c.requires.reserved in
    let is = c.in_ok-admin.ensures in
    ends_more IsSameOutside (ArePlaced (codes ".svn") 0 (work_of copy)) (g.F.Folder.past c.replace_database.new.folder) c.replace_database.result
    (λ a b x placed same. done_outside (work_of copy) a b x outside placed same)
    (subst (λ (xs : List Work). Turns (ArePlaced (codes ".svn") 0 xs) (g.F.Folder.past c.args.folder.now) (g.F.Folder.past c.carry_out.new.folder)) work
    (c.in_ok-carry_out.ensures.ends is (ap (list_all (λ item. is_outside (path_of item))) work ∙ outside)
    (subst AreDistinct (sym work) (work_distinct copy c.law.ensures.order))))
    (goes_turns IsSameOutside (is_inside (codes ".svn")) (g.F.Folder.past c.carry_out.new.folder) (g.F.Folder.past c.replace_database.new.folder)
    c.replace_database.result inside_same
    (subst (λ (n : List ℕ). Goes (is_inside n) (g.F.Folder.past c.carry_out.new.folder) c.replace_database.result (g.F.Folder.past c.replace_database.new.folder)) is
    c.replace_database.ensures.steps))
