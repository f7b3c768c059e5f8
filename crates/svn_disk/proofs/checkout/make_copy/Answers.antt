use Rattle.std.proofs.Common.{List, ℕ, rules, subst}
use Rattle.std.specs.Prelude.{codes}
use Rattle.svn_disk.specs.Places.{is_of_copy}
use Rattle.svn_disk.specs.Plans.{present_nodes}
use Rattle.svn_disk.proofs.Going.{keeps_more, stops_more, stops_there}
use Rattle.svn_disk.proofs.Running.{leads_more, breaks_more, breaks_there}
use Rattle.svn_disk.proofs.Placing.{made_keeps, made_stops, naming_of_copy}
use Rattle.svn_disk.proofs.Replacing.{making_leads, making_breaks, naming_leads, naming_breaks, free_none}
use Rattle.svn_folder.specs.declared.step.Step.TheVariants.{RenameDirectory}
use Rattle.svn_disk.specs.Ends.{Turns, AreReady}
use Rattle.svn_disk.proofs.Ends.{turns_more, took_turns}
use Rattle.svn_disk.proofs.EndsCopy.{folder_moved}
use Rattle.svn_disk.proofs.checkout.make_copy.Goals as goal

pub returns-in_err-admin-clause-crash : goal.returns-in_err-admin-clause-crash
returns-in_err-admin-clause-crash g c = λ sync. let stops = free_none (present_nodes c.args.what.now.copy.now) (g.F.Folder.past c.args.folder.now.folder) in search rules

pub returns-in_err-laid-clause-steps : goal.returns-in_err-laid-clause-steps
returns-in_err-laid-clause-steps g c =
    let stops = made_stops c.args.what.now.copy.now c.in_ok-admin.admin.name (g.F.Folder.past c.args.folder.now.folder) (g.F.Folder.past c.lay_out_on_disk.new.folder.folder)
    c.in_ok-admin.ensures c.in_err-laid.ensures.steps.1 in search rules

pub returns-in_err-laid-clause-crash : goal.returns-in_err-laid-clause-crash
returns-in_err-laid-clause-crash g c = λ sync.
    let stops = making_breaks (present_nodes c.args.what.now.copy.now) c.in_ok-admin.admin.name c.in_ok-admin.ensures (g.F.Folder.past c.args.folder.now.folder)
    (g.F.Folder.past c.lay_out_on_disk.new.folder.folder) c.in_err-laid.ensures.steps.1 in search rules

pub returns-in_err-end-clause-steps : goal.returns-in_err-end-clause-steps
returns-in_err-end-clause-steps g c =
    let stops = stops_there (made_keeps c.args.what.now.copy.now c.in_ok-admin.admin.name (g.F.Folder.past c.args.folder.now.folder)
    (g.F.Folder.past c.lay_out_on_disk.new.folder.folder) c.in_ok-admin.ensures c.in_ok-laid.ensures.steps.0) in search rules

pub returns-in_err-end-clause-crash : goal.returns-in_err-end-clause-crash
returns-in_err-end-clause-crash g c = λ sync.
    let stops = breaks_there (making_leads (present_nodes c.args.what.now.copy.now) c.in_ok-admin.admin.name c.in_ok-admin.ensures (g.F.Folder.past c.args.folder.now.folder)
    (g.F.Folder.past c.lay_out_on_disk.new.folder.folder) c.in_ok-laid.ensures.steps.0 (c.in_ok-laid.ensures.synced sync)
    c.in_ok-laid.ensures.whole) in search rules

pub returns-in_err-name_folder-clause-steps : goal.returns-in_err-name_folder-clause-steps
returns-in_err-name_folder-clause-steps g c =
    let stops = stops_more (made_keeps c.args.what.now.copy.now c.in_ok-admin.admin.name (g.F.Folder.past c.args.folder.now.folder)
    (g.F.Folder.past c.lay_out_on_disk.new.folder.folder) c.in_ok-admin.ensures c.in_ok-laid.ensures.steps.0)
    (c.in_err-name_folder.ensures.does.1 (is_of_copy c.args.what.now.copy.now) (naming_of_copy c.args.what.now.copy.now)) in search rules

pub returns-in_err-name_folder-clause-crash : goal.returns-in_err-name_folder-clause-crash
returns-in_err-name_folder-clause-crash g c = λ sync.
    let stops = breaks_more (making_leads (present_nodes c.args.what.now.copy.now) c.in_ok-admin.admin.name c.in_ok-admin.ensures (g.F.Folder.past c.args.folder.now.folder)
    (g.F.Folder.past c.lay_out_on_disk.new.folder.folder) c.in_ok-laid.ensures.steps.0 (c.in_ok-laid.ensures.synced sync)
    c.in_ok-laid.ensures.whole)
    (naming_breaks (present_nodes c.args.what.now.copy.now) (g.F.Folder.past c.lay_out_on_disk.new.folder.folder) (g.F.Folder.past c.name_folder.new.folder.folder)
    c.in_err-name_folder.ensures.one.1) in search rules

pub returns-clause-steps : goal.returns-clause-steps
returns-clause-steps g c = (
  keeps_more (made_keeps c.args.what.now.copy.now c.in_ok-admin.admin.name (g.F.Folder.past c.args.folder.now.folder)
      (g.F.Folder.past c.lay_out_on_disk.new.folder.folder) c.in_ok-admin.ensures c.in_ok-laid.ensures.steps.0)
      (c.in_ok-name_folder.ensures.does.0 (is_of_copy c.args.what.now.copy.now) (naming_of_copy c.args.what.now.copy.now)),
  tt,
)

pub returns-clause-crash : goal.returns-clause-crash
returns-clause-crash g c = λ sync. (
  leads_more (making_leads (present_nodes c.args.what.now.copy.now) c.in_ok-admin.admin.name c.in_ok-admin.ensures (g.F.Folder.past c.args.folder.now.folder)
      (g.F.Folder.past c.lay_out_on_disk.new.folder.folder) c.in_ok-laid.ensures.steps.0 (c.in_ok-laid.ensures.synced sync)
      c.in_ok-laid.ensures.whole)
      (naming_leads (present_nodes c.args.what.now.copy.now) (g.F.Folder.past c.lay_out_on_disk.new.folder.folder) (g.F.Folder.past c.name_folder.new.folder.folder)
      c.in_ok-name_folder.ensures.one.0),
  tt,
)

pub returns-clause-ends : goal.returns-clause-ends
returns-clause-ends g c =
    let copy = c.args.what.now.copy.now in
    let mid = g.F.Folder.past c.lay_out_on_disk.new.folder.folder in
    turns_more (λ before left. AreReady (codes ".svn") 0 copy left) (λ a b x ready moved. moved ready)
    (subst (λ (n : List ℕ). Turns (λ before left. AreReady n 0 copy left) (g.F.Folder.past c.args.folder.now.folder) mid) c.in_ok-admin.ensures
    c.in_ok-laid.ensures.ends)
    (took_turns (λ a b. AreReady (codes ".svn-new") 0 copy a → AreReady (codes ".svn") 0 copy b) (RenameDirectory (codes ".svn-new") (codes ".svn")) mid
    (g.F.Folder.past c.name_folder.new.folder.folder) (λ s. folder_moved copy s) c.in_ok-name_folder.ensures.one.0)
