use Rattle.std.proofs.Common.{◌≡◌, ℕ, List, [], ◌∷◌, refl, ap, subst, sym, ◌∙◌, rules}
use Rattle.std.specs.Prelude.{Some, None}
use Rattle.svn_wcrows.specs.Copies.{StandsFor}
use Rattle.svn_folder.specs.declared.entry.Entry.TheVariants.{Directory}
use Rattle.svn_folder.specs.declared.step.Step.TheVariants.{Make, SyncFile}
use Rattle.svn_folder.specs.Files.{is_sync}
use Rattle.svn_disk.specs.Places.{is_inside, new_database_place}
use Rattle.svn_disk.specs.Crashes.{IsSet, IsOneOf}
use Rattle.svn_disk.proofs.Going.{keeps_more, stops_more, stops_there, goes_more, does_goes}
use Rattle.svn_disk.proofs.Running.{leads_more, breaks_more, breaks_there, runs_more, one_runs}
use Rattle.svn_disk.proofs.Whole.{IsMade}
use Rattle.svn_disk.proofs.Replacing.{removes_inside, makes_inside, removing_leads, removing_breaks, made_leads, made_breaks, set_leads, set_breaks, both_none}
use Rattle.svn_disk.specs.Ends.{IsPut, IsSame, IsExchanged}
use Rattle.svn_disk.proofs.Ends.{turns_more, ends_more, took_turns, goes_turns, makes_put}
use Rattle.svn_disk.proofs.EndsCopy.{syncs_same}
use Rattle.svn_disk.proofs.EndsDone.{remove_turns, exchanged_but, exchanged_put, exchanged_more, exchanged_same}
use Rattle.svn_disk.proofs.carry.make_database.Goals as goal

-- ---- its steps

pub returns-in_err-remove_if_any-clause-steps : goal.returns-in_err-remove_if_any-clause-steps
returns-in_err-remove_if_any-clause-steps g c =
    let n = c.args.admin.now.name in
    let stops = c.in_err-remove_if_any.ensures.1 (is_inside n) (removes_inside n c.in_ok-new.new c.in_ok-new.ensures) in search rules

pub returns-in_err-clone-clause-steps : goal.returns-in_err-clone-clause-steps
returns-in_err-clone-clause-steps g c =
    let n = c.args.admin.now.name in
    let stops = stops_there (c.in_ok-remove_if_any.ensures.0 (is_inside n) (removes_inside n c.in_ok-new.new c.in_ok-new.ensures)) in search rules

pub returns-in_err-make-clause-steps : goal.returns-in_err-make-clause-steps
returns-in_err-make-clause-steps g c =
    let n = c.args.admin.now.name in
    let stops = stops_more (c.in_ok-remove_if_any.ensures.0 (is_inside n) (removes_inside n c.in_ok-new.new c.in_ok-new.ensures))
    (c.in_err-make.ensures.does.1 (is_inside n) (makes_inside n c.in_ok-clone.field-0 (c.in_ok-clone.ensures.cases ∙ c.in_ok-new.ensures) Directory)) in search rules

pub returns-clause-steps : goal.returns-clause-steps
returns-clause-steps g c =
    let n = c.args.admin.now.name in
    goes_more (g.F.Folder.past c.take_if.new.folder) c.take_if.result
    (keeps_more (c.in_ok-remove_if_any.ensures.0 (is_inside n) (removes_inside n c.in_ok-new.new c.in_ok-new.ensures))
    (c.in_ok-make.ensures.does.0 (is_inside n) (makes_inside n c.in_ok-clone.field-0 (c.in_ok-clone.ensures.cases ∙ c.in_ok-new.ensures) Directory)))
    (does_goes (is_inside n) (SyncFile c.in_ok-new.new ∷ []) (g.F.Folder.past c.make.new.folder) (g.F.Folder.past c.take_if.new.folder) c.take_if.result refl
    c.take_if.ensures.does)

-- ---- a crash

pub returns-in_err-new-clause-crash : goal.returns-in_err-new-clause-crash
returns-in_err-new-clause-crash g c = λ sync is one two stands. let stops = both_none one two (g.F.Folder.past c.args.folder.now) in search rules

pub returns-in_err-remove_if_any-clause-crash : goal.returns-in_err-remove_if_any-clause-crash
returns-in_err-remove_if_any-clause-crash g c = λ sync is one two stands.
    let stops = removing_breaks one two c.in_ok-new.new (c.in_ok-new.ensures ∙ ap new_database_place is) (g.F.Folder.past c.args.folder.now)
    (g.F.Folder.past c.remove_if_any.new.folder) c.in_err-remove_if_any.ensures.1 in search rules

pub returns-in_err-clone-clause-crash : goal.returns-in_err-clone-clause-crash
returns-in_err-clone-clause-crash g c = λ sync is one two stands.
    let stops = breaks_there (removing_leads one two c.in_ok-new.new (c.in_ok-new.ensures ∙ ap new_database_place is) (g.F.Folder.past c.args.folder.now)
    (g.F.Folder.past c.remove_if_any.new.folder) c.in_ok-remove_if_any.ensures.0) in search rules

pub returns-in_err-make-clause-crash : goal.returns-in_err-make-clause-crash
returns-in_err-make-clause-crash g c = λ sync is one two stands.
    let stops = breaks_more (removing_leads one two c.in_ok-new.new (c.in_ok-new.ensures ∙ ap new_database_place is) (g.F.Folder.past c.args.folder.now)
    (g.F.Folder.past c.remove_if_any.new.folder) c.in_ok-remove_if_any.ensures.0)
    (made_breaks one two c.in_ok-clone.field-0 (c.in_ok-clone.ensures.cases ∙ c.in_ok-new.ensures ∙ ap new_database_place is)
    (g.F.Folder.past c.remove_if_any.new.folder) (g.F.Folder.past c.make.new.folder) c.new.result _
    (subst (λ (b : List ℕ). StandsFor two b) (sym c.new.ensures) stands) c.in_err-make.ensures.one.1) in search rules

pub returns-clause-crash : goal.returns-clause-crash
returns-clause-crash g c = λ sync is one two stands.
    runs_more (IsSet one two) (g.F.Folder.past c.take_if.new.folder) c.take_if.result
    (leads_more (removing_leads one two c.in_ok-new.new (c.in_ok-new.ensures ∙ ap new_database_place is) (g.F.Folder.past c.args.folder.now)
    (g.F.Folder.past c.remove_if_any.new.folder) c.in_ok-remove_if_any.ensures.0)
    (made_leads one two c.in_ok-clone.field-0 (c.in_ok-clone.ensures.cases ∙ c.in_ok-new.ensures ∙ ap new_database_place is)
    (g.F.Folder.past c.remove_if_any.new.folder) (g.F.Folder.past c.make.new.folder) c.new.result _
    (subst (λ (b : List ℕ). StandsFor two b) (sym c.new.ensures) stands) c.in_ok-make.ensures.one.0))
    (one_runs (IsMade one two) (IsOneOf one two) (IsSet one two) (SyncFile c.in_ok-new.new) (g.F.Folder.past c.make.new.folder)
    (g.F.Folder.past c.take_if.new.folder) c.take_if.result
    (set_leads one two c.in_ok-new.new (c.in_ok-new.ensures ∙ ap new_database_place is) (g.F.Folder.past c.make.new.folder) (g.F.Folder.past c.take_if.new.folder))
    (set_breaks one two c.in_ok-new.new (c.in_ok-new.ensures ∙ ap new_database_place is) (g.F.Folder.past c.make.new.folder) (g.F.Folder.past c.take_if.new.folder))
    (c.take_if.ensures.one sync))

-- ---- what else is shown

pub returns-clause-ends : goal.returns-clause-ends
returns-clause-ends g c =
    let n = c.args.admin.now.name in
    let removed = remove_turns c.in_ok-new.new (g.F.Folder.past c.args.folder.now) (g.F.Folder.past c.remove_if_any.new.folder) c.in_ok-remove_if_any.ensures.0 in
    let made = took_turns (IsPut c.in_ok-clone.field-0 (Some _)) (Make c.in_ok-clone.field-0 _ None) (g.F.Folder.past c.remove_if_any.new.folder)
    (g.F.Folder.past c.make.new.folder) (makes_put c.in_ok-clone.field-0 _ None) c.in_ok-make.ensures.one.0 in
    ends_more IsSame (IsExchanged n) (g.F.Folder.past c.take_if.new.folder) c.take_if.result
    (λ a b x first same. exchanged_more n a b x first (exchanged_same n b x same))
    (turns_more (IsExchanged n)
    (λ a b x gone put.
    exchanged_more n a b x (exchanged_but n c.in_ok-new.new a b c.in_ok-new.ensures gone)
    (exchanged_put n c.in_ok-clone.field-0 _ b x (c.in_ok-clone.ensures.cases ∙ c.in_ok-new.ensures) put))
    removed made)
    (goes_turns IsSame is_sync (g.F.Folder.past c.make.new.folder) (g.F.Folder.past c.take_if.new.folder) c.take_if.result syncs_same
    (does_goes is_sync (SyncFile c.in_ok-new.new ∷ []) (g.F.Folder.past c.make.new.folder) (g.F.Folder.past c.take_if.new.folder) c.take_if.result refl
    c.take_if.ensures.does))
