use Rattle.std.proofs.Common.{[], ◌∷◌, refl, ap, ◌∙◌, rules}
use Rattle.std.specs.Prelude.{codes}
use Rattle.svn_folder.specs.declared.step.Step.TheVariants.{Rename, SyncDirectory}
use Rattle.svn_folder.specs.Files.{is_sync}
use Rattle.svn_disk.specs.Places.{is_inside, new_database_place, database_place}
use Rattle.svn_disk.specs.Crashes.{IsSafe, IsOneOf}
use Rattle.svn_disk.proofs.Going.{goes_more, does_goes, stops_there}
use Rattle.svn_disk.proofs.Running.{runs_more, one_runs, breaks_there}
use Rattle.svn_disk.proofs.Whole.{IsPut}
use Rattle.svn_disk.proofs.Replacing.{renames_inside, put_leads, put_breaks, last_leads, last_breaks, set_none}
use Rattle.svn_disk.specs.Ends.{IsMoved, IsSame, IsExchanged}
use Rattle.svn_disk.proofs.Ends.{turns_along, ends_more, took_turns, goes_turns, renames_move}
use Rattle.svn_disk.proofs.EndsCopy.{syncs_same}
use Rattle.svn_disk.proofs.EndsDone.{exchanged_moved, exchanged_more, exchanged_same}
use Rattle.svn_disk.proofs.carry.put_database.Goals as goal

pub returns-in_err-new-clause-crash : goal.returns-in_err-new-clause-crash
returns-in_err-new-clause-crash g c = λ sync is one two. let stops = set_none one two (g.F.Folder.past c.args.folder.now) in search rules

pub returns-in_err-database-clause-crash : goal.returns-in_err-database-clause-crash
returns-in_err-database-clause-crash g c = λ sync is one two. let stops = set_none one two (g.F.Folder.past c.args.folder.now) in search rules

pub returns-in_err-above-clause-crash : goal.returns-in_err-above-clause-crash
returns-in_err-above-clause-crash g c = λ sync is one two. let stops = set_none one two (g.F.Folder.past c.args.folder.now) in search rules

pub returns-in_err-rename-clause-steps : goal.returns-in_err-rename-clause-steps
returns-in_err-rename-clause-steps g c =
    let n = c.args.admin.now.name in
    let stops = c.in_err-rename.ensures.does.1 (is_inside n) (renames_inside n c.in_ok-new.new c.in_ok-new.ensures c.in_ok-database.database c.in_ok-database.ensures) in search rules

pub returns-in_err-rename-clause-crash : goal.returns-in_err-rename-clause-crash
returns-in_err-rename-clause-crash g c = λ sync is one two.
    let stops = put_breaks one two c.in_ok-new.new (c.in_ok-new.ensures ∙ ap new_database_place is) (g.F.Folder.past c.args.folder.now)
    (g.F.Folder.past c.rename.new.folder) c.in_ok-database.database (c.in_ok-database.ensures ∙ ap database_place is) c.in_err-rename.ensures.one.1 in search rules

pub returns-in_err-refuse_overwritten-clause-steps : goal.returns-in_err-refuse_overwritten-clause-steps
returns-in_err-refuse_overwritten-clause-steps g c =
    let n = c.args.admin.now.name in
    let stops = stops_there (c.in_ok-rename.ensures.does.0 (is_inside n)
    (renames_inside n c.in_ok-new.new c.in_ok-new.ensures c.in_ok-database.database c.in_ok-database.ensures)) in search rules

pub returns-in_err-refuse_overwritten-clause-crash : goal.returns-in_err-refuse_overwritten-clause-crash
returns-in_err-refuse_overwritten-clause-crash g c = λ sync is one two.
    let stops = breaks_there (put_leads one two c.in_ok-new.new (c.in_ok-new.ensures ∙ ap new_database_place is) (g.F.Folder.past c.args.folder.now)
    (g.F.Folder.past c.rename.new.folder) c.in_ok-database.database (c.in_ok-database.ensures ∙ ap database_place is) c.in_ok-rename.ensures.one.0) in search rules

pub returns-clause-steps : goal.returns-clause-steps
returns-clause-steps g c =
    let n = c.args.admin.now.name in
    goes_more (g.F.Folder.past c.take_if.new.folder) c.take_if.result
    (c.in_ok-rename.ensures.does.0 (is_inside n) (renames_inside n c.in_ok-new.new c.in_ok-new.ensures c.in_ok-database.database c.in_ok-database.ensures))
    (does_goes (is_inside n) (SyncDirectory c.in_ok-above.above ∷ []) (g.F.Folder.past c.rename.new.folder) (g.F.Folder.past c.take_if.new.folder)
    c.take_if.result refl c.take_if.ensures.does)

pub returns-clause-crash : goal.returns-clause-crash
returns-clause-crash g c = λ sync is one two.
    runs_more (IsSafe (codes ".svn") two) (g.F.Folder.past c.take_if.new.folder) c.take_if.result
    (put_leads one two c.in_ok-new.new (c.in_ok-new.ensures ∙ ap new_database_place is) (g.F.Folder.past c.args.folder.now)
    (g.F.Folder.past c.rename.new.folder) c.in_ok-database.database (c.in_ok-database.ensures ∙ ap database_place is) c.in_ok-rename.ensures.one.0)
    (one_runs (IsPut one two) (IsOneOf one two) (IsSafe (codes ".svn") two) (SyncDirectory c.in_ok-above.above) (g.F.Folder.past c.rename.new.folder)
    (g.F.Folder.past c.take_if.new.folder) c.take_if.result
    (last_leads one two c.in_ok-above.above (c.in_ok-above.ensures ∙ ap (λ n. n ∷ []) is) (g.F.Folder.past c.rename.new.folder) (g.F.Folder.past c.take_if.new.folder))
    (last_breaks one two c.in_ok-above.above (c.in_ok-above.ensures ∙ ap (λ n. n ∷ []) is) (g.F.Folder.past c.rename.new.folder) (g.F.Folder.past c.take_if.new.folder))
    (c.take_if.ensures.one sync))

pub returns-clause-ends : goal.returns-clause-ends
returns-clause-ends g c =
    let n = c.args.admin.now.name in
    let p = c.in_ok-new.new in
    let q = c.in_ok-database.database in
    let moved = took_turns (IsMoved p q) (Rename p q) (g.F.Folder.past c.args.folder.now) (g.F.Folder.past c.rename.new.folder) (renames_move p q) c.in_ok-rename.ensures.one.0 in
    ends_more IsSame (IsExchanged n) (g.F.Folder.past c.take_if.new.folder) c.take_if.result
    (λ a b x first same. exchanged_more n a b x first (exchanged_same n b x same))
    (turns_along (IsExchanged n) (λ a b at. exchanged_moved n p q a b c.in_ok-new.ensures c.in_ok-database.ensures at) moved)
    (goes_turns IsSame is_sync (g.F.Folder.past c.rename.new.folder) (g.F.Folder.past c.take_if.new.folder) c.take_if.result syncs_same
    (does_goes is_sync (SyncDirectory c.in_ok-above.above ∷ []) (g.F.Folder.past c.rename.new.folder) (g.F.Folder.past c.take_if.new.folder) c.take_if.result refl
    c.take_if.ensures.does))
