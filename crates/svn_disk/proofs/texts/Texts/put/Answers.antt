use Rattle.std.proofs.Common.{subst, rules}
use Rattle.std.specs.Prelude.{OnOk}
use Rattle.svn_types.specs.Names.{Path}
use Rattle.svn_disk.proofs.Adding.{adds_none, adds_some_none, adds_more, adds_some_more, adding_more, temporary_adds, temporary_adds_some}
use Rattle.svn_disk.specs.Places.{text_place}
use Rattle.svn_disk.specs.Ends.{Turns, StaysBut, IsSameBut, new_text_place}
use Rattle.svn_disk.proofs.Ends.{turns_more, ends_more, stays_but, but_more}
use Rattle.svn_disk.proofs.texts.Texts.put.Goals as goal

pub returns-in_err-place-clause-adds : goal.returns-in_err-place-clause-adds
returns-in_err-place-clause-adds g c =
    let none = adds_none c.args.admin.now.name (g.F.Folder.past c.args.folder.now) in
    let some = adds_some_none c.args.admin.now.name (g.F.Folder.past c.args.folder.now) in search rules

pub returns-in_err-new-clause-adds : goal.returns-in_err-new-clause-adds
returns-in_err-new-clause-adds g c =
    let none = adds_none c.args.admin.now.name (g.F.Folder.past c.args.folder.now) in
    let some = adds_some_none c.args.admin.now.name (g.F.Folder.past c.args.folder.now) in search rules

pub returns-in_err-above-clause-adds : goal.returns-in_err-above-clause-adds
returns-in_err-above-clause-adds g c =
    let none = adds_none c.args.admin.now.name (g.F.Folder.past c.args.folder.now) in
    let some = adds_some_none c.args.admin.now.name (g.F.Folder.past c.args.folder.now) in search rules

pub returns-in_err-make_text-clause-adds : goal.returns-in_err-make_text-clause-adds
returns-in_err-make_text-clause-adds g c =
    let stops = adds_some_more c.in_ok-make_directory_if_none.ensures.adds.0
    (temporary_adds_some c.args.admin.now.name (g.F.Folder.past c.make_directory_if_none.new.folder) (g.F.Folder.past c.make_text.new.folder)
    c.in_err-make_text.ensures.steps.1) in search rules

pub returns-clause-adds : goal.returns-clause-adds
returns-clause-adds g c =
    adding_more (g.F.Folder.past c.give_name.new.folder) c.give_name.result
    (adds_more c.in_ok-make_directory_if_none.ensures.adds.0
    (temporary_adds c.args.admin.now.name (g.F.Folder.past c.make_directory_if_none.new.folder) (g.F.Folder.past c.make_text.new.folder)
    c.in_ok-make_text.ensures.steps.0))
    c.give_name.ensures.adds

pub returns-clause-stays : goal.returns-clause-stays
returns-clause-stays g c =
    let n = c.args.admin.now.name in
    let q = text_place n c.args.name.now in
    let p = new_text_place n in
    ends_more (StaysBut p q) (StaysBut p q) (g.F.Folder.past c.give_name.new.folder) c.give_name.result (λ a b x first later. but_more p q a b x first later)
    (turns_more (StaysBut p q) (λ a b x first later. stays_but p q a b x first later) c.in_ok-make_directory_if_none.ensures.stays
    (subst (λ (r : Path). Turns (IsSameBut r) (g.F.Folder.past c.make_directory_if_none.new.folder) (g.F.Folder.past c.make_text.new.folder)) c.in_ok-new.ensures
    c.in_ok-make_text.ensures.others))
    (subst (λ (r : Path). OnOk c.give_name.result (Turns (StaysBut r q) (g.F.Folder.past c.make_text.new.folder) (g.F.Folder.past c.give_name.new.folder)))
    c.in_ok-new.ensures c.give_name.ensures.stays)
