use Rattle.std.proofs.Common.{◌∷◌, [], ap, subst, sym, ◌∙◌, rules}
use Rattle.svn_types.specs.Names.{Path}
use Rattle.svn_digits.specs.StandIns.{is_stand_in}
use Rattle.svn_folder.specs.declared.step.Step.TheVariants.{RemoveFile, Rename}
use Rattle.svn_disk.specs.Goes.{Does, TakesOne}
use Rattle.svn_disk.specs.Places.{is_temporary, text_place, IsTemporary}
use Rattle.svn_disk.proofs.Going.{does_goes}
use Rattle.svn_disk.proofs.Placing.{temporary_within}
use Rattle.svn_disk.proofs.Adding.{adds_none, adds_some_none, temporary_adding, removes_temporary, named_adding}
use Rattle.std.specs.Prelude.{OnOk}
use Rattle.svn_disk.specs.Ends.{Turns, StaysBut}
use Rattle.svn_disk.proofs.Ends.{one_turns, removes_but, renames_but}
use Rattle.svn_disk.proofs.texts.Texts.give_name.Goals as goal

pub returns-in_err-place-clause-adds : goal.returns-in_err-place-clause-adds
returns-in_err-place-clause-adds g c =
    let none = adds_none c.args.admin.now.name (g.F.Folder.past c.args.folder.now) in
    let some = adds_some_none c.args.admin.now.name (g.F.Folder.past c.args.folder.now) in search rules

pub returns-in_err-has_text-clause-adds : goal.returns-in_err-has_text-clause-adds
returns-in_err-has_text-clause-adds g c =
    let none = adds_none c.args.admin.now.name (g.F.Folder.past c.args.folder.now) in
    let some = adds_some_none c.args.admin.now.name (g.F.Folder.past c.args.folder.now) in search rules

pub returns-in_err-clone-clause-adds : goal.returns-in_err-clone-clause-adds
returns-in_err-clone-clause-adds g c =
    let none = adds_none c.args.admin.now.name (g.F.Folder.past c.args.folder.now) in
    let some = adds_some_none c.args.admin.now.name (g.F.Folder.past c.args.folder.now) in search rules

pub returns-then-branch-clause-adds : goal.returns-then-branch-clause-adds
returns-then-branch-clause-adds g c =
    let n = c.args.admin.now.name in
    let old = g.F.Folder.past c.args.folder.now in
    let new = g.F.Folder.past c.take.new.folder in
    let p = c.in_ok-clone.field-0 in
    temporary_adding n old new c.take.result
    (does_goes (is_temporary n) (RemoveFile p ∷ []) old new c.take.result
    (removes_temporary n p (subst (IsTemporary n) (sym c.in_ok-clone.ensures.cases) c.requires)) c.take.ensures.does)

pub returns-clause-adds : goal.returns-clause-adds
returns-clause-adds g c =
    let n = c.args.admin.now.name in
    let old = g.F.Folder.past c.args.folder.now in
    let new = g.F.Folder.past c.rename.new.folder in
    let name = c.args.name.now in
    let p = c.args.new.now in
    let at = c.in_ok-place.ensures.place ∙ ap (text_place n) c.as_slice.ensures in
    named_adding n p name (temporary_within n p c.requires) (sym (ap is_stand_in c.as_slice.ensures) ∙ c.in_ok-place.ensures.stands) old new c.rename.result
    (c.in_ok-has_text.ensures.lacking c.if-branch.false)
    (subst (λ (q : Path). Does (Rename p q ∷ []) old c.rename.result new) at c.rename.ensures.does)
    (subst (λ (q : Path). TakesOne (Rename p q) old c.rename.result new) at c.rename.ensures.one)

pub returns-then-branch-clause-stays : goal.returns-then-branch-clause-stays
returns-then-branch-clause-stays g c =
    let p = c.in_ok-clone.field-0 in
    let old = g.F.Folder.past c.args.folder.now in
    let new = g.F.Folder.past c.take.new.folder in
    let q = text_place c.args.admin.now.name c.args.name.now in
    subst (λ (r : Path). OnOk c.take.result (Turns (StaysBut r q) old new)) c.in_ok-clone.ensures.cases
    (one_turns (StaysBut p q) (RemoveFile p) old new c.take.result (λ s. removes_but p q s) c.take.ensures.one)

pub returns-clause-stays : goal.returns-clause-stays
returns-clause-stays g c =
    let p = c.args.new.now in
    let old = g.F.Folder.past c.args.folder.now in
    let new = g.F.Folder.past c.rename.new.folder in
    let at = c.in_ok-place.ensures.place ∙ ap (text_place c.args.admin.now.name) c.as_slice.ensures in
    subst (λ (q : Path). OnOk c.rename.result (Turns (StaysBut p q) old new)) at
    (one_turns (StaysBut p c.in_ok-place.place) (Rename p c.in_ok-place.place) old new c.rename.result (λ s. renames_but p c.in_ok-place.place s)
    c.rename.ensures.one)
