use Rattle.std.proofs.Common.{◌<◌, ◌+◌, ◌-◌, ◌^◌, sym, ap, subst, ◌∙◌, arith, rules}
use Rattle.std.specs.Prelude.{min}
use Rattle.svn_disk.proofs.Going.{keeps_more, stops_more, stops_there}
use Rattle.svn_disk.proofs.Adding.{keeps_inside, stops_inside}
use Rattle.svn_disk.specs.declared.texts.Texts.{Texts}
use Rattle.svn_disk.specs.Crashes.{OfText}
use Rattle.svn_disk.specs.Ends.{IsHeld, CopiesNode}
use Rattle.svn_disk.proofs.Ends.{turns_more}
use Rattle.svn_disk.proofs.EndsTexts.{count_none, count_one, none_held, none_turns, node_held, node_comes}
use Rattle.svn_disk.proofs.checkout.prepare_file.Goals as goal

pub returns-in_err-is_file-clause-steps : goal.returns-in_err-is_file-clause-steps
returns-in_err-is_file-clause-steps g c = let stops = stops_more c.in_ok-size.ensures.adds.0.keeps (stops_inside c.args.making.now.admin.now.name c.in_err-is_file.ensures.steps.1) in search rules

pub returns-in_err-push_row-clause-steps : goal.returns-in_err-push_row-clause-steps
returns-in_err-push_row-clause-steps g c = let stops = stops_there (keeps_more c.in_ok-size.ensures.adds.0.keeps (keeps_inside c.args.making.now.admin.now.name c.in_ok-is_file.ensures.steps.0)) in search rules

pub returns-clause-steps : goal.returns-clause-steps
returns-clause-steps g c = (keeps_more c.in_ok-size.ensures.adds.0.keeps (keeps_inside c.args.making.now.admin.now.name c.in_ok-is_file.ensures.steps.0), tt)

-- ---- a file

pub returns-in_default-clause-files : goal.returns-in_default-clause-files
returns-in_default-clause-files g c = count_none c.args.entry.1.now c.args.progress.now.files (sym c.in_default.ensures)

pub returns-in_default-clause-held : goal.returns-in_default-clause-held
returns-in_default-clause-held g c = none_held c.args.entry.1.now (sym c.in_default.ensures) (IsHeld c.args.progress.now.texts.sizes.entries)

pub returns-in_default-clause-ends : goal.returns-in_default-clause-ends
returns-in_default-clause-ends g c =
    none_turns c.args.making.now.admin.now.name (IsHeld c.args.progress.now.texts.sizes.entries) c.args.progress.now.files c.args.entry.1.now
    (g.F.Folder.past c.args.folder.now) (sym c.in_default.ensures)

pub returns-clause-files : goal.returns-clause-files
returns-clause-files g c =
    count_one c.args.entry.1.now c.args.progress.now.files c.saturating_add-progress.result c.in-Some.name.now c.in-Some.ensures
    (c.saturating_add-progress.ensures ∙ ap (λ k. min (k + 1) (2 ^ 64 - 1)) c.in_ok-push_row.ensures.files)

pub returns-clause-held : goal.returns-clause-held
returns-clause-held g c =
    subst (λ (x : Texts). OfText (IsHeld x.sizes.entries) c.args.entry.1.now) (sym c.in_ok-push_row.ensures.texts)
    (node_held c.args.entry.1.now c.in-Some.name.now c.in-Some.ensures (IsHeld c.keep.new.self.sizes.entries) c.in_ok-size.ensures.held)

pub returns-clause-others : goal.returns-clause-others
returns-clause-others g c = λ name held.
    subst (λ (x : Texts). IsHeld x.sizes.entries name) (sym c.in_ok-push_row.ensures.texts) (c.in_ok-size.ensures.others name held)

pub returns-clause-ends : goal.returns-clause-ends
returns-clause-ends g c =
    let n = c.args.making.now.admin.now.name in
    let sizes = c.args.progress.now.texts.sizes.entries in
    let i = c.args.progress.now.files in
    let small : i < 2 ^ 64 = omega arith in
    let node = c.args.entry.1.now in
    turns_more (CopiesNode n i (IsHeld sizes) node)
    (λ a b x keeps copies. node_comes node c.in-Some.name.now c.in-Some.ensures n sizes i a b x small c.in_ok-is_file.ensures.stands keeps copies)
    c.in_ok-size.ensures.ends c.in_ok-is_file.ensures.ends
