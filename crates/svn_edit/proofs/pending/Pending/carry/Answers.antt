use Rattle.std.proofs.Common.{sym, subst}
use Rattle.std.specs.Prelude.{Ok}
use Rattle.svn_editor.specs.declared.call.Call.{Call}
use Rattle.svn_edit.specs.Carrying.{Carries}
use Rattle.svn_edit.proofs.Carrying.{taken_carries, abort_carries, opened_carries, added_carries, text_carries, closed_carries}
use Rattle.svn_edit.proofs.pending.Pending.carry.Goals as goal

pub returns-in-AddFile : goal.returns-in-AddFile
returns-in-AddFile c =
    let x = c.in-AddFile in
    let mode = c.args.mode.now in
    let old = c.args.self.now in
    let new = c.add_known_file.new.self in
    let nodes = c.args.copy.now.entries in
    let nodes2 = c.add_known_file.new.copy.entries in
    let r = c.add_known_file.result in
    let h = c.add_known_file.ensures in
    subst (λ (k : Call). Carries mode old nodes k r new nodes2) (sym x.is)
    (added_carries mode old new nodes nodes2 x.path x.parent x.token r c.see_order.ensures h.opened h.base h.keeps h.applied)

pub returns-in-OpenFile : goal.returns-in-OpenFile
returns-in-OpenFile c =
    let x = c.in-OpenFile in
    let mode = c.args.mode.now in
    let old = c.args.self.now in
    let new = c.open_known_file.new.self in
    let nodes = c.args.copy.now.entries in
    let r = c.open_known_file.result in
    let h = c.open_known_file.ensures in
    subst (λ (k : Call). Carries mode old nodes k r new nodes) (sym x.is)
    (opened_carries mode old new nodes x.path _ _ x.token r c.see_order.ensures h.opened h.base h.keeps h.fault)

pub returns-in-ApplyText : goal.returns-in-ApplyText
returns-in-ApplyText c =
    let x = c.in-ApplyText in
    let mode = c.args.mode.now in
    let old = c.args.self.now in
    let new = c.apply_text.new.self in
    let nodes = c.args.copy.now.entries in
    let r = c.apply_text.result in
    let h = c.apply_text.ensures in
    subst (λ (k : Call). Carries mode old nodes k r new nodes) (sym x.is)
    (text_carries mode old new nodes x.token _ x.text r c.see_order.ensures h.keeps h.answers h.noted)

pub returns-in-CloseFile : goal.returns-in-CloseFile
returns-in-CloseFile c =
    let x = c.in-CloseFile in
    let mode = c.args.mode.now in
    let old = c.args.self.now in
    let new = c.close_file.new.self in
    let nodes = c.args.copy.now.entries in
    let nodes2 = c.close_file.new.copy.entries in
    let r = c.close_file.result in
    let h = c.close_file.ensures in
    subst (λ (k : Call). Carries mode old nodes k r new nodes2) (sym x.is)
    (closed_carries mode old new nodes nodes2 x.token _ r c.see_order.ensures h.keeps h.gone h.others h.closes h.refused)

pub returns-in-AbortEdit : goal.returns-in-AbortEdit
returns-in-AbortEdit c =
    let mode = c.args.mode.now in
    let old = c.args.self.now in
    let nodes = c.args.copy.now.entries in
    subst (λ (k : Call). Carries mode old nodes k (Ok tt) old nodes) (sym c.in-AbortEdit.is) (abort_carries mode old nodes c.see_order.ensures)

pub returns-in_default : goal.returns-in_default
returns-in_default c =
    taken_carries c.args.mode.now c.args.self.now c.apply.new.self c.args.copy.now.entries c.apply.new.copy.entries c.args.call.now c.apply.result
    c.see_order.ensures c.in_default.not-AbortEdit c.apply.ensures
