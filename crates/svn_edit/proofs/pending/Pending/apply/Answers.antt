use Rattle.std.proofs.Common.{◌∷◌, [], Some, refl, sym, subst}
use Rattle.std.specs.Prelude.{None, Ok}
use Rattle.md5.specs.Md5.{md5}
use Rattle.svn_lists.proofs.Results.{OnOk_then, ok_by, OnErr_from}
use Rattle.svn_types.specs.declared.kind.Kind.TheVariants.{File, Directory}
use Rattle.svn_editor.specs.declared.call.Call.{Call}
use Rattle.svn_editor.specs.declared.call.Call.TheVariants.{OpenRoot, AddDirectory, OpenDirectory, CloseDirectory, AddFile, OpenFile}
use Rattle.svn_editor.specs.declared.call.Call.TheVariants.{ChangeDirProp, ChangeFileProp, ApplyText, CloseFile}
use Rattle.svn_editor.specs.Calls.{Given}
use Rattle.svn_editor.specs.Steps.{Open, Add, Change, Text}
use Rattle.svn_edit.specs.Taking.{Takes}
use Rattle.svn_edit.proofs.Holding.{err_kept}
use Rattle.svn_edit.proofs.Closes.{close_applied, close_holds, change_applied, text_applied, named_known}
use Rattle.svn_edit.proofs.Bases.{file_of, no_file_base, file_base, sum_of_none}
use Rattle.svn_edit.proofs.FileCloses.{file_applied, file_holds}
use Rattle.svn_edit.proofs.LeftPools.{unchanged_left, said_left}
use Rattle.svn_edit.proofs.Takings.{token_taken, noted_taken, closed_taken, target_taken, deleted_taken, ended_taken, aborted_taken}
use Rattle.svn_edit.proofs.pending.Pending.apply.Goals as goal

pub returns-in-SetTargetRevision : goal.returns-in-SetTargetRevision
returns-in-SetTargetRevision c =
    let mode = c.args.mode.now in
    let old = c.args.self.now in
    let rev = c.in-SetTargetRevision.rev in
    subst (λ (k : Call). Takes mode old c.args.copy.now.entries k (Ok tt) (record old { target = rev }) c.args.copy.now.entries)
    (sym c.in-SetTargetRevision.is) (target_taken mode old c.args.copy.now.entries rev)

pub returns-in-OpenRoot : goal.returns-in-OpenRoot
returns-in-OpenRoot c =
    let x = c.in-OpenRoot in
    let call = OpenRoot x.base x.token in
    let g : Given = record { kind = Directory; path = []; parent = None; token = x.token } in
    let nodes = c.args.copy.now.entries in
    let r = c.open_root.result in
    token_taken c.args.mode.now c.args.self.now c.open_root.new.self nodes c.open_root.new.copy.entries
    call c.args.call.now r g _ (Open Directory x.base) x.is refl refl refl
    (λ n. refl) refl refl (λ calls. refl) (λ calls. refl) c.open_root.ensures.gives (λ none. c.open_root.ensures.unchanged)
    (ok_by r (λ ok. no_file_base call call g _ _ refl refl refl))

pub returns-in-AddDirectory : goal.returns-in-AddDirectory
returns-in-AddDirectory c =
    let x = c.in-AddDirectory in
    let call = AddDirectory x.path x.parent x.token in
    let g : Given = record { kind = Directory; path = x.path; parent = Some x.parent; token = x.token } in
    let nodes = c.args.copy.now.entries in
    let r = c.add_directory.result in
    token_taken c.args.mode.now c.args.self.now c.add_directory.new.self nodes c.add_directory.new.copy.entries
    call c.args.call.now r g _ (Add Directory) x.is refl refl refl
    (λ n. refl) refl refl (λ calls. refl) (λ calls. refl) (c.add_directory.ensures.gives c.args.mode.now) c.add_directory.ensures.unchanged
    (ok_by r (λ ok. no_file_base call call g _ _ refl refl refl))

pub returns-in-OpenDirectory : goal.returns-in-OpenDirectory
returns-in-OpenDirectory c =
    let x = c.in-OpenDirectory in
    let call = OpenDirectory x.path x.parent x.base x.token in
    let g : Given = record { kind = Directory; path = x.path; parent = Some x.parent; token = x.token } in
    let nodes = c.args.copy.now.entries in
    let r = c.open_directory.result in
    token_taken c.args.mode.now c.args.self.now c.open_directory.new.self nodes c.open_directory.new.copy.entries
    call c.args.call.now r g _ (Open Directory x.base) x.is refl refl refl
    (λ n. refl) refl refl (λ calls. refl) (λ calls. refl) c.open_directory.ensures.gives
    (λ none. c.open_directory.ensures.unchanged)
    (ok_by r (λ ok. no_file_base call call g _ _ refl refl refl))

pub returns-in-AddFile : goal.returns-in-AddFile
returns-in-AddFile c =
    let x = c.in-AddFile in
    let call = AddFile x.path x.parent x.token in
    let g : Given = record { kind = File; path = x.path; parent = Some x.parent; token = x.token } in
    let nodes = c.args.copy.now.entries in
    let r = c.add_file.result in
    token_taken c.args.mode.now c.args.self.now c.add_file.new.self nodes c.add_file.new.copy.entries
    call c.args.call.now r g _ (Add File) x.is refl refl refl
    (λ n. refl) refl refl (λ calls. refl) (λ calls. refl) (c.add_file.ensures.gives c.args.mode.now) c.add_file.ensures.unchanged
    (file_base call call g _ _ r refl refl
    (OnOk_then r c.add_file.ensures.base (λ none b there. sum_of_none b.base c.add_file.new.copy.entries
    x.path (none b there))))

pub returns-in-OpenFile : goal.returns-in-OpenFile
returns-in-OpenFile c =
    let x = c.in-OpenFile in
    let call = OpenFile x.path x.parent x.base x.token in
    let g : Given = record { kind = File; path = x.path; parent = Some x.parent; token = x.token } in
    let nodes = c.args.copy.now.entries in
    let r = c.open_file.result in
    token_taken c.args.mode.now c.args.self.now c.open_file.new.self nodes nodes call c.args.call.now r g _ (Open File x.base) x.is refl refl refl
    (λ n. refl) refl refl (λ calls. refl) (λ calls. refl) c.open_file.ensures.gives (λ none. c.open_file.ensures.unchanged)
    (file_base call call g _ _ r refl refl c.open_file.ensures.base)

pub returns-in-DeleteEntry : goal.returns-in-DeleteEntry
returns-in-DeleteEntry c =
    let x = c.in-DeleteEntry in
    let nodes = c.args.copy.now.entries in
    let nodes2 = c.delete_entry.new.copy.entries in
    let r = c.delete_entry.result in
    subst (λ (k : Call). Takes c.args.mode.now c.args.self.now nodes k r c.args.self.now nodes2) (sym x.is)
    (deleted_taken c.args.mode.now c.args.self.now nodes nodes2 x.path x.rev x.parent r (c.delete_entry.ensures c.args.mode.now))

pub returns-in-ChangeDirProp : goal.returns-in-ChangeDirProp
returns-in-ChangeDirProp c =
    let x = c.in-ChangeDirProp in
    let call = ChangeDirProp x.token x.name x.value in
    let mode = c.args.mode.now in
    let old = c.args.self.now in
    let new = c.change_prop.new.self in
    let nodes = c.args.copy.now.entries in
    let r = c.change_prop.result in
    let h = c.change_prop.ensures in
    subst (λ (k : Call). Takes mode old nodes k r new nodes) (sym x.is)
    (noted_taken mode old new nodes nodes call r refl refl h.keeps
    (λ calls next noted. change_applied md5 mode old calls call call x.token Directory (x.name, x.value) nodes r
    refl refl refl h.answers)
    (OnErr_from r refl) (said_left old new call call x.token Directory _ r refl refl refl refl h.began) x.token Directory
    (Change Directory (x.name, x.value))
    refl refl (λ n. refl) refl (λ t. refl) h.noted)

pub returns-in-ChangeFileProp : goal.returns-in-ChangeFileProp
returns-in-ChangeFileProp c =
    let x = c.in-ChangeFileProp in
    let call = ChangeFileProp x.token x.name x.value in
    let mode = c.args.mode.now in
    let old = c.args.self.now in
    let new = c.change_prop-in-ChangeFileProp.new.self in
    let nodes = c.args.copy.now.entries in
    let r = c.change_prop-in-ChangeFileProp.result in
    let h = c.change_prop-in-ChangeFileProp.ensures in
    subst (λ (k : Call). Takes mode old nodes k r new nodes) (sym x.is)
    (noted_taken mode old new nodes nodes call r refl refl h.keeps
    (λ calls next noted. change_applied md5 mode old calls call call x.token File (x.name, x.value) nodes r refl refl refl h.answers)
    (OnErr_from r refl) (said_left old new call call x.token File _ r refl refl refl refl h.began) x.token File
    (Change File (x.name, x.value))
    refl refl (λ n. refl) refl (λ t. refl) h.noted)

pub returns-in-ApplyText : goal.returns-in-ApplyText
returns-in-ApplyText c =
    let x = c.in-ApplyText in
    let call = ApplyText x.token x.base_md5 x.text in
    let mode = c.args.mode.now in
    let old = c.args.self.now in
    let new = c.apply_text.new.self in
    let nodes = c.args.copy.now.entries in
    let r = c.apply_text.result in
    let h = c.apply_text.ensures in
    subst (λ (k : Call). Takes mode old nodes k r new nodes) (sym x.is)
    (noted_taken mode old new nodes nodes call r refl refl h.keeps
    (λ calls next noted. text_applied md5 mode old calls x.token x.base_md5 x.text call nodes r refl next (λ b there.
    let k = named_known old calls call call x.token File refl next refl refl in
    h.answers b there (noted x.token b k.given_as there k.is (file_of k.given_as.kind k.kind))))
    (OnErr_from r refl) (said_left old new call call x.token File (x.text ∷ []) r refl refl refl refl h.began) x.token File
    (Text x.base_md5 x.text)
    refl refl (λ n. refl) refl (λ t. refl) h.noted)

pub returns-in-CloseDirectory : goal.returns-in-CloseDirectory
returns-in-CloseDirectory c =
    let x = c.in-CloseDirectory in
    let call = CloseDirectory x.token in
    let mode = c.args.mode.now in
    let old = c.args.self.now in
    let new = c.close_directory.new.self in
    let nodes = c.args.copy.now.entries in
    let nodes2 = c.close_directory.new.copy.entries in
    let r = c.close_directory.result in
    let h = c.close_directory.ensures in
    subst (λ (k : Call). Takes mode old nodes k r new nodes2) (sym x.is)
    (closed_taken mode old new nodes nodes2 call r refl refl h.keeps
    (λ calls next noted. close_applied old new calls x.token call refl next md5 mode nodes nodes2 r h.closed h.refused)
    (err_kept nodes nodes2 r h.refused) (unchanged_left old new call r h.unchanged) refl
    (OnOk_then r h.gone (λ gone calls next last. close_holds old new calls x.token call refl next h.keeps gone)) h.others)

pub returns-in-CloseFile : goal.returns-in-CloseFile
returns-in-CloseFile c =
    let x = c.in-CloseFile in
    let call = CloseFile x.token x.text_md5 in
    let mode = c.args.mode.now in
    let old = c.args.self.now in
    let new = c.close_file.new.self in
    let nodes = c.args.copy.now.entries in
    let nodes2 = c.close_file.new.copy.entries in
    let r = c.close_file.result in
    let h = c.close_file.ensures in
    subst (λ (k : Call). Takes mode old nodes k r new nodes2) (sym x.is)
    (closed_taken mode old new nodes nodes2 call r refl refl h.keeps
    (λ calls next noted. file_applied old new calls x.token x.text_md5 call refl next mode nodes nodes2 r h.closes)
    h.refused (unchanged_left old new call r h.unchanged) refl
    (OnOk_then r h.gone (λ gone calls next last. file_holds old new calls x.token x.text_md5 call refl next h.keeps gone))
    h.others)

pub returns-in-CloseEdit : goal.returns-in-CloseEdit
returns-in-CloseEdit c =
    let mode = c.args.mode.now in
    let old = c.args.self.now in
    let nodes = c.args.copy.now.entries in
    let nodes2 = c.close_edit.new.copy.entries in
    let r = c.close_edit.result in
    subst (λ (k : Call). Takes mode old nodes k r old nodes2) (sym c.in-CloseEdit.is)
    (ended_taken mode old nodes nodes2 r c.close_edit.ensures.taken c.close_edit.ensures.applied)

pub returns-in-AbortEdit : goal.returns-in-AbortEdit
returns-in-AbortEdit c =
    let mode = c.args.mode.now in
    let old = c.args.self.now in
    let new = c.drop_batons.new.self in
    let nodes = c.args.copy.now.entries in
    subst (λ (k : Call). Takes mode old nodes k (Ok tt) new nodes) (sym c.in-AbortEdit.is)
    (aborted_taken mode old new nodes c.drop_batons.ensures.cleared)
