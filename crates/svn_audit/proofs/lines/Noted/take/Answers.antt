use Rattle.std.proofs.Common.{◌++◌, ◌∷◌, [], refl, sym, ap, subst, ◌∙◌}
use Rattle.std.specs.Prelude.{Some}
use Rattle.svn_lists.proofs.Results.{OnOk_then, OnOk_from_both}
use Rattle.svn_types.specs.Names.{Path}
use Rattle.svn_editor.specs.declared.call.Call.{Call}
use Rattle.svn_editor.specs.declared.call.Call.TheVariants.{SetTargetRevision, OpenRoot, DeleteEntry, AddDirectory, OpenDirectory}
use Rattle.svn_editor.specs.declared.call.Call.TheVariants.{ChangeDirProp, CloseDirectory, AddFile, OpenFile, ChangeFileProp, ApplyText}
use Rattle.svn_editor.specs.declared.call.Call.TheVariants.{CloseFile, CloseEdit, AbortEdit}
use Rattle.svn_audit.specs.declared.lines.NodeChange.TheVariants.{Added}
use Rattle.svn_audit.specs.declared.lines.Noted.{Noted}
use Rattle.svn_model.specs.Nodes.{get_in}
use Rattle.svn_audit.specs.Lines.{line_of}
use Rattle.svn_audit.specs.NotedLines.{new_node, IsNoted}
use Rattle.svn_audit.proofs.Noting.{noted-plain, noted-silent, noted-text, noted-props, noted-opened, noted-added, noted-closed}
use Rattle.svn_audit.proofs.lines.Noted.take.Goals as goal

pub returns-in-OpenRoot : goal.returns-in-OpenRoot
returns-in-OpenRoot c =
    let w = get_in c.args.copy.now in
    let x = c.in-OpenRoot in
    let old = c.args.self.now in
    let new : Noted = record { nodes = c.begin.new.nodes; edited = old.edited; lines = old.lines } in
    OnOk_then c.begin.result c.begin.ensures (λ nodes calls was edits.
    subst (λ (k : Call). IsNoted w (calls ++ k ∷ []) new) (sym x.is)
    (noted-opened w calls (OpenRoot x.base x.token) old new was refl (λ t. (refl, refl)) refl refl
    (nodes ∙ ap (λ (p : Path). old.nodes.items ++ new_node (Some p) ∷ []) c.root.ensures)))

pub returns-in-OpenDirectory : goal.returns-in-OpenDirectory
returns-in-OpenDirectory c =
    let w = get_in c.args.copy.now in
    let x = c.in-OpenDirectory in
    let old = c.args.self.now in
    let new = c.open.new.self in
    OnOk_then c.open.result c.open.ensures.nodes (λ nodes calls was edits.
    subst (λ (k : Call). IsNoted w (calls ++ k ∷ []) new) (sym x.is)
    (noted-opened w calls (OpenDirectory x.path x.parent x.base x.token) old new was refl (λ t. (refl, refl)) refl c.open.ensures.lines nodes))

pub returns-in-OpenFile : goal.returns-in-OpenFile
returns-in-OpenFile c =
    let w = get_in c.args.copy.now in
    let x = c.in-OpenFile in
    let old = c.args.self.now in
    let new = c.open-in-OpenFile.new.self in
    OnOk_then c.open-in-OpenFile.result c.open-in-OpenFile.ensures.nodes (λ nodes calls was edits.
    subst (λ (k : Call). IsNoted w (calls ++ k ∷ []) new) (sym x.is)
    (noted-opened w calls (OpenFile x.path x.parent x.base x.token) old new was refl (λ t. (refl, refl)) refl c.open-in-OpenFile.ensures.lines nodes))

pub returns-in-AddDirectory : goal.returns-in-AddDirectory
returns-in-AddDirectory c =
    let w = get_in c.args.copy.now in
    let x = c.in-AddDirectory in
    let old = c.args.self.now in
    let new = c.add.new.self in
    OnOk_from_both c.add.result (λ nodes lines calls was edits.
    subst (λ (k : Call). IsNoted w (calls ++ k ∷ []) new) (sym x.is)
    (noted-added w calls (AddDirectory x.path x.parent x.token) old new was refl (λ t. (refl, refl)) (line_of Added x.path ∷ []) refl lines nodes))
    c.add.ensures.nodes c.add.ensures.lines

pub returns-in-AddFile : goal.returns-in-AddFile
returns-in-AddFile c =
    let w = get_in c.args.copy.now in
    let x = c.in-AddFile in
    let old = c.args.self.now in
    let new = c.add-in-AddFile.new.self in
    OnOk_from_both c.add-in-AddFile.result (λ nodes lines calls was edits.
    subst (λ (k : Call). IsNoted w (calls ++ k ∷ []) new) (sym x.is)
    (noted-added w calls (AddFile x.path x.parent x.token) old new was refl (λ t. (refl, refl)) (line_of Added x.path ∷ []) refl lines nodes))
    c.add-in-AddFile.ensures.nodes c.add-in-AddFile.ensures.lines

pub returns-in-DeleteEntry : goal.returns-in-DeleteEntry
returns-in-DeleteEntry c =
    let w = get_in c.args.copy.now in
    let x = c.in-DeleteEntry in
    let old = c.args.self.now in
    let new : Noted = record { nodes = old.nodes; edited = old.edited; lines = c.push_line.new.lines } in
    OnOk_then c.push_line.result c.push_line.ensures (λ lines calls was edits.
    subst (λ (k : Call). IsNoted w (calls ++ k ∷ []) new) (sym x.is)
    (noted-plain w calls (DeleteEntry x.path x.rev x.parent) old new was refl (λ t. (refl, refl)) lines refl))

pub returns-in-ApplyText : goal.returns-in-ApplyText
returns-in-ApplyText c =
    let w = get_in c.args.copy.now in
    let x = c.in-ApplyText in
    let old = c.args.self.now in
    let new : Noted = record { nodes = c.set_text.new.nodes; edited = old.edited; lines = old.lines } in
    λ calls was edits.
    subst (λ (k : Call). IsNoted w (calls ++ k ∷ []) new) (sym x.is)
    (noted-text w calls (ApplyText x.token x.base_md5 x.text) old new was refl refl (λ t. refl) refl c.set_text.ensures)

pub returns-in-ChangeDirProp : goal.returns-in-ChangeDirProp
returns-in-ChangeDirProp c =
    let w = get_in c.args.copy.now in
    let x = c.in-ChangeDirProp in
    let old = c.args.self.now in
    let new : Noted = record { nodes = c.set_props.new.nodes; edited = old.edited; lines = old.lines } in
    λ calls was edits.
    subst (λ (k : Call). IsNoted w (calls ++ k ∷ []) new) (sym x.is)
    (noted-props w calls (ChangeDirProp x.token x.name x.value) old new was refl refl (λ t. refl) refl c.set_props.ensures)

pub returns-in-ChangeFileProp : goal.returns-in-ChangeFileProp
returns-in-ChangeFileProp c =
    let w = get_in c.args.copy.now in
    let x = c.in-ChangeFileProp in
    let old = c.args.self.now in
    let new : Noted = record { nodes = c.set_props-in-ChangeFileProp.new.nodes; edited = old.edited; lines = old.lines } in
    λ calls was edits.
    subst (λ (k : Call). IsNoted w (calls ++ k ∷ []) new) (sym x.is)
    (noted-props w calls (ChangeFileProp x.token x.name x.value) old new was refl refl (λ t. refl) refl c.set_props-in-ChangeFileProp.ensures)

pub returns-in-CloseDirectory : goal.returns-in-CloseDirectory
returns-in-CloseDirectory c =
    let w = get_in c.args.copy.now in
    let x = c.in-CloseDirectory in
    let old = c.args.self.now in
    let new = c.close.new.self in
    OnOk_then c.close.result c.close.ensures.lines (λ lines calls was edits.
    subst (λ (k : Call). IsNoted w (calls ++ k ∷ []) new) (sym x.is)
    (noted-closed w calls (CloseDirectory x.token) old new x.token was edits refl (λ t. (refl, refl)) refl lines c.close.ensures.nodes))

pub returns-in-CloseFile : goal.returns-in-CloseFile
returns-in-CloseFile c =
    let w = get_in c.args.copy.now in
    let x = c.in-CloseFile in
    let old = c.args.self.now in
    let new = c.close-in-CloseFile.new.self in
    OnOk_then c.close-in-CloseFile.result c.close-in-CloseFile.ensures.lines (λ lines calls was edits.
    subst (λ (k : Call). IsNoted w (calls ++ k ∷ []) new) (sym x.is)
    (noted-closed w calls (CloseFile x.token x.text_md5) old new x.token was edits refl (λ t. (refl, refl)) refl lines c.close-in-CloseFile.ensures.nodes))

pub returns-in-SetTargetRevision : goal.returns-in-SetTargetRevision
returns-in-SetTargetRevision c =
    let w = get_in c.args.copy.now in
    let x = c.in-SetTargetRevision in
    let old = c.args.self.now in
    λ calls was edits.
    subst (λ (k : Call). IsNoted w (calls ++ k ∷ []) old) (sym x.is)
    (noted-silent w calls (SetTargetRevision x.rev) old old was refl (λ t. (refl, refl)) refl refl refl)

pub returns-in-CloseEdit : goal.returns-in-CloseEdit
returns-in-CloseEdit c =
    let w = get_in c.args.copy.now in
    let x = c.in-CloseEdit in
    let old = c.args.self.now in
    λ calls was edits.
    subst (λ (k : Call). IsNoted w (calls ++ k ∷ []) old) (sym x.is)
    (noted-silent w calls CloseEdit old old was refl (λ t. (refl, refl)) refl refl refl)

pub returns-in-AbortEdit : goal.returns-in-AbortEdit
returns-in-AbortEdit c =
    let w = get_in c.args.copy.now in
    let x = c.in-AbortEdit in
    let old = c.args.self.now in
    λ calls was edits.
    subst (λ (k : Call). IsNoted w (calls ++ k ∷ []) old) (sym x.is)
    (noted-silent w calls AbortEdit old old was refl (λ t. (refl, refl)) refl refl refl)
