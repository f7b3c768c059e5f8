-- The lines of some updates, and how some are printed, computed by the definitions.
use Rattle.std.specs.Prelude.{◌≡◌, ℕ, true, false, List, [], ◌∷◌, Option, Some, None, codes, refl}
use Rattle.svn_types.specs.Names.{Path}
use Rattle.svn_editor.specs.declared.call.Call.TheVariants.{SetTargetRevision, OpenRoot, DeleteEntry, AddDirectory, OpenDirectory}
use Rattle.svn_editor.specs.declared.call.Call.TheVariants.{ChangeDirProp, CloseDirectory, AddFile, OpenFile, ChangeFileProp, ApplyText}
use Rattle.svn_editor.specs.declared.call.Call.TheVariants.{CloseFile, CloseEdit}
use Rattle.svn_model.specs.declared.base_node.BaseNode.{BaseNode}
use Rattle.svn_model.specs.declared.base_node.BaseNode.TheVariants.{Dir as DirNode}
use Rattle.svn_model.specs.Nodes.{WorkingCopy}
use Rattle.svn_audit.specs.declared.lines.NodeChange.{NodeChange}
use Rattle.svn_audit.specs.declared.lines.NodeChange.TheVariants.{Unchanged, Added, Deleted, Updated}
use Rattle.svn_audit.specs.declared.lines.UpdateLine.{UpdateLine}
use Rattle.svn_audit.specs.Lines.{line_of, update_lines}
use Rattle.svn_audit.specs.Printing.{line_text}

abbrev a : Path
a = (97 ∷ []) ∷ []

abbrev f : Path
f = (102 ∷ []) ∷ []

abbrev a_f : Path
a_f = (97 ∷ []) ∷ (102 ∷ []) ∷ []

abbrev with_props : NodeChange → Path → UpdateLine
with_props node path = record { node = node; props = true; path = path }

-- no directory is incomplete
abbrev nothing : WorkingCopy
nothing p = None

abbrev name : List ℕ
name = 112 ∷ []

-- an added node has one line, whatever its text and its properties
added : update_lines nothing
    (OpenRoot 1 0 ∷ AddDirectory a 0 1 ∷ ChangeDirProp 1 name None ∷ AddFile a_f 1 2 ∷ ChangeFileProp 2 name None ∷ ApplyText 2 None []
    ∷ CloseFile 2 None ∷ CloseDirectory 1 ∷ CloseDirectory 0 ∷ CloseEdit ∷ [])
    ≡ line_of Added a ∷ line_of Added a_f ∷ []
added = refl

replaced : update_lines nothing (OpenRoot 1 0 ∷ DeleteEntry f 1 0 ∷ AddFile f 0 1 ∷ ApplyText 1 None [] ∷ CloseFile 1 None ∷ CloseDirectory 0 ∷ [])
    ≡ line_of Deleted f ∷ line_of Added f ∷ []
replaced = refl

text_and_property : update_lines nothing
    (OpenRoot 1 0 ∷ OpenFile f 0 1 1 ∷ ChangeFileProp 1 name None ∷ ApplyText 1 None [] ∷ CloseFile 1 None ∷ CloseDirectory 0 ∷ [])
    ≡ with_props Updated f ∷ []
text_and_property = refl

-- a node's line comes at its close: the root's before that of a file which gets its text late
late_text : update_lines nothing
    (SetTargetRevision 2 ∷ OpenRoot 1 0 ∷ ChangeDirProp 0 name None ∷ OpenDirectory a 0 1 1 ∷ OpenFile a_f 1 1 2 ∷ CloseDirectory 1
    ∷ CloseDirectory 0 ∷ ApplyText 2 None [] ∷ CloseFile 2 None ∷ CloseEdit ∷ [])
    ≡ with_props Unchanged [] ∷ line_of Updated a_f ∷ []
late_text = refl

abbrev old_dir : Path → Option BaseNode
old_dir p = Some (DirNode 1 p false ((name, []) ∷ []))

-- the root and what is in it are incomplete directories, each with a property
abbrev incomplete : WorkingCopy
incomplete [] = old_dir []
incomplete (n ∷ []) = old_dir (n ∷ [])
incomplete _ = None

-- properties that aren't set anew have no call, and their directory has its line if something in it or below it changes
lost_properties : update_lines incomplete
    (OpenRoot 1 0 ∷ OpenDirectory a 0 1 1 ∷ OpenFile a_f 1 1 2 ∷ ApplyText 2 None [] ∷ CloseFile 2 None ∷ CloseDirectory 1 ∷ CloseDirectory 0 ∷ [])
    ≡ line_of Updated a_f ∷ with_props Unchanged a ∷ with_props Unchanged [] ∷ []
lost_properties = refl

lost_silently : update_lines incomplete
    (OpenRoot 1 0 ∷ DeleteEntry f 1 0 ∷ OpenDirectory a 0 1 1 ∷ CloseDirectory 1 ∷ CloseDirectory 0 ∷ [])
    ≡ line_of Deleted f ∷ with_props Unchanged [] ∷ []
lost_silently = refl

printed : line_text (line_of Deleted a_f) ≡ codes "D    a/f"
printed = refl

printed_property : line_text (with_props Unchanged []) ≡ codes " U   ."
printed_property = refl
