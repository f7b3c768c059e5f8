-- The lines that an update of a copy prints, by its calls.
--     begins call      whether a call opens or adds a node: it takes the next token (0, 1, 2, ..)
--     opened calls t      the call that took token t, and the calls after it; none where none took it
--     line_at w before call      the line of a call, given the calls before it: an add's, a delete's, and at its close that of a node that was there
--         before, if its text or its properties were changed since it was opened
--     update_lines w calls      the lines of all calls, one after another
-- An update sets all properties of an incomplete directory anew. Those that it had and doesn't get are gone with no call; Subversion's client sees to
-- it as it closes the directory, and prints its line if something in the directory or below it was changed (`close_directory` of update_editor.c).
use Rattle.std.specs.Prelude.{◌≡◌, ℕ, zero, suc, Bool, true, false, ◌&&◌, ◌||◌, List, [], ◌∷◌, ◌++◌, nat_eq, is_some}
use Rattle.std.specs.Prelude.{Option, Some, None, if◌then◌else◌}
use Rattle.std.specs.List.{AllByRecursion, list_any}
use Rattle.svn_types.specs.Names.{Path}
use Rattle.svn_editor.specs.declared.call.Call.{Call}
use Rattle.svn_editor.specs.declared.call.Call.TheVariants.{OpenRoot, DeleteEntry, AddDirectory, OpenDirectory, ChangeDirProp}
use Rattle.svn_editor.specs.declared.call.Call.TheVariants.{CloseDirectory, AddFile, OpenFile, ChangeFileProp, ApplyText, CloseFile}
use Rattle.svn_editor.specs.Calls.{given_by, applies_text, opens_entry, deletes}
use Rattle.svn_model.specs.declared.base_node.BaseNode.{BaseNode}
use Rattle.svn_model.specs.declared.base_node.BaseNode.TheVariants.{Dir as DirNode}
use Rattle.svn_model.specs.Nodes.{WorkingCopy}
use Rattle.svn_audit.specs.declared.lines.NodeChange.{NodeChange}
use Rattle.svn_audit.specs.declared.lines.NodeChange.TheVariants.{Unchanged, Added, Deleted, Updated}
use Rattle.svn_audit.specs.declared.lines.UpdateLine.{UpdateLine}

abbrev pub begins : Call → Bool
begins c = is_some (given_by c)

abbrev pub opened : List Call → ℕ → List Call
opened [] t = []
opened (c ∷ calls) zero = if begins c then c ∷ calls else opened calls zero
opened (c ∷ calls) (suc t) = if begins c then opened calls t else opened calls (suc t)

-- the path at which a call opens a node that was there before; none if it adds it
abbrev pub opened_path : Call → Option Path
opened_path (OpenRoot base token) = Some []
opened_path (OpenDirectory path parent base token) = Some path
opened_path (OpenFile path parent base token) = Some path
opened_path _ = None

abbrev pub changes_props : ℕ → Call → Bool
changes_props t (ChangeDirProp token name value) = nat_eq token t
changes_props t (ChangeFileProp token name value) = nat_eq token t
changes_props t _ = false

-- it deletes, adds or changes
abbrev pub changes : Call → Bool
changes (DeleteEntry path rev parent) = true
changes (AddDirectory path parent token) = true
changes (AddFile path parent token) = true
changes (ChangeDirProp token name value) = true
changes (ChangeFileProp token name value) = true
changes (ApplyText token base_md5 text) = true
changes _ = false

-- an incomplete directory that has properties
abbrev pub has_old_props : Option BaseNode → Bool
has_old_props (Some (DirNode rev q false (prop ∷ props))) = true
has_old_props _ = false

-- the line of a node whose text or properties were changed
abbrev pub changed_line : Path → Bool → Bool → List UpdateLine
changed_line path text props =
    if text || props then record { node = if text then Updated else Unchanged; props = props; path = path } ∷ [] else []

-- the line of a node that was there before: whether its text was changed, its properties, and anything in it or below it
abbrev pub opened_line : WorkingCopy → Option Path → Bool → Bool → Bool → List UpdateLine
opened_line w None text props edited = []
opened_line w (Some path) text props edited = changed_line path text (props || (edited && has_old_props (w path)))

-- the line at the close of token t, by the call that took it and the calls since
abbrev pub closed_line : WorkingCopy → ℕ → List Call → List UpdateLine
closed_line w t [] = []
closed_line w t (c ∷ since) =
    opened_line w (opened_path c) (list_any (applies_text t) since) (list_any (changes_props t) since) (list_any changes since)

abbrev pub line_of : NodeChange → Path → UpdateLine
line_of node path = record { node = node; props = false; path = path }

abbrev pub line_at : WorkingCopy → List Call → Call → List UpdateLine
line_at w before (AddDirectory path parent token) = line_of Added path ∷ []
line_at w before (AddFile path parent token) = line_of Added path ∷ []
line_at w before (DeleteEntry path rev parent) = line_of Deleted path ∷ []
line_at w before (CloseDirectory token) = closed_line w token (opened before token)
line_at w before (CloseFile token text_md5) = closed_line w token (opened before token)
line_at w before _ = []

-- the lines of calls that come after others
abbrev pub lines_after : WorkingCopy → List Call → List Call → List UpdateLine
lines_after w before [] = []
lines_after w before (c ∷ calls) = line_at w before c ++ lines_after w (before ++ c ∷ []) calls

abbrev pub update_lines : WorkingCopy → List Call → List UpdateLine
update_lines w calls = lines_after w [] calls

-- ---- laws

-- where no call changes anything, nothing is printed
abbrev pub no_change_no_line : Type 0
no_change_no_line = (w : WorkingCopy) (calls : List Call) → list_any changes calls ≡ false → update_lines w calls ≡ []

-- it opens, adds or deletes what is at a path
abbrev pub has_path : Path → Call → Bool
has_path p c = opens_entry p c || deletes p c

-- each line has the path of one of the calls
abbrev pub lines_have_paths_of_calls : Type 0
lines_have_paths_of_calls =
    (w : WorkingCopy) (calls : List Call) → AllByRecursion (λ l. list_any (has_path l.path) calls ≡ true) (update_lines w calls)
