-- The printed lines of calls, without the line feed.
--     call_line c
use Rattle.std.specs.Prelude.{ℕ, List, [], ◌∷◌, Option, Some, None, codes}
use Rattle.std.specs.Fmt.{decimal}
use Rattle.svn_editor.specs.declared.call.Call.{Call}
use Rattle.svn_editor.specs.declared.call.Call.TheVariants.{SetTargetRevision, OpenRoot, DeleteEntry, AddDirectory, OpenDirectory}
use Rattle.svn_editor.specs.declared.call.Call.TheVariants.{ChangeDirProp, CloseDirectory, AddFile, OpenFile, ChangeFileProp, ApplyText}
use Rattle.svn_editor.specs.declared.call.Call.TheVariants.{CloseFile, CloseEdit, AbortEdit}
use Rattle.svn_editor.specs.Words.{word, path_word, token_word, checksum_word, spaced}

-- a removal has no value
abbrev pub change_words : List ℕ → ℕ → List ℕ → Option (List ℕ) → List (List ℕ)
change_words call token name None = call ∷ token_word token ∷ word name ∷ []
change_words call token name (Some value) = call ∷ token_word token ∷ word name ∷ word value ∷ []

abbrev pub call_words : Call → List (List ℕ)
call_words (SetTargetRevision rev) = codes "set_target_revision" ∷ decimal rev ∷ []
call_words (OpenRoot base token) = codes "open_root" ∷ decimal base ∷ token_word token ∷ []
call_words (DeleteEntry path rev parent) = codes "delete_entry" ∷ path_word path ∷ decimal rev ∷ token_word parent ∷ []
call_words (AddDirectory path parent token) = codes "add_directory" ∷ path_word path ∷ token_word parent ∷ token_word token ∷ []
call_words (OpenDirectory path parent base token) =
    codes "open_directory" ∷ path_word path ∷ token_word parent ∷ decimal base ∷ token_word token ∷ []
call_words (ChangeDirProp token name value) = change_words (codes "change_dir_prop") token name value
call_words (CloseDirectory token) = codes "close_directory" ∷ token_word token ∷ []
call_words (AddFile path parent token) = codes "add_file" ∷ path_word path ∷ token_word parent ∷ token_word token ∷ []
call_words (OpenFile path parent base token) = codes "open_file" ∷ path_word path ∷ token_word parent ∷ decimal base ∷ token_word token ∷ []
call_words (ChangeFileProp token name value) = change_words (codes "change_file_prop") token name value
call_words (ApplyText token base_md5 text) = codes "apply_text" ∷ token_word token ∷ checksum_word base_md5 ∷ word text ∷ []
call_words (CloseFile token text_md5) = codes "close_file" ∷ token_word token ∷ checksum_word text_md5 ∷ []
call_words CloseEdit = codes "close_edit" ∷ []
call_words AbortEdit = codes "abort_edit" ∷ []

abbrev pub call_line : Call → List ℕ
call_line c = spaced (call_words c)
