-- The editor's calls: what each names, and what the calls before it say of a token or of a path.
--     given calls t      the file or directory that token t was given to
--     is_closed calls t      it was closed since
--     innermost calls      the most recently opened directory that is still open
--     current_file calls      the file opened last, while nothing but its own calls followed
use Rattle.std.specs.Prelude.{ℕ, Bool, true, false, ◌&&◌, ◌||◌, not, List, [], ◌∷◌, nat_eq, Option, Some, None, if◌then◌else◌, filter_map}
use Rattle.std.specs.Prelude.{fold, slice_get}
use Rattle.std.specs.List.{list_any}
use Rattle.svn_types.specs.declared.kind.Kind.{Kind}
use Rattle.svn_types.specs.declared.kind.Kind.TheVariants.{File, Directory}
use Rattle.svn_types.specs.Names.{Path}
use Rattle.svn_types.specs.Paths.{path_eq}
use Rattle.svn_editor.specs.declared.call.Call.{Call}
use Rattle.svn_editor.specs.declared.call.Call.TheVariants.{OpenRoot, DeleteEntry, AddDirectory, OpenDirectory, ChangeDirProp}
use Rattle.svn_editor.specs.declared.call.Call.TheVariants.{CloseDirectory, AddFile, OpenFile, ChangeFileProp, ApplyText, CloseFile}
use Rattle.svn_editor.specs.declared.call.Call.TheVariants.{CloseEdit, AbortEdit}

abbrev pub kind_eq : Kind → Kind → Bool
kind_eq File File = true
kind_eq Directory Directory = true
kind_eq _ _ = false

abbrev pub number_eq : Option ℕ → Option ℕ → Bool
number_eq None None = true
number_eq (Some m) (Some n) = nat_eq m n
number_eq _ _ = false

-- ---- what a call names

-- no call may follow it
abbrev pub is_last : Call → Bool
is_last CloseEdit = true
is_last AbortEdit = true
is_last _ = false

abbrev pub is_abort : Call → Bool
is_abort AbortEdit = true
is_abort _ = false

-- a token that an open or an add gives: the kind of node, its path, and the token above
pub record Given : Type 0 where
  pub kind : Kind
  pub path : Path
  pub parent : Option ℕ
  pub token : ℕ

abbrev pub given_by : Call → Option Given
given_by (OpenRoot base token) = Some (record { kind = Directory; path = []; parent = None; token = token })
given_by (AddDirectory path parent token) = Some (record { kind = Directory; path = path; parent = Some parent; token = token })
given_by (OpenDirectory path parent base token) = Some (record { kind = Directory; path = path; parent = Some parent; token = token })
given_by (AddFile path parent token) = Some (record { kind = File; path = path; parent = Some parent; token = token })
given_by (OpenFile path parent base token) = Some (record { kind = File; path = path; parent = Some parent; token = token })
given_by _ = None

-- the token that a call is about, and the kind of node that it must have: its own or, for an open, an add or a delete, the parent's
abbrev pub named_by : Call → Option (ℕ × Kind)
named_by (DeleteEntry path rev parent) = Some (parent, Directory)
named_by (AddDirectory path parent token) = Some (parent, Directory)
named_by (OpenDirectory path parent base token) = Some (parent, Directory)
named_by (AddFile path parent token) = Some (parent, Directory)
named_by (OpenFile path parent base token) = Some (parent, Directory)
named_by (ChangeDirProp token name value) = Some (token, Directory)
named_by (CloseDirectory token) = Some (token, Directory)
named_by (ChangeFileProp token name value) = Some (token, File)
named_by (ApplyText token base_md5 text) = Some (token, File)
named_by (CloseFile token text_md5) = Some (token, File)
named_by _ = None

-- the entry of its parent that a call opens, adds or deletes
abbrev pub entry_of : Call → Option Path
entry_of (DeleteEntry path rev parent) = Some path
entry_of (AddDirectory path parent token) = Some path
entry_of (OpenDirectory path parent base token) = Some path
entry_of (AddFile path parent token) = Some path
entry_of (OpenFile path parent base token) = Some path
entry_of _ = None

-- the token of the directory in which a call deletes, adds or opens an entry
abbrev pub parent_of : Call → Option ℕ
parent_of (DeleteEntry path rev parent) = Some parent
parent_of (AddDirectory path parent token) = Some parent
parent_of (OpenDirectory path parent base token) = Some parent
parent_of (AddFile path parent token) = Some parent
parent_of (OpenFile path parent base token) = Some parent
parent_of _ = None

-- the token of the file or directory that a call opens, adds, changes or closes
abbrev pub token_of : Call → Option ℕ
token_of (OpenRoot base token) = Some token
token_of (AddDirectory path parent token) = Some token
token_of (OpenDirectory path parent base token) = Some token
token_of (AddFile path parent token) = Some token
token_of (OpenFile path parent base token) = Some token
token_of (ChangeDirProp token name value) = Some token
token_of (CloseDirectory token) = Some token
token_of (ChangeFileProp token name value) = Some token
token_of (ApplyText token base_md5 text) = Some token
token_of (CloseFile token text_md5) = Some token
token_of _ = None

abbrev pub deletes : Path → Call → Bool
deletes p (DeleteEntry path rev parent) = path_eq path p
deletes p _ = false

abbrev pub is_given_at : Path → Option Given → Bool
is_given_at p None = false
is_given_at p (Some g) = path_eq g.path p

abbrev pub opens_entry : Path → Call → Bool
opens_entry p c = is_given_at p (given_by c)

abbrev pub closes : ℕ → Call → Bool
closes t (CloseDirectory token) = nat_eq token t
closes t (CloseFile token text_md5) = nat_eq token t
closes t _ = false

abbrev pub applies_text : ℕ → Call → Bool
applies_text t (ApplyText token base_md5 text) = nat_eq token t
applies_text t _ = false

abbrev pub changes_dir : ℕ → Call → Bool
changes_dir t (ChangeDirProp token name value) = nat_eq token t
changes_dir t _ = false

-- a directory in the directory t
abbrev pub opens_below : ℕ → Given → Bool
opens_below t g = kind_eq g.kind Directory && number_eq g.parent (Some t)

abbrev pub is_given_in : ℕ → Option Given → Bool
is_given_in t None = false
is_given_in t (Some g) = opens_below t g

abbrev pub opens_subdirectory : ℕ → Call → Bool
opens_subdirectory t c = is_given_in t (given_by c)

-- ---- what the earlier calls say of a token

abbrev pub all_given : List Call → List Given
all_given calls = filter_map given_by calls

abbrev pub given : List Call → ℕ → Option Given
given calls t = slice_get (all_given calls) t

abbrev pub is_closed : List Call → ℕ → Bool
is_closed calls t = list_any (closes t) calls

abbrev pub given_path : Option Given → Path
given_path None = []
given_path (Some g) = g.path

abbrev pub path_of : List Call → ℕ → Path
path_of calls t = given_path (given calls t)

abbrev pub is_of_kind : Kind → Option Given → Bool
is_of_kind k None = false
is_of_kind k (Some g) = kind_eq g.kind k

abbrev pub is_open_directory : List Call → Given → Bool
is_open_directory calls g = kind_eq g.kind Directory && not (is_closed calls g.token)

abbrev pub is_open_file : List Call → Given → Bool
is_open_file calls g = kind_eq g.kind File && not (is_closed calls g.token)

abbrev pub later_open : List Call → Option ℕ → Given → Option ℕ
later_open calls found g = if is_open_directory calls g then Some g.token else found

-- the most recently opened directory that is still open
abbrev pub innermost : List Call → Option ℕ
innermost calls = fold (later_open calls) None (all_given calls)

abbrev pub a_directory_is_open : List Call → Bool
a_directory_is_open calls = list_any (is_open_directory calls) (all_given calls)

abbrev pub a_file_is_open : List Call → Bool
a_file_is_open calls = list_any (is_open_file calls) (all_given calls)

abbrev pub is_open_in : ℕ → List Call → Given → Bool
is_open_in t calls g = opens_below t g && is_open_directory calls g

abbrev pub a_subdirectory_is_open : List Call → ℕ → Bool
a_subdirectory_is_open calls t = list_any (is_open_in t calls) (all_given calls)

-- a property change of the directory came after a subdirectory of it
abbrev pub changed_late : List Call → ℕ → Bool
changed_late [] t = false
changed_late (c ∷ calls) t = opens_subdirectory t c && list_any (changes_dir t) calls || changed_late calls t

-- The current file: the one opened last, until it is closed or a call on another file or on a directory follows.
-- It is postponed from then on.
abbrev pub current_after : Option ℕ → Call → Option ℕ
current_after current (AddFile path parent token) = Some token
current_after current (OpenFile path parent base token) = Some token
current_after current (ChangeFileProp token name value) = if number_eq current (Some token) then current else None
current_after current (ApplyText token base_md5 text) = if number_eq current (Some token) then current else None
current_after current _ = None

abbrev pub current_file : List Call → Option ℕ
current_file calls = fold current_after None calls

abbrev pub is_current : List Call → ℕ → Bool
is_current calls t = number_eq (current_file calls) (Some t)

abbrev pub has_its_text : List Call → Option ℕ → Bool
has_its_text calls None = false
has_its_text calls (Some t) = list_any (applies_text t) calls
