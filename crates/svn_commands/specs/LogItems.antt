-- What is written of a revision in a log.
--     item_bytes s wanted r      the paths that revision r changed, its number, its author, date and message, and its other properties, as they are wanted
use Rattle.std.specs.Prelude.{ℕ, ◌-◌, Bool, true, false, ◌&&◌, ◌||◌, not, List, [], ◌++◌, length, bytes_eq, codes, slice_get, Option, Some, None, option_and_then, if◌then◌else◌}
use Rattle.std.specs.List.{filter, flat_map, list_any}
use Rattle.std.specs.Option.{option_or}
use Rattle.svn_types.specs.Names.{Path}
use Rattle.svn_types.specs.declared.kind.Kind.{Kind}
use Rattle.svn_types.specs.declared.kind.Kind.TheVariants.{File, Directory}
use Rattle.svn_repo.specs.History.{History}
use Rattle.svn_dump.specs.declared.copy_note.CopyNote.{CopyNote}
use Rattle.svn_dump.specs.declared.record.Action.{Action}
use Rattle.svn_dump.specs.declared.record.Action.TheVariants.{Add, Change, Delete, Replace}
use Rattle.svn_dump.specs.declared.record.CopySource.{CopySource}
use Rattle.svn_wire.specs.declared.token.Token.{Token}
use Rattle.svn_wire.specs.declared.token.Token.TheVariants.{Text}
use Rattle.svn_wire.specs.Writing.{number_bytes, word_bytes, text_bytes}
use Rattle.svn_wire_calls.specs.Calls.{optional}
use Rattle.svn_replies.specs.declared.changes.PathChange.{PathChange}
use Rattle.svn_replies.specs.declared.served.Served.{Served}
use Rattle.svn_replies.specs.Answers.{listed, bool_bytes, pair_bytes, whole_path}
use Rattle.svn_replies.specs.Changes.{changes_of}
use Rattle.svn_replies.specs.Commands.{kind_at}
use Rattle.svn_replies.specs.Values.{Pairs, value_at}
use Rattle.svn_commands.specs.LogFields.{Names, usual, every, named, Wanted}
use Rattle.svn_commands.specs.Segments.{copy_over, source_path}

-- ---- properties

abbrev pub is_the_text : List ℕ → Token → Bool
is_the_text name (Text text) = bytes_eq text name
is_the_text name _ = false

abbrev pub is_named : List Token → List ℕ → Bool
is_named names name = list_any (is_the_text name) names

-- those that have fields of their own: author, date and message
abbrev pub has_field : List ℕ → Bool
has_field name = bytes_eq name (codes "svn:author") || bytes_eq name (codes "svn:date") || bytes_eq name (codes "svn:log")

-- one of these is wanted
abbrev pub wants : Names → List ℕ → Bool
wants usual name = true
wants every name = true
wants (named names) name = is_named names name

-- one is wanted beside these
abbrev pub wants_also : Names → List ℕ → Bool
wants_also usual name = false
wants_also every name = not (has_field name)
wants_also (named names) name = not (has_field name) && is_named names name

abbrev pub wanted_value : Served → Names → ℕ → List ℕ → Option (List ℕ)
wanted_value s names r name = if wants names name then value_at s.revisions r name else None

abbrev pub field_bytes : Served → Names → ℕ → List ℕ
field_bytes s names r =
    optional (wanted_value s names r (codes "svn:author"))
    ++ (optional (wanted_value s names r (codes "svn:date")) ++ optional (wanted_value s names r (codes "svn:log")))

abbrev pub others : Names → Pairs → Pairs
others names props = filter (λ prop. wants_also names prop.0) props

abbrev pub or_no_props : Option Pairs → Pairs
or_no_props None = []
or_no_props (Some props) = props

-- how many there are, and each with its name
abbrev pub others_bytes : Names → Pairs → List ℕ
others_bytes names props =
    number_bytes (length (others names props)) ++ listed (flat_map (λ prop. pair_bytes prop.0 prop.1) (others names props))

-- ---- changed paths

abbrev pub action_word : Action → List ℕ
action_word Add = codes "A"
action_word Change = codes "M"
action_word Delete = codes "D"
action_word Replace = codes "R"

abbrev pub kind_word : Option Kind → List ℕ
kind_word (Some File) = codes "file"
kind_word (Some Directory) = codes "dir"
kind_word None = codes "none"

abbrev pub kind_by : History → ℕ → Path → Option CopyNote → Option Kind
kind_by h r p None = kind_at h (r - 1) p
kind_by h r p (Some copy) = option_and_then (kind_at h copy.source.rev) (source_path copy p)

-- what was at the path before the changes of revision r: in the revision before, or where a copy of this one is from
abbrev pub kind_before : Served → ℕ → Path → Option Kind
kind_before s r p = kind_by s.repo r p (copy_over s.index.copies.items r p)

abbrev pub kind_of : Served → ℕ → PathChange → Option Kind
kind_of s r change = option_or change.kind (kind_before s r change.path)

abbrev pub source_bytes : Option CopySource → List ℕ
source_bytes None = []
source_bytes (Some source) = text_bytes (whole_path source.path) ++ number_bytes source.rev

-- kind, and whether the text and the properties were changed
abbrev pub what_bytes : Served → ℕ → PathChange → List ℕ
what_bytes s r change = text_bytes (kind_word (kind_of s r change)) ++ (bool_bytes change.text ++ bool_bytes change.props)

abbrev pub change_fields : Served → ℕ → PathChange → List ℕ
change_fields s r change =
    text_bytes (whole_path change.path)
    ++ (word_bytes (action_word change.action) ++ (listed (source_bytes change.source) ++ listed (what_bytes s r change)))

-- where they are wanted
abbrev pub changes_bytes : Bool → Served → ℕ → List ℕ
changes_bytes true s r = flat_map (λ change. listed (change_fields s r change)) (changes_of s.changes r)
changes_bytes false s r = []

-- ---- a revision

-- nothing was merged in it, and its number is one; its other properties; it isn't taken back
abbrev pub item_end : Served → Names → ℕ → List ℕ
item_end s names r = codes "false false " ++ (others_bytes names (or_no_props (slice_get s.revisions r)) ++ codes "false ")

abbrev pub item_fields : Served → Wanted → ℕ → List ℕ
item_fields s wanted r =
    listed (changes_bytes wanted.changes s r) ++ (number_bytes r ++ (field_bytes s wanted.names r ++ item_end s wanted.names r))

abbrev pub item_bytes : Served → Wanted → ℕ → List ℕ
item_bytes s wanted r = listed (item_fields s wanted r)
