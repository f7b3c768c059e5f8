-- Records, as they are written: headers in the order in which Subversion writes them.
--     written node      a node's record
--     revision_record rev, format_record format      the beginning of a revision without properties, and that of a dump
use Rattle.std.specs.Prelude.{ℕ, ◌+◌, ◌||◌, List, [], ◌∷◌, ◌++◌, length, codes, Option, Some, None, is_some, unwrap_or, option_map, if◌then◌else◌}
use Rattle.std.specs.List.{flat_map}
use Rattle.std.specs.Fmt.{decimal}
use Rattle.md5.specs.Md5.{md5}
use Rattle.sha1.specs.Sha1.{sha1}
use Rattle.hex.specs.Hex.{encode_lower}
use Rattle.svn_types.specs.declared.kind.Kind.{Kind}
use Rattle.svn_types.specs.declared.kind.Kind.TheVariants.{File, Directory}
use Rattle.svn_types.specs.PathTexts.{path_text}
use Rattle.svn_types.specs.Props.{PropChange}
use Rattle.svn_dump.specs.declared.record.Action.{Action}
use Rattle.svn_dump.specs.declared.record.Action.TheVariants.{Add, Change, Delete, Replace}
use Rattle.svn_dump.specs.declared.record.CopySource.{CopySource}
use Rattle.svn_dump.specs.declared.record.NodeRecord.{NodeRecord}
use Rattle.svn_dump.specs.declared.record.PropSection.{PropSection}
use Rattle.svn_dump.specs.declared.record.PropSection.TheVariants as props
use Rattle.svn_dump.specs.declared.record.TextDelta.{TextDelta}
use Rattle.svn_dump.specs.declared.record.TextSection.{TextSection}
use Rattle.svn_dump.specs.declared.record.TextSection.TheVariants as text

-- ---- lines

abbrev pub line : List ℕ → List ℕ → List ℕ
line name value = name ++ codes ": " ++ value ++ codes "\n"

abbrev pub number_line : List ℕ → ℕ → List ℕ
number_line name n = line name (decimal n)

-- a line of a letter and the number of the bytes, and these
abbrev pub run : ℕ → List ℕ → List ℕ
run letter bytes = letter ∷ 32 ∷ decimal (length bytes) ++ codes "\n" ++ bytes ++ codes "\n"

-- ---- sections

abbrev pub entry : List ℕ → Option (List ℕ) → List ℕ
entry name None = run 68 name
entry name (Some value) = run 75 name ++ run 86 value

abbrev pub entries : PropSection → List ℕ
entries (props.Whole all) = flat_map (λ p. entry p.0 (Some p.1)) all
entries (props.Delta changes) = flat_map (λ (c : PropChange). entry c.0 c.1) changes

abbrev pub prop_bytes : PropSection → List ℕ
prop_bytes section = entries section ++ codes "PROPS-END\n"

abbrev pub text_bytes : TextSection → List ℕ
text_bytes (text.Whole bytes) = bytes
text_bytes (text.Delta delta) = delta.delta

abbrev pub prop_section : Option PropSection → Option (List ℕ)
prop_section None = None
prop_section (Some section) = Some (prop_bytes section)

abbrev pub text_section : Option TextSection → Option (List ℕ)
text_section None = None
text_section (Some section) = Some (text_bytes section)

-- ---- headers

abbrev pub kind_line : Option Kind → List ℕ
kind_line None = []
kind_line (Some File) = line (codes "Node-kind") (codes "file")
kind_line (Some Directory) = line (codes "Node-kind") (codes "dir")

abbrev pub action_word : Action → List ℕ
action_word Add = codes "add"
action_word Change = codes "change"
action_word Delete = codes "delete"
action_word Replace = codes "replace"

abbrev pub source_lines : Option CopySource → List ℕ
source_lines None = []
source_lines (Some source) = number_line (codes "Node-copyfrom-rev") source.rev ++ line (codes "Node-copyfrom-path") (path_text source.path)

abbrev pub subject_lines : NodeRecord → List ℕ
subject_lines node =
    line (codes "Node-path") (path_text node.path) ++ kind_line node.kind ++ line (codes "Node-action") (action_word node.action)
    ++ source_lines node.source

abbrev pub prop_lines : Option PropSection → List ℕ
prop_lines None = []
prop_lines (Some (props.Whole all)) = []
prop_lines (Some (props.Delta changes)) = line (codes "Prop-delta") (codes "true")

abbrev pub sum_line : List ℕ → Option (List ℕ) → List ℕ
sum_line name None = []
sum_line name (Some sum) = line name (encode_lower sum)

abbrev pub sum_lines : Option (List ℕ) → Option (List ℕ) → List ℕ
sum_lines first second = sum_line (codes "Text-content-md5") first ++ sum_line (codes "Text-content-sha1") second

-- those of the text that a delta is applied to
abbrev pub base_sum_lines : Option (List ℕ) → Option (List ℕ) → List ℕ
base_sum_lines first second = sum_line (codes "Text-delta-base-md5") first ++ sum_line (codes "Text-delta-base-sha1") second

abbrev pub delta_lines : TextDelta → List ℕ
delta_lines delta =
    line (codes "Text-delta") (codes "true") ++ base_sum_lines delta.base_md5 delta.base_sha1 ++ sum_lines delta.md5 delta.sha1

abbrev pub text_lines : Option TextSection → List ℕ
text_lines None = []
text_lines (Some (text.Whole bytes)) = sum_lines (Some (md5 bytes)) (Some (sha1 bytes))
text_lines (Some (text.Delta delta)) = delta_lines delta

abbrev pub length_line : List ℕ → Option ℕ → List ℕ
length_line name None = []
length_line name (Some len) = number_line name len

-- the lengths of the sections, and of both together where there is one
abbrev pub length_lines : Option ℕ → Option ℕ → List ℕ
length_lines props text =
    length_line (codes "Prop-content-length") props ++ length_line (codes "Text-content-length") text
    ++ (if is_some props || is_some text then number_line (codes "Content-length") (unwrap_or props 0 + unwrap_or text 0) else [])

-- ---- records

-- of a node whose sections are so long
abbrev pub headers : NodeRecord → Option ℕ → Option ℕ → List ℕ
headers node props text = subject_lines node ++ prop_lines node.props ++ text_lines node.text ++ length_lines props text

abbrev pub headers_of : NodeRecord → List ℕ
headers_of node = headers node (option_map length (prop_section node.props)) (option_map length (text_section node.text))

abbrev pub written : NodeRecord → List ℕ
written node =
    headers_of node ++ codes "\n" ++ unwrap_or (prop_section node.props) [] ++ unwrap_or (text_section node.text) [] ++ codes "\n\n"

abbrev pub revision_record : ℕ → List ℕ
revision_record rev =
    number_line (codes "Revision-number") rev ++ line (codes "Prop-content-length") (codes "10") ++ line (codes "Content-length") (codes "10")
    ++ codes "\nPROPS-END\n\n"

abbrev pub format_record : ℕ → List ℕ
format_record format = number_line (codes "SVN-fs-dump-format-version") format ++ codes "\n"
