-- The format of dumps, apart from any reading: which bytes are a record, and what it says. It has no limits, no faults and no order of reading.
--     Gives headers name value      one header has the name, and this is its value; or none has it
--     IsChanges bytes changes      the bytes are a property section with these changes
--     IsPropsOf, IsTextOf      what the sections of a node's record say
--     IsNode headers props text node      the headers and the sections are those of the node
--     IsRecord bytes what rest      the bytes are the record, whose text is as it was written, and then the rest
--     AreRecords bytes records      the bytes are the records, and then the end
--     IsFormat bytes format rest      the bytes are the first record, which gives the format, and then the rest
--     IsDumpOf bytes format records      the bytes are a dump: a record that gives the format, and these records
use Rattle.std.specs.Prelude.{◌≡◌, ◌≢◌, ℕ, ◌+◌, ◌≤◌, Bool, true, false, not, ◌||◌, List, [], ◌∷◌, ◌++◌, length, nat_eq, codes, Option, Some, None, is_some, IsSome, IfSome, option_map, unwrap_or, Ok}
use Rattle.std.specs.List.{list_all, flat_map, AllByRecursion}
use Rattle.std.specs.Option.{option_or}
use Rattle.std.specs.Str.{is_utf8}
use Rattle.hex.specs.Hex.{decode_sized}
use Rattle.md5.specs.Md5.{md5}
use Rattle.sha1.specs.Sha1.{sha1}
use Rattle.svn_types.specs.declared.kind.Kind.{Kind}
use Rattle.svn_types.specs.declared.kind.Kind.TheVariants.{File, Directory}
use Rattle.svn_types.specs.Names.{Path, IsName, IsPropName, path_of_text, depth_limit}
use Rattle.svn_types.specs.Props.{PropChange, with_changes}
use Rattle.svn_digits.specs.Numbers.{number_of}
use Rattle.svn_dump.specs.declared.record.Action.{Action}
use Rattle.svn_dump.specs.declared.record.CopySource.{CopySource}
use Rattle.svn_dump.specs.declared.record.NodeRecord.{NodeRecord}
use Rattle.svn_dump.specs.declared.record.PropSection.{PropSection}
use Rattle.svn_dump.specs.declared.record.PropSection.TheVariants as props
use Rattle.svn_dump.specs.declared.record.Record.{Record}
use Rattle.svn_dump.specs.declared.record.Record.TheVariants.{Other, Revision, Node}
use Rattle.svn_dump.specs.declared.record.TextSection.{TextSection}
use Rattle.svn_dump.specs.declared.record.TextSection.TheVariants as text
use Rattle.svn_dump.specs.Blocks.{is_space}
use Rattle.svn_dump.specs.Fields.{without_slash}
use Rattle.svn_dump.specs.Written.{line, action_word}

-- ---- lines

-- none of the bytes is this one
abbrev pub lacks : ℕ → List ℕ → Bool
lacks c bytes = list_all (λ b. not (nat_eq b c)) bytes

-- each line, and a line feed after it
abbrev pub ended : List (List ℕ) → List ℕ
ended lines = flat_map (λ (l : List ℕ). l ++ codes "\n") lines

-- nothing, or white space first
abbrev pub begins_blank : List ℕ → Bool
begins_blank [] = true
begins_blank (b ∷ bs) = is_space b

-- a line that is passed over before headers
pub record IsBlank (l : List ℕ) : Type 0 where
  pub whole : lacks 10 l ≡ true
  pub blank : begins_blank l ≡ true

-- any line that isn't empty
pub record IsWhole (l : List ℕ) : Type 0 where
  pub plain : lacks 10 l ≡ true
  pub some : l ≢ []

-- ---- headers

-- a name, and a value
abbrev pub Header : Type 0
Header = List ℕ × List ℕ

-- the name has no colon, and neither has a line feed
pub record IsHeader (h : Header) : Type 0 where
  pub name : lacks 58 h.0 ≡ true
  pub name_line : lacks 10 h.0 ≡ true
  pub value : lacks 10 h.1 ≡ true

abbrev pub header_lines : List Header → List ℕ
header_lines headers = flat_map (λ (h : Header). line h.0 h.1) headers

-- blank lines, headers and an empty line
pub record IsBlock (bytes : List ℕ) (headers : List Header) (rest : List ℕ) : Type 0 where
  pub blank : List (List ℕ)
  pub parts : bytes ≡ ended blank ++ (header_lines headers ++ (codes "\n" ++ rest))
  pub blank_is : AllByRecursion IsBlank blank
  pub headers_are : AllByRecursion IsHeader headers
  -- there is one, and no white space before it
  pub begins : begins_blank (header_lines headers) ≡ false

abbrev pub IsAbsent : List ℕ → List Header → Type 0
IsAbsent name headers = AllByRecursion (λ (h : Header). h.0 ≢ name) headers

-- no header has the name, or one alone has it, with this value
abbrev pub Gives : List Header → List ℕ → Option (List ℕ) → Type 0
Gives headers name None = IsAbsent name headers
Gives headers name (Some value) =
    (before : List Header) × (after : List Header) × (headers ≡ before ++ ((name, value) ∷ after)) × IsAbsent name before × IsAbsent name after

-- what the value of that header says, if there is one
abbrev pub Says : {A : Type 0} → (List ℕ → A → Type 0) → List Header → List ℕ → Option A → Type 0
Says Spells headers name None = Gives headers name None
Says Spells headers name (Some x) = (value : List ℕ) × Gives headers name (Some value) × Spells value x

abbrev pub AtMostOnce : List Header → List ℕ → Type 0
AtMostOnce headers name = (value : Option (List ℕ)) × Gives headers name value

-- ---- values

abbrev pub IsNumber : List ℕ → ℕ → Type 0
IsNumber digits n = number_of digits ≡ Some n

-- so many bytes in hexadecimal digits
abbrev pub IsSumOf : ℕ → List ℕ → List ℕ → Type 0
IsSumOf size digits sum = decode_sized digits size ≡ Ok sum

-- names with a slash between each two; one at the front says nothing
pub record IsPathOf (value : List ℕ) (path : Path) : Type 0 where
  pub utf8 : is_utf8 (without_slash value) ≡ true
  pub names : path ≡ path_of_text (without_slash value)
  pub lawful : AllByRecursion IsName path
  pub bounded : length path ≤ depth_limit

abbrev pub IsKindWord : List ℕ → Kind → Type 0
IsKindWord word File = word ≡ codes "file"
IsKindWord word Directory = word ≡ codes "dir"

abbrev pub IsActionWord : List ℕ → Action → Type 0
IsActionWord word action = word ≡ action_word action

-- the header is `true`, or is another word or absent
abbrev pub IsFlag : List Header → List ℕ → Bool → Type 0
IsFlag headers name true = Gives headers name (Some (codes "true"))
IsFlag headers name false = (value : Option (List ℕ)) × Gives headers name value × (value ≢ Some (codes "true"))

-- ---- property sections

-- a line of the letter and the number of the bytes, these, and a line feed
abbrev pub IsRun : ℕ → List ℕ → List ℕ → Type 0
IsRun letter run bytes =
    (digits : List ℕ) × (run ≡ (letter ∷ codes " " ++ digits) ++ (codes "\n" ++ (bytes ++ codes "\n"))) × IsNumber digits (length bytes)

-- `D` and a name that goes, or `K` and a name, and `V` and its value
abbrev pub IsChange : List ℕ → List ℕ → Option (List ℕ) → Type 0
IsChange bytes name None = IsPropName name × IsRun 68 bytes name
IsChange bytes name (Some value) =
    IsPropName name × (key : List ℕ) × (rest : List ℕ) × (bytes ≡ key ++ rest) × IsRun 75 key name × IsRun 86 rest value

abbrev pub IsChanges : List ℕ → List PropChange → Type 0
IsChanges bytes [] = bytes ≡ codes "PROPS-END\n"
IsChanges bytes (c ∷ changes) =
    (front : List ℕ) × (rest : List ℕ) × (bytes ≡ front ++ rest) × IsChange front c.0 c.1 × IsChanges rest changes

-- changes of the properties before, or all of them, where none goes and of a name that comes twice the last value counts
abbrev pub IsPropsOf : Bool → List ℕ → PropSection → Type 0
IsPropsOf true bytes (props.Delta changes) = IsChanges bytes changes
IsPropsOf true bytes (props.Whole all) = ⊥
IsPropsOf false bytes (props.Delta changes) = ⊥
IsPropsOf false bytes (props.Whole all) =
    (changes : List PropChange) × IsChanges bytes changes × AllByRecursion (λ (c : PropChange). IsSome c.1) changes × (all ≡ with_changes [] changes)

-- ---- texts

-- the checksums of a text that are given
pub record Sums : Type 0 where
  pub md5 : Option (List ℕ)
  pub sha1 : Option (List ℕ)

-- the MD5 checksum has one of two names, the second from before Subversion 1.6
pub record AreSums (headers : List Header) (sums : Sums) : Type 0 where
  pub new : Option (List ℕ)
  pub old : Option (List ℕ)
  pub new_is : Says (IsSumOf 16) headers (codes "Text-content-md5") new
  pub old_is : Says (IsSumOf 16) headers (codes "Text-content-checksum") old
  pub md5_is : sums.md5 ≡ option_or new old
  pub sha1_is : Says (IsSumOf 20) headers (codes "Text-content-sha1") sums.sha1

-- those of the text that a text delta is applied to
pub record AreBaseSums (headers : List Header) (sums : Sums) : Type 0 where
  pub md5_is : Says (IsSumOf 16) headers (codes "Text-delta-base-md5") sums.md5
  pub sha1_is : Says (IsSumOf 20) headers (codes "Text-delta-base-sha1") sums.sha1

-- a delta with its checksums, or a text that has those that are given
abbrev pub IsTextOf : Bool → Sums → Sums → List ℕ → TextSection → Type 0
IsTextOf true base sums bytes (text.Delta delta) =
    (delta.delta ≡ bytes) × (delta.base_md5 ≡ base.md5) × (delta.base_sha1 ≡ base.sha1) × (delta.md5 ≡ sums.md5) × (delta.sha1 ≡ sums.sha1)
IsTextOf true base sums bytes (text.Whole whole) = ⊥
IsTextOf false base sums bytes (text.Delta delta) = ⊥
IsTextOf false base sums bytes (text.Whole whole) =
    (whole ≡ bytes) × IfSome sums.md5 (λ sum. sum ≡ md5 bytes) × IfSome sums.sha1 (λ sum. sum ≡ sha1 bytes)

-- ---- records

-- the section that is there says this
abbrev pub IsGiven : {A : Type 0} → (List ℕ → A → Type 0) → Option (List ℕ) → Option A → Type 0
IsGiven Is None None = Unit {0}
IsGiven Is None (Some x) = ⊥
IsGiven Is (Some bytes) None = ⊥
IsGiven Is (Some bytes) (Some x) = Is bytes x

abbrev pub IsSourceOf : List Header → Option CopySource → Type 0
IsSourceOf headers None = Gives headers (codes "Node-copyfrom-rev") None × Gives headers (codes "Node-copyfrom-path") None
IsSourceOf headers (Some source) =
    Says IsNumber headers (codes "Node-copyfrom-rev") (Some source.rev) × Says IsPathOf headers (codes "Node-copyfrom-path") (Some source.path)

pub record IsNode (headers : List Header) (prop_bytes text_bytes : Option (List ℕ)) (node : NodeRecord) : Type 0 where
  pub path : Says IsPathOf headers (codes "Node-path") (Some node.path)
  pub kind : Says IsKindWord headers (codes "Node-kind") node.kind
  pub action : Says IsActionWord headers (codes "Node-action") (Some node.action)
  pub source : IsSourceOf headers node.source
  pub changes_props : Bool
  pub changes_text : Bool
  pub prop_delta : IsFlag headers (codes "Prop-delta") changes_props
  pub text_delta : IsFlag headers (codes "Text-delta") changes_text
  pub sums : Sums
  pub base : Sums
  pub sums_are : AreSums headers sums
  pub base_are : AreBaseSums headers base
  pub props_are : IsGiven (IsPropsOf changes_props) prop_bytes node.props
  pub text_is : IsGiven (IsTextOf changes_text base sums) text_bytes node.text

-- The number of a revision; or none, and a node's path; or neither, and what only the whole dump has, which is given once at most. The sections of
-- a node's record alone have to say something.
abbrev pub IsAbout : List Header → Option (List ℕ) → Option (List ℕ) → Record → Type 0
IsAbout headers prop_bytes text_bytes (Revision rev) = Says IsNumber headers (codes "Revision-number") (Some rev)
IsAbout headers prop_bytes text_bytes (Node node) =
    Gives headers (codes "Revision-number") None × AtMostOnce headers (codes "UUID") × AtMostOnce headers (codes "SVN-fs-dump-format-version")
    × IsNode headers prop_bytes text_bytes node
IsAbout headers prop_bytes text_bytes Other =
    Gives headers (codes "Revision-number") None × Gives headers (codes "Node-path") None
    × (uuid : AtMostOnce headers (codes "UUID")) × (format : AtMostOnce headers (codes "SVN-fs-dump-format-version"))
    × ((is_some uuid.0 || is_some format.0) ≡ true)

-- how long each section is that is there, and maybe how long both are
pub record AreLengths (headers : List Header) (prop_bytes text_bytes : Option (List ℕ)) : Type 0 where
  pub props : Says IsNumber headers (codes "Prop-content-length") (option_map length prop_bytes)
  pub text : Says IsNumber headers (codes "Text-content-length") (option_map length text_bytes)
  pub both : Option ℕ
  pub both_is : Says IsNumber headers (codes "Content-length") both
  pub agree : IfSome both (λ n. n ≡ length (unwrap_or prop_bytes []) + length (unwrap_or text_bytes []))

-- headers, the properties and the text
pub record IsRecord (bytes : List ℕ) (what : Record) (rest : List ℕ) : Type 0 where
  pub headers : List Header
  pub prop_bytes : Option (List ℕ)
  pub text_bytes : Option (List ℕ)
  pub block : IsBlock bytes headers (unwrap_or prop_bytes [] ++ (unwrap_or text_bytes [] ++ rest))
  pub lengths : AreLengths headers prop_bytes text_bytes
  pub about : IsAbout headers prop_bytes text_bytes what

-- ---- dumps

-- no line is the header of this name
abbrev pub IsOther : List ℕ → List (List ℕ) → Type 0
IsOther name lines = AllByRecursion (λ (l : List ℕ). (value : List ℕ) → l ≢ name ++ (codes ": " ++ value)) lines

-- one line alone is the header of this name, whatever the others are
abbrev pub HasLine : List (List ℕ) → List ℕ → List ℕ → Type 0
HasLine lines name value =
    (before : List (List ℕ)) × (after : List (List ℕ)) × (lines ≡ before ++ ((name ++ (codes ": " ++ value)) ∷ after)) × IsOther name before
    × IsOther name after

-- the first record: blank lines, lines of which one gives the format, and an empty line
pub record IsFormat (bytes : List ℕ) (format : ℕ) (rest : List ℕ) : Type 0 where
  pub blank : List (List ℕ)
  pub lines : List (List ℕ)
  pub parts : bytes ≡ ended blank ++ (ended lines ++ (codes "\n" ++ rest))
  pub blank_is : AllByRecursion IsBlank blank
  pub whole : AllByRecursion IsWhole lines
  pub begins : begins_blank (ended lines) ≡ false
  pub digits : List ℕ
  pub line_is : HasLine lines (codes "SVN-fs-dump-format-version") digits
  pub number : IsNumber digits format
  pub low : 2 ≤ format
  pub high : format ≤ 3

-- blank lines, the last maybe without its line feed
pub record IsEnd (bytes : List ℕ) : Type 0 where
  pub blank : List (List ℕ)
  pub last : List ℕ
  pub parts : bytes ≡ ended blank ++ last
  pub blank_is : AllByRecursion IsBlank blank
  pub last_is : IsBlank last

-- one after another, and then the end
abbrev pub AreRecords : List ℕ → List Record → Type 0
AreRecords bytes [] = IsEnd bytes
AreRecords bytes (what ∷ records) = (rest : List ℕ) × IsRecord bytes what rest × AreRecords rest records

pub record IsDumpOf (bytes : List ℕ) (format : ℕ) (records : List Record) : Type 0 where
  pub rest : List ℕ
  pub first : IsFormat bytes format rest
  pub are : AreRecords rest records
