-- The laws of dumps, as statements: what is written of a record is read as that record. Each is the contract of the function of its name.
--     IsNodeRecord node      what each node's record has that the types hold
--     IsWritable limits texts node      the same, and its lengths are within the limits
--     IsReadAs limits texts bytes records      reading record after record gives these, and then the end
--     IsDumpRead limits texts bytes format records      the same after the first record, which gives the format
--     IsWithin limits texts r      a record of the grammar is within the limits
use Rattle.std.specs.Prelude.{◌≡◌, ℕ, ◌+◌, ◌^◌, ◌<◌, ◌≤◌, List, [], ◌∷◌, ◌++◌, length, codes, replicate, map, Option, Some, None, Ok, All, IsUtf8, IfSome, MatchOption, unwrap_or, option_map}
use Rattle.std.specs.List.{flat_map}
use Rattle.std.specs.Map.{keys_of}
use Rattle.hex.specs.Hex.{IsBytes}
use Rattle.md5.specs.Md5.{md5}
use Rattle.sha1.specs.Sha1.{sha1}
use Rattle.svn_types.specs.Names.{Path, IsName, IsPropName, depth_limit}
use Rattle.svn_types.specs.Pairs.{InNameOrder}
use Rattle.svn_types.specs.Props.{PropChange}
use Rattle.svn_dump.specs.declared.record.CopySource.{CopySource}
use Rattle.svn_dump.specs.declared.record.NodeRecord.{NodeRecord}
use Rattle.svn_dump.specs.declared.record.PropSection.{PropSection}
use Rattle.svn_dump.specs.declared.record.PropSection.TheVariants as props
use Rattle.svn_dump.specs.declared.record.Record.{Record}
use Rattle.svn_dump.specs.declared.record.Record.TheVariants.{Other, Revision, Node}
use Rattle.svn_dump.specs.declared.record.TextSection.{TextSection}
use Rattle.svn_dump.specs.declared.record.TextSection.TheVariants as text
use Rattle.svn_dump.specs.declared.sections.Limits.{Limits}
use Rattle.svn_dump.specs.declared.sections.Texts.{Texts}
use Rattle.svn_dump.specs.declared.sections.Texts.TheVariants.{Whole, Sha1, Md5}
use Rattle.svn_dump.specs.Records.{record_at, format_at}
use Rattle.svn_digits.specs.StandIns.{stand_in, stand_in_of, md5_stand_in, stand_in_of_md5}
use Rattle.svn_dump.specs.Written.{text_bytes, prop_section, text_section, headers_of, written, revision_record, format_record}
use Rattle.law_dump.specs.Grammar.{IsRecord, AreRecords, IsDumpOf, ended, header_lines}

-- ---- which records the laws are about

-- at most 128 lawful names, each of them text
pub record IsPath (path : Path) : Type 0 where
  pub names : All IsName path
  pub texts : All IsUtf8 path
  pub bounded : length path ≤ depth_limit

pub record IsSource (source : CopySource) : Type 0 where
  pub path : IsPath source.path
  pub rev : source.rev < 2 ^ 64

-- the names are lawful, and all of a node's properties are in their order
abbrev pub IsPropSection : PropSection → Type 0
IsPropSection (props.Whole all) = All IsPropName (keys_of all) × InNameOrder all
IsPropSection (props.Delta changes) = All (λ (c : PropChange). IsPropName c.0) changes

-- so many bytes
abbrev pub IsSum : ℕ → List ℕ → Type 0
IsSum size sum = (length sum ≡ size) × IsBytes sum

abbrev pub IsTextSection : TextSection → Type 0
IsTextSection (text.Whole bytes) = Unit {0}
IsTextSection (text.Delta delta) =
    IfSome delta.base_md5 (IsSum 16) × IfSome delta.base_sha1 (IsSum 20) × IfSome delta.md5 (IsSum 16) × IfSome delta.sha1 (IsSum 20)

-- A text that is kept is within the limit. Where texts have stand-ins, a text delta comes with the checksum that they are made of, or is that of no bytes.
abbrev pub CanKeep : Texts → ℕ → TextSection → Type 0
CanKeep Whole limit section = length (text_bytes section) ≤ limit
CanKeep Sha1 limit (text.Whole bytes) = Unit {0}
CanKeep Sha1 limit (text.Delta delta) = MatchOption delta.sha1 (length delta.delta ≤ 4) (λ sum. Unit {0})
CanKeep Md5 limit (text.Whole bytes) = Unit {0}
CanKeep Md5 limit (text.Delta delta) = MatchOption delta.md5 (length delta.delta ≤ 4) (λ sum. Unit {0})

-- how long the sections of a node are
abbrev pub props_len : NodeRecord → ℕ
props_len node = length (unwrap_or (prop_section node.props) [])

abbrev pub text_len : NodeRecord → ℕ
text_len node = length (unwrap_or (text_section node.text) [])

-- what each record has that the types hold
pub record IsNodeRecord (node : NodeRecord) : Type 0 where
  pub path : IsPath node.path
  pub source : IfSome node.source IsSource
  pub props : IfSome node.props IsPropSection
  pub text : IfSome node.text IsTextSection

-- its lengths are within the limits too, and that of both sections is a number of 64 bits
pub record IsWritable (limits : Limits) (texts : Texts) (node : NodeRecord) : Type 0 where
  pub lawful : IsNodeRecord node
  -- with the two empty lines after the record before it
  pub headers_fit : length (headers_of node) + 2 ≤ limits.headers
  pub props_fit : props_len node ≤ limits.props
  pub text_fits : IfSome node.text (CanKeep texts limits.text)
  pub lengths : props_len node + text_len node < 2 ^ 64

-- ---- nodes

-- what is kept of a text: itself, or its stand-in
abbrev pub kept_section : Texts → TextSection → TextSection
kept_section Whole section = section
kept_section Sha1 (text.Whole bytes) = text.Whole (stand_in bytes)
kept_section Sha1 (text.Delta delta) = text.Whole (stand_in_of (unwrap_or delta.sha1 (sha1 [])))
kept_section Md5 (text.Whole bytes) = text.Whole (md5_stand_in bytes)
kept_section Md5 (text.Delta delta) = text.Whole (stand_in_of_md5 (unwrap_or delta.md5 (md5 [])))

abbrev pub kept_text : Texts → Option TextSection → Option TextSection
kept_text Whole section = section
kept_text Sha1 section = option_map (kept_section Sha1) section
kept_text Md5 section = option_map (kept_section Md5) section

abbrev pub kept_node : Texts → NodeRecord → NodeRecord
kept_node texts node =
    record {
      path = node.path;
      kind = node.kind;
      action = node.action;
      source = node.source;
      props = node.props;
      text = kept_text texts node.text;
    }

-- a node's record, after at most two empty lines and whatever follows; the two line feeds at its end are left
abbrev pub nodes_are_read_back : Type 0
nodes_are_read_back =
    (limits : Limits) (texts : Texts) (node : NodeRecord) (empty_lines : ℕ) (rest : List ℕ)
    → IsWritable limits texts node
    → empty_lines ≤ 2
    → record_at limits texts (replicate empty_lines 10 ++ (written node ++ rest))
    ≡ Ok (Some (Node (kept_node texts node)), codes "\n\n" ++ rest)

-- with whole texts it is the node itself
abbrev pub whole_nodes_are_read_back : Type 0
whole_nodes_are_read_back =
    (limits : Limits) (node : NodeRecord) (rest : List ℕ)
    → IsWritable limits Whole node
    → record_at limits Whole (written node ++ rest) ≡ Ok (Some (Node node), codes "\n\n" ++ rest)

-- ---- revisions

-- room for the headers of a revision's record or of a dump's first, with the empty lines before them: they have at most 83 bytes
abbrev pub header_room : ℕ
header_room = 100

-- the beginning of a revision, however texts are kept; the last line feed is left
abbrev pub revisions_are_read_back : Type 0
revisions_are_read_back =
    (limits : Limits) (texts : Texts) (rev empty_lines : ℕ) (rest : List ℕ)
    → rev < 2 ^ 64
    → header_room ≤ limits.headers
    → empty_lines ≤ 2
    → record_at limits texts (replicate empty_lines 10 ++ (revision_record rev ++ rest)) ≡ Ok (Some (Revision rev), codes "\n" ++ rest)

-- ---- whole dumps

abbrev pub written_record : Record → List ℕ
written_record Other = []
written_record (Revision rev) = revision_record rev
written_record (Node node) = written node

-- of the records that are neither revisions nor nodes none is written
abbrev pub IsWritableRecord : Limits → Texts → Record → Type 0
IsWritableRecord limits texts Other = ⊥
IsWritableRecord limits texts (Revision rev) = rev < 2 ^ 64
IsWritableRecord limits texts (Node node) = IsWritable limits texts node

abbrev pub kept_record : Texts → Record → Record
kept_record texts Other = Other
kept_record texts (Revision rev) = Revision rev
kept_record texts (Node node) = Node (kept_node texts node)

abbrev pub kept_records : Texts → List Record → List Record
kept_records Whole records = records
kept_records Sha1 records = map (kept_record Sha1) records
kept_records Md5 records = map (kept_record Md5) records

-- reading record after record gives these, and then the end
abbrev pub IsReadAs : Limits → Texts → List ℕ → List Record → Type 0
IsReadAs limits texts bytes [] = record_at limits texts bytes ≡ Ok (None, [])
IsReadAs limits texts bytes (r ∷ records) =
    (rest : List ℕ) × (record_at limits texts bytes ≡ Ok (Some r, rest)) × IsReadAs limits texts rest records

-- the format is read of the first record, and then the records that were written
abbrev pub dumps_are_read_back : Type 0
dumps_are_read_back =
    (limits : Limits) (texts : Texts) (format : ℕ) (records : List Record)
    → 2 ≤ format
    → format ≤ 3
    → header_room ≤ limits.headers
    → All (IsWritableRecord limits texts) records
    → (let bytes = flat_map written_record records in
    (format_at limits (format_record format ++ bytes) ≡ Ok (format, bytes)) × IsReadAs limits texts bytes (kept_records texts records))

-- ---- what is read is by the grammar

-- What is read of a record is what is kept of one that the grammar gives.
abbrev pub records_are_by_the_grammar : Type 0
records_are_by_the_grammar =
    (limits : Limits) (texts : Texts) (bytes : List ℕ) (what : Record) (rest : List ℕ) → record_at limits texts bytes ≡ Ok (Some what, rest)
    → (whole : Record) × (what ≡ kept_record texts whole) × IsRecord bytes whole rest

-- the format is read of the first record, then record after record, and then the end
abbrev pub IsDumpRead : Limits → Texts → List ℕ → ℕ → List Record → Type 0
IsDumpRead limits texts bytes format records =
    (rest : List ℕ) × (format_at limits bytes ≡ Ok (format, rest)) × IsReadAs limits texts rest records

abbrev pub dumps_are_by_the_grammar : Type 0
dumps_are_by_the_grammar =
    (limits : Limits) (texts : Texts) (bytes : List ℕ) (format : ℕ) (records : List Record) → IsDumpRead limits texts bytes format records
    → (whole : List Record) × (records ≡ kept_records texts whole) × IsDumpOf bytes format whole

-- ---- what is by the grammar is read

abbrev pub NodeFits : Limits → Texts → Option (List ℕ) → Record → Type 0
NodeFits limits texts prop_bytes Other = Unit {0}
NodeFits limits texts prop_bytes (Revision rev) = Unit {0}
NodeFits limits texts prop_bytes (Node node) =
    IfSome prop_bytes (λ bytes. length bytes ≤ limits.props) × IfSome node.text (CanKeep texts limits.text)

-- the headers and the blank lines before them, and of a node the properties and a text that is kept
pub record IsWithin (limits : Limits) (texts : Texts) {bytes : List ℕ} {what : Record} {rest : List ℕ} (r : IsRecord bytes what rest) : Type 0 where
  pub headers_fit : length (ended r.block.blank) + length (header_lines r.headers) ≤ limits.headers
  pub node_fits : NodeFits limits texts r.prop_bytes what

-- each record, and the blank lines at the end
abbrev pub AreWithin : Limits → Texts → (bytes : List ℕ) (records : List Record) → AreRecords bytes records → Type 0
AreWithin limits texts bytes [] end = length bytes ≤ limits.headers
AreWithin limits texts bytes (what ∷ records) are = IsWithin limits texts are.1 × AreWithin limits texts are.0 records are.2

abbrev pub records_of_the_grammar_are_read : Type 0
records_of_the_grammar_are_read =
    (limits : Limits) (texts : Texts) (bytes : List ℕ) (what : Record) (rest : List ℕ) (r : IsRecord bytes what rest) → IsWithin limits texts r
    → record_at limits texts bytes ≡ Ok (Some (kept_record texts what), rest)

-- the lines of the first record too
pub record IsDumpWithin (limits : Limits) (texts : Texts) {bytes : List ℕ} {n : ℕ} {records : List Record} (d : IsDumpOf bytes n records) : Type 0 where
  pub first_fits : length (ended d.first.blank) + length (ended d.first.lines) ≤ limits.headers
  pub records_fit : AreWithin limits texts d.rest records d.are

abbrev pub dumps_of_the_grammar_are_read : Type 0
dumps_of_the_grammar_are_read =
    (limits : Limits) (texts : Texts) (bytes : List ℕ) (format : ℕ) (records : List Record) (d : IsDumpOf bytes format records)
    → IsDumpWithin limits texts d → IsDumpRead limits texts bytes format (kept_records texts records)

-- ---- the grammar has one meaning

abbrev pub records_are_one : Type 0
records_are_one =
    (bytes : List ℕ) (a b : Record) (rest after : List ℕ) → IsRecord bytes a rest → IsRecord bytes b after → (a ≡ b) × (rest ≡ after)

abbrev pub dumps_are_one : Type 0
dumps_are_one =
    (bytes : List ℕ) (f g : ℕ) (a b : List Record) → IsDumpOf bytes f a → IsDumpOf bytes g b → (f ≡ g) × (a ≡ b)

-- ---- what is written is by the grammar

-- within no limits but those of numbers
abbrev pub IsLawfulRecord : Record → Type 0
IsLawfulRecord Other = ⊥
IsLawfulRecord (Revision rev) = rev < 2 ^ 64
IsLawfulRecord (Node node) = IsNodeRecord node × (props_len node + text_len node < 2 ^ 64)

abbrev pub dumps_are_written_by_the_grammar : Type 0
dumps_are_written_by_the_grammar =
    (format : ℕ) (records : List Record) → 2 ≤ format → format ≤ 3 → All IsLawfulRecord records
    → IsDumpOf (format_record format ++ flat_map written_record records) format records
