-- What is written of the records of a dump: the same, but that texts are whole.
--     IsWhole node whole      the same record, whose text is whole
--     IsWritten node bytes      the bytes are written of the record with its text whole
--     IsExpanded uuid index what bytes      the bytes are written of the record, where the dump gives this UUID and this index
--     ExpandsNext limits old new uuid index found      so are those that are found, of the next record; none are at the end of all
use Rattle.std.specs.Prelude.{◌≡◌, ℕ, List, [], ◌++◌, length, codes, Option, Some, None, option_and_then, Ok}
use Rattle.svn_dump.specs.declared.index.DumpIndex.{DumpIndex}
use Rattle.svn_dump.specs.declared.reader.Reader.{Reader}
use Rattle.svn_dump.specs.declared.record.NodeRecord.{NodeRecord}
use Rattle.svn_dump.specs.declared.record.Record.{Record}
use Rattle.svn_dump.specs.declared.record.Record.TheVariants.{Other, Revision, Node}
use Rattle.svn_dump.specs.declared.record.TextDelta.{TextDelta}
use Rattle.svn_dump.specs.declared.record.TextSection.{TextSection}
use Rattle.svn_dump.specs.declared.record.TextSection.TheVariants as text
use Rattle.svn_dump.specs.declared.sections.Limits.{Limits}
use Rattle.svn_dump.specs.declared.sections.Texts.TheVariants.{Whole}
use Rattle.svn_dump.specs.Headers.{header_value, if_once}
use Rattle.svn_dump.specs.Indexes.{date_of, author_of}
use Rattle.svn_dump.specs.Reading.{Reads}
use Rattle.svn_dump.specs.Records.{record_at}
use Rattle.svn_dump.specs.Written.{line, number_line, run, written}
use Rattle.svn_expand.specs.Deltas.{IsMade}

-- a text that is given as a delta is what it makes of some text before
pub data IsWholeText : Option TextSection → Option TextSection → Type 0 where
  no_text : IsWholeText None None
  whole : {bytes : List ℕ} → IsWholeText (Some (text.Whole bytes)) (Some (text.Whole bytes))
  made : {delta : TextDelta} (base bytes : List ℕ) → IsMade base delta bytes
      → IsWholeText (Some (text.Delta delta)) (Some (text.Whole bytes))

pub record IsWhole (node whole : NodeRecord) : Type 0 where
  pub same : whole ≡ record node { text = whole.text }
  pub text : IsWholeText node.text whole.text

-- the text that takes the place of another, if one does
abbrev pub text_or : Option TextSection → Option (List ℕ) → Option TextSection
text_or old None = old
text_or old (Some bytes) = Some (text.Whole bytes)

-- ---- revisions, with their date and author

abbrev pub entry_if : List ℕ → Option (List ℕ) → List ℕ
entry_if name None = []
entry_if name (Some value) = run 75 name ++ run 86 value

unfoldable pub noted_props : Option (List ℕ) → Option (List ℕ) → List ℕ
noted_props date author = entry_if (codes "svn:author") author ++ entry_if (codes "svn:date") date ++ codes "PROPS-END\n"

abbrev pub revision_headers : ℕ → ℕ → List ℕ
revision_headers rev len =
    number_line (codes "Revision-number") rev ++ number_line (codes "Prop-content-length") len ++ number_line (codes "Content-length") len

unfoldable pub revision_bytes : ℕ → List ℕ → List ℕ
revision_bytes rev props = revision_headers rev (length props) ++ codes "\n" ++ props ++ codes "\n"

-- ---- records

abbrev pub uuid_bytes : Option (List ℕ) → List ℕ
uuid_bytes None = []
uuid_bytes (Some uuid) = line (codes "UUID") uuid ++ codes "\n"

-- what the headers give that were read last
abbrev pub uuid_in : {R : Type 0} → Reader R → Option (List ℕ)
uuid_in reader = if_once (header_value reader.block.items (codes "UUID"))

abbrev pub noted_in : Option DumpIndex → ℕ → List ℕ
noted_in index rev = noted_props (option_and_then (λ i. date_of i rev) index) (option_and_then (λ i. author_of i rev) index)

pub record IsWritten (node : NodeRecord) (bytes : List ℕ) : Type 0 where
  pub whole : NodeRecord
  pub is_whole : IsWhole node whole
  pub bytes_are : bytes ≡ written whole

pub data IsExpanded (uuid : Option (List ℕ)) (index : Option DumpIndex) (what : Record) (bytes : List ℕ) : Type 0 where
  other : what ≡ Other → bytes ≡ uuid_bytes uuid → IsExpanded uuid index what bytes
  revision : (rev : ℕ) → what ≡ Revision rev → bytes ≡ revision_bytes rev (noted_in index rev) → IsExpanded uuid index what bytes
  node : (node : NodeRecord) → what ≡ Node node → IsWritten node bytes → IsExpanded uuid index what bytes

abbrev pub IsExpandedIf : Option (List ℕ) → Option DumpIndex → Option Record → Option (List ℕ) → Type 0
IsExpandedIf uuid index None None = Unit {0}
IsExpandedIf uuid index None (Some bytes) = ⊥
IsExpandedIf uuid index (Some what) None = ⊥
IsExpandedIf uuid index (Some what) (Some bytes) = IsExpanded uuid index what bytes

-- of the bytes that a reader has left before and after, where they are known
pub record ExpandsNext (limits : Limits) (old new : Option (List ℕ)) (uuid : Option (List ℕ)) (index : Option DumpIndex) (found : Option (List ℕ))
    : Type 0 where
  pub what : Option Record
  pub read : Reads (λ r. r) old new (Ok what) (record_at limits Whole)
  pub expanded : IsExpandedIf uuid index what found
