-- The records of a dump.
--     record_at limits texts bytes      the next record and the bytes after it; none at the end of all
--     format_at limits bytes      the bytes after the first record, which gives the format
use Rattle.std.specs.Prelude.{ℕ, Bool, true, false, ◌&&◌, ◌||◌, List, [], ◌∷◌, nat_le, codes, is_some, Option, Some, None, Result, Ok, Err, if◌then◌else◌}
use Rattle.svn_dump.specs.declared.fault.Reason.{Reason}
use Rattle.svn_dump.specs.declared.fault.Reason.TheVariants.{NotADump, Version, NotAHeader, UnknownRecord}
use Rattle.svn_dump.specs.declared.record.Record.{Record}
use Rattle.svn_dump.specs.declared.record.Record.TheVariants.{Other, Revision, Node}
use Rattle.svn_dump.specs.declared.record.NodeRecord.{NodeRecord}
use Rattle.svn_dump.specs.declared.reader.Subject.{Subject}
use Rattle.svn_dump.specs.declared.reader.Subject.TheVariants as subjects
use Rattle.svn_dump.specs.declared.sections.Limits.{Limits}
use Rattle.svn_dump.specs.declared.sections.Texts.{Texts}
use Rattle.svn_dump.specs.Reading.{◌>>=◌}
use Rattle.svn_dump.specs.Blocks.{block_at}
use Rattle.svn_dump.specs.Headers.{header_value, are_headers}
use Rattle.svn_dump.specs.Fields.{number_value, path_value, kind_value, action_value, source_value}
use Rattle.svn_dump.specs.Shapes.{lengths_of, shape_of}
use Rattle.svn_dump.specs.Sections.{Read, after_sections, prop_section_at, text_section_at}

-- ---- what a record is about

abbrev pub is_given : List ℕ → List ℕ → Result Bool Reason
is_given block name = header_value block name >>= λ value. Ok (is_some value)

-- a node's path is given, or what only the whole dump has
abbrev pub subject_with : Bool → Bool → Result Subject Reason
subject_with true other = Ok subjects.Node
subject_with false true = Ok subjects.Other
subject_with false false = Err UnknownRecord

abbrev pub other_subject : List ℕ → Result Subject Reason
other_subject block = do
  node ← is_given block (codes "Node-path")
  uuid ← is_given block (codes "UUID")
  format ← is_given block (codes "SVN-fs-dump-format-version")
  subject_with node (uuid || format)

abbrev pub subject_by : Option ℕ → List ℕ → Result Subject Reason
subject_by None block = other_subject block
subject_by (Some rev) block = Ok (subjects.Revision rev)

unfoldable pub subject_of : List ℕ → Result Subject Reason
subject_of block =
    if are_headers block then (number_value block (codes "Revision-number") >>= λ rev. subject_by rev block) else Err NotAHeader

-- ---- nodes

-- a node's record without its sections
unfoldable pub node_of : List ℕ → Result NodeRecord Reason
node_of block = do
  path ← path_value block
  kind ← kind_value block
  action ← action_value block
  source ← source_value block
  Ok (record { path = path; kind = kind; action = action; source = source; props = None; text = None })

unfoldable pub node_at : Limits → Texts → List ℕ → List ℕ → Read Record
node_at limits texts block bytes = do
  node ← node_of block
  shape ← shape_of block
  props ← prop_section_at shape limits.props bytes
  text ← text_section_at shape texts limits.text props.1
  Ok (Node (record { path = node.path; kind = node.kind; action = node.action; source = node.source; props = props.0; text = text.0 }), text.1)

-- ---- records

abbrev pub passed_at : Record → List ℕ → List ℕ → Read Record
passed_at what block bytes = lengths_of block >>= λ lengths. after_sections lengths bytes >>= λ read. Ok (what, read.1)

abbrev pub subject_at : Limits → Texts → Subject → List ℕ → List ℕ → Read Record
subject_at limits texts subjects.Other block bytes = passed_at Other block bytes
subject_at limits texts (subjects.Revision rev) block bytes = passed_at (Revision rev) block bytes
subject_at limits texts subjects.Node block bytes = node_at limits texts block bytes

-- the record whose headers these are
abbrev pub headed_at : Limits → Texts → List ℕ → List ℕ → Read Record
headed_at limits texts block bytes = subject_of block >>= λ subject. subject_at limits texts subject block bytes

-- no headers are the end
abbrev pub record_after : Limits → Texts → List ℕ → List ℕ → Read (Option Record)
record_after limits texts [] bytes = Ok (None, bytes)
record_after limits texts (b ∷ block) bytes = headed_at limits texts (b ∷ block) bytes >>= λ read. Ok (Some read.0, read.1)

unfoldable pub record_at : Limits → Texts → List ℕ → Read (Option Record)
record_at limits texts bytes = block_at false limits.headers bytes >>= λ block. record_after limits texts block.0 block.1

-- ---- the first record

abbrev pub format_of : Option ℕ → Result ℕ Reason
format_of None = Err NotADump
format_of (Some format) = if nat_le 2 format && nat_le format 3 then Ok format else Err (Version format)

abbrev pub format_value : List ℕ → Result ℕ Reason
format_value block = number_value block (codes "SVN-fs-dump-format-version") >>= format_of

unfoldable pub format_at : Limits → List ℕ → Read ℕ
format_at limits bytes =
    block_at false limits.headers bytes >>= λ block. format_value block.0 >>= λ format. Ok (format, block.1)
