-- bytes that lack one: what is cut at that byte
pub mod Lacking
-- a value that one element of a list alone gives
pub mod Singles
-- what a choice or a result was
pub mod Choices
-- the headers of a record, as names with their values: what is looked up in their lines
pub mod HeaderFields
-- the bytes of a record, cut into its headers and what is after them
pub mod HeaderBlocks
-- checksums in hexadecimal digits
pub mod HexSums
-- paths as values of headers
pub mod PathFields
-- by the grammar: blank lines and the lines after them
pub mod GrammarBlocks
-- headers, and their values by name
pub mod GrammarHeaders
-- what the values of headers say, once they are read
pub mod GrammarValues
-- what the values of headers say is read
pub mod GrammarGiven
-- property sections
pub mod GrammarProps
-- both sections
pub mod GrammarSections
-- property sections that are written
pub mod PropSections
-- texts and text deltas that are written
pub mod TextSections
-- the headers of a node, as names with their values
pub mod NodeFields
-- values that are looked up in headers
pub mod FieldValues
-- records, read from their headers on
pub mod RecordReads
-- the records that are read are by the grammar
pub mod GrammarRecords
-- the records of the grammar are read, and no bytes are two of them
pub mod GrammarReads
-- nodes, read as they were written
pub mod NodeReads
-- revisions, and whole dumps, read as they were written
pub mod DumpReads
-- the first record, which gives the format
pub mod GrammarFormat
-- whole dumps
pub mod GrammarDumps
-- what was written is by the grammar
pub mod GrammarWritten
-- worked examples, computed
pub mod Rows
-- a worked example of the grammar, computed
pub mod GrammarRows
