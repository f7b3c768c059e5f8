-- readers
pub mod Streams
pub mod Sequences
pub mod Counting
pub mod Failing
-- the headers of a record
pub mod BlockLemmas
pub mod HeaderLemmas
-- property sections
pub mod PropertyLemmas
-- so many bytes
pub mod Pieces
-- headers with a type
pub mod FieldLemmas
-- a reader, made
pub mod Openings
-- records
pub mod RecordLemmas
-- what is written
pub mod Appends
-- an index
pub mod Indexing
