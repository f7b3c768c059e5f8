-- what is read in several steps
pub mod Steps
-- items, token by token
pub mod ItemLemmas
-- runs of bytes of one class
pub mod Runs
-- tokens, read as they were written
pub mod TokenReads
-- items, read as they were written
pub mod ItemReads
-- what a choice or a result was
pub mod Choices
-- what is read is a token
pub mod TokenForms
-- what is read is an item
pub mod ItemForms
-- bytes that come later
pub mod Pieces
-- items of a stream that comes in pieces
pub mod StreamLemmas
-- the items of a stream that comes in pieces, one after the other; also for crates that hold a stream
pub mod StreamItems
-- sessions
pub mod SessionLemmas
-- URLs, read as they were written
pub mod UrlReads
-- what is held of a stream
pub mod Holding
