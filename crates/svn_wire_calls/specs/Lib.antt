-- commands of the protocol
pub mod Commands
-- a text in pieces that are read and written one by one
pub mod Pieces
-- a text as far as it was sent
pub mod Sending
-- the calls of an edit, as the protocol has them
pub mod Calls
-- the calls that go to the wire for calls whose texts stand for others
pub mod Shown
-- the image of a drive, with what is said of each node
pub mod Entries
-- what an editor has written
pub mod Laws
