-- entries of a directory that are written one after another
pub mod Entries
-- what is written piece after piece
pub mod Appends
-- a last change, written piece after piece
pub mod LastChanges
