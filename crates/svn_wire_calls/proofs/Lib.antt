-- what is written piece after piece
pub mod Appends
-- calls that are written one after another
pub mod Writings
-- the image of calls where one thing is said of each path
pub mod Images
-- a text that is sent piece by piece
pub mod Sendings
-- the chunks of a text are one delta
pub mod Chunks
