-- How words are printed.
pub mod PrintedWords
-- Worked examples: each rule of the order, and lists that keep them all.
pub mod OrderRows
-- What one more call adds to the readings of a list of calls.
pub mod OneMore
-- What follows from an accepted call for the calls before it.
pub mod Accepted
-- What was given to a token, and which tokens are above one another.
pub mod Nested
