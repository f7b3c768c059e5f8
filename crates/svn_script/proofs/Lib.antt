-- the words after the name of a command
pub mod OperandLemmas
-- the end of a line
pub mod Splits
-- words with escapes
pub mod Escapes
-- paths in words
pub mod WordLemmas
