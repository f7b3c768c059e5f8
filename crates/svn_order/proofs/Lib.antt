-- names in order: what is after them, what a search finds, one more
pub mod OrderedNames
-- one element of a list of tokens or of open directories changed
pub mod Changes
-- what holds of each list of calls that are in order
pub mod Sound
-- the directories that are open after one more call
pub mod OpenDirectories
-- a list of calls that are in order, and one more
pub mod Lawful
-- what the check finds in its tokens and directories is what the calls before say
pub mod Looking
-- each test of the check is that of the calls before, and so is its first fault
pub mod Answering
-- tokens and stage after one more call
pub mod HoldingTokens
-- the open directories after one more call
pub mod HoldingDirectories
-- the check holds what the calls say, one more call included
pub mod Holding
-- a step while the edit goes on: its result, what it accepts, what a refusal leaves
pub mod Stepping
