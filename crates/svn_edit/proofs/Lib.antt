-- Pools after strings were pushed, and what is said there.
pub mod PoolStrings
-- What is said, read note by note.
pub mod Saying
-- How many tokens are open after one more call.
pub mod OpenCounts
-- The path of what is open under a token.
pub mod OpenPaths
-- The batons after one more call.
pub mod HeldBatons
-- What an edit holds after one more call.
pub mod Holding
-- Memory is returned for no call that is out of order.
pub mod InOrder
-- The pools that a refused call leaves.
pub mod LeftPools
-- The close of a directory: what was said of it is done, and its baton goes.
pub mod Closes
-- What is noted of the text that an open file has in the copy stays so.
pub mod Bases
-- The close of a file: its text is checked, what was said of it is done, and its baton goes.
pub mod FileCloses
-- The last call among the others: what it returns and leaves, and how many pools are live.
pub mod Switching
-- What a call that is in order makes of an edit, by what its function says.
pub mod Takings
-- What a call that is in order and not refused makes of an edit that tests neither.
pub mod Carrying
-- An edit that no call was given to.
pub mod Beginning
-- The shape of the copy after a call of an applier.
pub mod ShapedCalls
