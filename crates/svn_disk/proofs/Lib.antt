-- which steps a call takes
pub mod Going
-- steps in the administrative folder, and a crash during them
pub mod Leaving
-- the administrative folder gets its name
pub mod Moving
-- parts of a call one after the other, and a crash during them
pub mod Running
-- a copy that is whole stays so
pub mod Whole
-- steps that are elsewhere than what is kept of a copy
pub mod Beside
-- pristine texts have places of their own
pub mod TextPlaces
-- which steps are of the copy
pub mod Placing
-- parts of a call that add to the administrative folder
pub mod Adding
-- the parts of a checkout and of a change, and a crash during each
pub mod Replacing
-- what a folder shows when it is read back
pub mod Reading
-- lists that are made of the nodes of a copy
pub mod Planning
-- nodes that compare as equal are the same
mod NodeEquality
-- copies in whatever order their rows are
pub mod Copies
-- work at nodes of two copies
pub mod Changing
-- the steps of a checkout and of a change change nothing elsewhere
pub mod Elsewhere
-- what is shown after parts of a call
pub mod Ends
-- work, done, and what is shown then
pub mod EndsWork
-- files under names of their own
pub mod EndsTexts
-- work, carried out: what goes, and then what comes
pub mod EndsDone
-- a completion, and what is shown then
pub mod EndsAgain
-- a change, and what is shown then
pub mod EndsChange
-- each path at which two copies differ
pub mod EachChange
-- the changes of a list, in place
pub mod InPlace
-- the nodes of a copy at their places
pub mod EndsCopy
-- texts that are written in another way
pub mod Rewriting
-- steps, each in the state in which it is taken, and what they spare
pub mod Sparing
-- what is found at a path
pub mod Finding
-- the work that a queue names
pub mod Queue
-- the texts that are known
pub mod KnownWords
