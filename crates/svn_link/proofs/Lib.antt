-- lists of calls that end at a last call
pub mod CallLists
-- each move of the queue keeps its rule
pub mod Moves
-- each step of the notice keeps its rule
pub mod Telling
-- what holds of each of a list of views, after one changed or a new one came
pub mod Views
