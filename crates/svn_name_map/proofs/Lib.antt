-- what each name has, and how many there are, after a pair is put in or taken out
pub mod Changed
-- the pairs of runs, one run after the other, around one of the runs; and the run for a name
pub mod Joined
-- a name among pairs before it and after it: looked up, put in and taken out
pub mod Ordered
-- pairs stay in order, and their names and values are those that were there or the new one
pub mod Pairs
-- names and values side by side
pub mod Zipped
