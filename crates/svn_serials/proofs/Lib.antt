-- what slots hold after each change of them
pub mod Held
-- slots stay in order, and end with a value
pub mod Order
-- for callers: a map by its pairs, after one is put in, written or removed
pub mod Pairs
-- what a map keeps of its fields, after each change of them
pub mod Sound
