-- truth values, and what tests on numbers say
pub mod Tests
-- what the comparison of two numbers returns, and orderings one after the other
pub mod Orderings
-- numbers of two digits where the first decides
pub mod Digits
-- what is equal, tests of equality, and that of lists of bytes
pub mod Equality
-- options: whether there is a value, the first of two, and values that are taken where a test holds
pub mod Options
-- results: what follows of a value or an error
pub mod Results
-- what holds of each element of a list
pub mod Every
-- tests on lists: whether an element passes, and whether all do
pub mod Somewhere
-- lists that are filtered
pub mod Filters
-- what is at a place in a list
pub mod Places
-- lists put together, and their parts
pub mod Parts
-- where a test parts a list
pub mod Points
-- lists that are cut at the elements that pass a test
pub mod Splits
-- lists in strict order, and parts of them
pub mod Sorted
-- two lists side by side
pub mod Zips
-- lists of keys with values
pub mod Entries
