-- lists that are cut where a test passes: bytes at a separator, a text at its first slash
pub mod Splits
-- names: tests on them, their order, and what is found under them
pub mod NameLemmas
-- names of properties, which are ASCII
pub mod PropNames
-- names put one by one into a set
pub mod NameSets
-- two lists of properties, merged: the first name of either is taken
pub mod Merges
-- paths: their parts, and paths above and below one another
pub mod PathLemmas
-- paths in their order, and what is below a path directly after it
pub mod PathsInOrder
-- keys of paths, whose order is that of the paths
pub mod PathKeys
-- heads of keys, which decide most comparisons
pub mod PathHeads
-- bytes in place, whose order two words decide
pub mod ShortWords
-- heads that hold whole keys
pub mod WholeHeads
-- keys of paths, which are texts
pub mod KeyTexts
-- paths that leave out names at the front of their block
pub mod Cuts
-- the digits of a checksum, which are text
mod Digests
