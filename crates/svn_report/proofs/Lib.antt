-- entries found by their path and by what is next to it; one more entry
pub mod Listings
-- entries in path order, and what is next to a path there
pub mod InOrder
-- the order in which directories end
pub mod EndOrder
-- the next name below a path at which a report has entries
pub mod NextNames
-- the reported names below a path, one after the other
pub mod ReportedNames
-- what follows the revision in an entry's line
mod Endings
-- the entries in path order, as they came or sorted
mod Sorting
-- clones of entries and of an index
mod Clones
