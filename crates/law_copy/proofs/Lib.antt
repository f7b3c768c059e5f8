-- the last name of a path, and where nothing is, nothing changes
pub mod PathParts
-- a copy as a map, and as the function from paths
pub mod Lookups
-- lists of nodes in path order, and what is at each path
pub mod NodeLists
-- what one step does at each path
pub mod StepEffects
-- what one more call makes of the steps, the copy and the target
pub mod Appending
-- each token has a path of its own, and nothing is said of a path that wasn't opened
pub mod OnePath
-- the shape of a copy after one node is changed, after a delete and after the end
pub mod OneNode
-- where an edit opened a directory, a directory is there from then on
pub mod OpenStand
-- what is at the path of an open file stays until its close
pub mod FilesStand
-- a call that isn't refused keeps the shape of the copy
pub mod Shape
-- the entries of a directory, and where each is below a path
pub mod Entries
-- a copy with another tree at a path: its shape and its truth
pub mod Parts
-- checkouts, placed parts, switches, what is forgotten, and commits keep copies true
pub mod Builds
-- a list of nodes without a fault has the shape of a copy
pub mod ShapedLists
-- no path is untrue exactly where the copy is true
pub mod TruthTests
-- what a crawl has at each path
pub mod Crawls
-- a reporter takes a crawl, entry by entry
pub mod CrawlReports
