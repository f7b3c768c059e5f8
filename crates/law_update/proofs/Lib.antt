-- the changes between two lists of properties turn the first into the second
pub mod PropChanges
-- what is in a copy that a report describes is what the request's sources have there
pub mod Described
-- the crawl of a true copy describes it
pub mod CrawlDescribes
-- the crawl of a true copy is checkable
pub mod CrawlCheckable
-- what is at each path after the first steps of a drive
pub mod States
-- which steps of other paths are among the first steps of a drive
pub mod FirstSteps
-- what a drive deletes: no kept path, and of what isn't kept, the path or one above
pub mod Deletes
-- what the actions of a path leave as it is
pub mod Keeping
-- after the first steps of a drive each path is as its own actions say
pub mod AfterSteps
-- calls and steps: after a drive's first calls each path is as its own actions say
pub mod AfterCalls
-- what a path has after all of its actions
pub mod AfterAllSteps
-- after all steps and the last call the copy is the result
pub mod EndsAsResult
-- the copy refuses no step of a drive
pub mod NoEditFault
-- which steps of a drive come before and after one of them, and which there are
pub mod StepOrder
-- a path's token is its place among all paths that the drive opens
pub mod TokenNumbers
-- each test on earlier calls as a test on the steps
pub mod CallTests
-- the directories that are open at a step of a drive are those above its path
pub mod OpenDirectories
-- the current file at a step of a drive
pub mod CurrentFile
-- the tests of the order check, all together
pub mod OrderTests
-- no call of a drive is out of order
pub mod NoOrderFault
-- the calls of a drive are lawful
pub mod LawfulDrives
-- a drive's calls are accepted, and after all of them the copy is the result
pub mod Composition
-- how far the first steps of a drive have come at each path
pub mod Progress
-- after the first steps each path has what was there, a node that is begun, or the target's node
pub mod PrefixStates
-- after the first steps or calls of a drive the copy has its shape and is true
pub mod PrefixTruth
-- a copy that a stopped drive leaves leads each path to the same place in the target
pub mod Resuming
-- worked examples of the definitions, computed
pub mod Rows
