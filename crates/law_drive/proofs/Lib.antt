-- the keys of steps, their order, and the path of each
pub mod Keys
-- what a path's actions are, one after the other
pub mod Courses
-- what a report says of a path, and what is there by what is at its parent
pub mod Reporting
-- a path has steps only below a directory that is opened or added
pub mod Classes
-- names in their order, and those that lead to a path with actions
pub mod Ways
-- the steps of a tree at one path: what is done there, once
pub mod TreePaths
-- the steps of a tree are in order of their keys
pub mod TreeOrder
-- what a checkable report asks for can be served, and the list of its tree is its drive
pub mod ReportDrives
-- the numbers of opened paths, and the calls of steps at one path
pub mod Tokens
-- the calls of a tree of steps with their tokens are the calls of the walk
pub mod TreeNumbers
-- the calls of a whole walk are those of a drive
pub mod CallDrives
-- there is one list of steps with the steps of each path, in order of the keys
pub mod OneDrive
-- a new path is below one that is touched or new
pub mod NewPaths
-- when a target has no fault
pub mod Targets
