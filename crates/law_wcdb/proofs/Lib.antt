-- readings that gave something
mod Choices
-- the pages of a file
mod Pages
-- chains of overflow pages, and rows
mod ChainReads
-- pages, and trees of them
mod TreeReads
-- trees that are refused
mod TreeFaults
-- trees that the pages hold
mod StoredReads
-- pages of a table, no two the same
mod PagesApart
mod LinksApart
mod PageCounts
-- the laws
mod Tables
-- a worked example, computed
mod Rows
