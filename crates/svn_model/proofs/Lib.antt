-- what a path one name longer has: in a revision, in a report, and in a result
pub mod Children
