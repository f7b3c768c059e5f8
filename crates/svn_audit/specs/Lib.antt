pub mod Below
pub mod Lines
pub mod NotedLines
pub mod Places
pub mod Printing
pub mod Reasons
pub mod Sparse
pub mod Untrue
