pub mod Aboves
pub mod Crawling
pub mod Taking
pub mod Truths
pub mod Building
pub mod Listed
pub mod Lines
pub mod Unswitched
