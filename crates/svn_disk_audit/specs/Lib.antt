pub mod Pristine
pub mod Keeping
pub mod Sparse
pub mod Audits
pub mod Repositories
pub mod FaultTexts
