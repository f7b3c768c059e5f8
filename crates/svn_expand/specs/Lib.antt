pub mod Results
pub mod Deltas
pub mod Records
