pub mod Reaching
pub mod Arriving
