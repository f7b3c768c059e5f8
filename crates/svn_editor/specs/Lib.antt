pub mod FaultNumbers
pub mod Faults
pub mod Calls
pub mod Order
pub mod Editing
pub mod Words
pub mod Lines
pub mod Steps
