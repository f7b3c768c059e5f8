pub mod FaultNumbers
pub mod Reading
pub mod Gives
pub mod Verbs
pub mod Operands
pub mod Commands
