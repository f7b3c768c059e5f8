pub mod FaultNames
pub mod Answers
pub mod ScriptStates
pub mod Runs
pub mod Commands
pub mod Scripts
