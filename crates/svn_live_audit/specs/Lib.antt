pub mod Kept
pub mod Verdicts
pub mod Rounds
pub mod Places
pub mod Conversations
pub mod Honest
