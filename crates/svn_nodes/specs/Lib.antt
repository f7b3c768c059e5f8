pub mod NodeTests
pub mod Ahead
pub mod Gathered
pub mod Standing
pub mod Tails
pub mod Overwriting
pub mod Lines
pub mod Handfuls
