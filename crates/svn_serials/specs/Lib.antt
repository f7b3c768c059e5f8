pub mod Lends
pub mod Serials
pub mod Slots
