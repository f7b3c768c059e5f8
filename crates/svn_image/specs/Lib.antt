pub mod Items
pub mod Refusals
pub mod Written
