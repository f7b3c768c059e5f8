pub mod Noted
pub mod Applying
pub mod Leaving
pub mod Taking
pub mod Closing
pub mod Opening
pub mod Carrying
