pub mod Tokens
pub mod NameSets
pub mod Directories
pub mod OrderState
pub mod StandsAfter
pub mod OrderChanges
