pub mod Laws
pub mod CopyLaws
