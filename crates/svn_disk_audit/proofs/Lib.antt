-- Texts that are read to their end, and kept.
pub mod KeptTexts
-- What the parts of an audit say together.
pub mod Verdicts
