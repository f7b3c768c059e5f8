-- numbers
pub mod NumberLemmas
-- decimal digits, written and read
pub mod Decimals
-- numbers that no further digit makes fit
pub mod LargeNumbers
-- paths as texts
pub mod PathTexts
