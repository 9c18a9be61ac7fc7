pub mod IntegerParts
pub mod Rounding
pub mod Values
pub mod Monotone
pub mod Roots
