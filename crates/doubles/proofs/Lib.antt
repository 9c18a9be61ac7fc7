pub mod Order
pub mod Pick
pub mod Ranges
pub mod Total
pub mod Held
pub mod Whole
pub mod Greatest
