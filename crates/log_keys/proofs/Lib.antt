-- The laws of `log_keys`.
pub mod Keeping
pub mod Wanting
pub mod Past
pub mod Infinity
pub mod Hits
