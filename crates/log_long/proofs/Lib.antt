-- The laws of `log_long`.
pub mod Stretching
pub mod Reaching
pub mod Gathering
