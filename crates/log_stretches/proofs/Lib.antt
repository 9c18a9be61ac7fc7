-- The laws of `log_stretches`.
pub mod Taking
pub mod Stretching
