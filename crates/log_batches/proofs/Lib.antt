-- The laws of `log_batches`.
pub mod Batching
pub mod Same
