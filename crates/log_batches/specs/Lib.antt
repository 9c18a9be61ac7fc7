-- The definitions that the contracts of `log_batches` cite.
pub mod Batches
