-- The laws of `log_gather`.
pub mod Room
pub mod Pairs
pub mod Entries
