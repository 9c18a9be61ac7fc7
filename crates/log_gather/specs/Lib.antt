-- The definitions that the contracts of `log_gather` cite.
pub mod Gathering
