-- The definitions that the contracts of `log_count` cite.
pub mod Totals
pub mod Steps
