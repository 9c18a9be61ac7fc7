-- The definitions that the contracts of `log_long` cite.
pub mod Long
