-- The definitions that the contracts of `log_stretches` cite.
pub mod Stretches
