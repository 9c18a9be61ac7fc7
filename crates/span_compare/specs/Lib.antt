-- The definitions that the contracts of `span_compare` cite.
pub mod Verdicts
