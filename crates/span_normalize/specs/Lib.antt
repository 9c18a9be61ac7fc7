-- The definitions that the contracts of `span_normalize` cite.
pub mod Causes
