-- The definitions that the contracts of `span_join` cite.
pub mod Steps
