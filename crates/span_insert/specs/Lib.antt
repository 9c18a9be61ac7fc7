-- The definitions that the contracts of `span_insert` cite.
pub mod Steps
