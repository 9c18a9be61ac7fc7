-- The definitions that the contracts of `span_overlay` cite.
pub mod Steps
