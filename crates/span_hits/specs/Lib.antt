-- The definitions that the contracts of `span_hits` cite.
pub mod Hits
