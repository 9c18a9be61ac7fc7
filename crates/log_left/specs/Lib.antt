-- The definitions that the contracts of `log_left` cite.
pub mod ListLeft
pub mod Steps
