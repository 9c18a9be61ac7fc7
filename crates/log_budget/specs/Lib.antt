-- The definitions that the contracts of `log_budget` cite.
pub mod Answer
pub mod Steps
