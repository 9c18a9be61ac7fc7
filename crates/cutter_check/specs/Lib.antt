-- The definitions that the contracts of `cutter_check` cite.
pub mod Steps
