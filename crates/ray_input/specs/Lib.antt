-- The definitions that the contracts of `ray_input` cite.
pub mod Format
pub mod Steps
