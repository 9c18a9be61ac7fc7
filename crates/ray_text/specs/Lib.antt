-- The definitions that the contracts of `ray_text` cite, and document 01's example.
pub mod Run
pub mod Example
