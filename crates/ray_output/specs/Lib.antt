-- The definitions that the contracts of `ray_output` cite.
pub mod Output
