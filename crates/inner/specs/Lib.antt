-- The definitions that the contracts of `inner` cite.
pub mod Geometry
pub mod Orderings
