-- The definitions that the contracts of `ray_merge` cite.
pub mod Merge
pub mod Handed
