pub mod Bounds
pub mod RayLoops
pub mod Steps
pub mod ListLoops
