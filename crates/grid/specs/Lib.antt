pub mod Axes
pub mod Grid
pub mod Rays
pub mod FromSpec
pub mod Causes
pub mod Retired
pub mod Facts
pub mod Centers
