pub mod Places
pub mod Sizes
pub mod Axes
pub mod Wholes
