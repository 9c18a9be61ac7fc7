pub mod Axes
pub mod Turning
