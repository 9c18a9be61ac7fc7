pub mod Rays
pub mod All
