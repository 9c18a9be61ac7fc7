pub mod Steps
pub mod Subtract
