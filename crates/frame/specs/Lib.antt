pub mod Frame
pub mod Turns
