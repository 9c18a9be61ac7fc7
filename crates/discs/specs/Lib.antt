pub mod Disc
pub mod Outer
pub mod Standing
pub mod Example
