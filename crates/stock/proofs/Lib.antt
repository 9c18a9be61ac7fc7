pub mod Rays
pub mod Causes
pub mod Answers
