-- Laws that belong to no one function.
pub mod Rays
pub mod Answers
