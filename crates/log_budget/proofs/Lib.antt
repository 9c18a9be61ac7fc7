-- The laws of `log_budget`.
pub mod Answers
pub mod Division
pub mod Passing
pub mod Sorting
pub mod Turns
