-- Laws that belong to no one function.
pub mod Step
pub mod Reading
